-- A small file for each line, in plain words.
use Rattle.std.specs.Prelude.{List, [], ◌∷◌, ◌++◌, ◌≡◌, refl, ℕ}
use Rattle.numbers.specs.Digits.{digits, decimal}
use Rattle.numbers.specs.Lists.{list_at}
use Rattle.image.specs.Judging.{span_at, end_judged, judged_of}
use Rattle.reason.specs.Words.{characters, filled}
use Rattle.reason.specs.Reason.{reason_of}

-- one byte of memory
abbrev memory : List ℕ
memory = 0x00 ∷ 0x00 ∷ 0x00 ∷ 0x01 ∷ 0x3D ∷ []

-- an empty section
abbrev nothing : List ℕ
nothing = 0x00 ∷ 0x00 ∷ 0x00 ∷ 0x00 ∷ []

abbrev one : List ℕ
one = 0x00 ∷ 0x00 ∷ 0x00 ∷ 0x01 ∷ []

pub ascii : characters "Az 09\n" ≡ 0x41 ∷ 0x7A ∷ 0x20 ∷ 0x30 ∷ 0x39 ∷ 0x0A ∷ []
ascii = refl

pub empty-file : reason_of [] ≡ characters "section 1 (memory), byte 0: a count of 4 bytes should stand here, and the file has 0 bytes\n"
unfolding judged_of span_at digits decimal filled reason_of
empty-file = refl

pub no-memory : reason_of nothing ≡ characters "section 1 (memory), byte 0: the count is 0, and 1 to 32768 is allowed\n"
unfolding judged_of span_at digits decimal filled reason_of
no-memory = refl

pub cut-cell : reason_of (memory ++ one ++ (0x00 ∷ 0x00 ∷ []))
    ≡ characters "section 2 (cells), byte 5: the count 1 asks for 4 bytes after it, and the file has 11 bytes\n"
unfolding judged_of span_at digits decimal filled reason_of
cut-cell = refl

pub long-budget : reason_of (memory ++ nothing ++ one ++ (0x00 ∷ 0x0F ∷ 0x42 ∷ 0x41 ∷ []))
    ≡ characters "section 3 (budget), byte 13: the budget is 1000001, and 0 to 1000000 is allowed\n"
unfolding list_at judged_of span_at end_judged digits decimal filled reason_of
long-budget = refl

pub byte-too-many : reason_of (memory ++ nothing ++ nothing ++ (0x00 ∷ []))
    ≡ characters "section 3 (budget) ends before byte 13, and nothing may follow it\n"
unfolding list_at judged_of span_at end_judged digits decimal filled reason_of
byte-too-many = refl

pub good-file : reason_of (memory ++ nothing ++ nothing) ≡ characters "the image is good; memory bytes: 1, cells: 0\n"
unfolding list_at judged_of span_at end_judged digits decimal filled reason_of
good-file = refl
