-- A small file for each clause: what the judge finds, and at which byte.
use Rattle.std.specs.Prelude.{List, [], ◌∷◌, ◌++◌, ◌≡◌, refl, ℕ}
use Rattle.numbers.specs.Lists.{list_at}
use Rattle.image.specs.Judging.{fails, span_at, end_judged, judged_of}
use Rattle.image.specs.declared.Section.TheVariants as section
use Rattle.image.specs.declared.Fault.TheVariants as fault

-- one byte of memory
abbrev memory : List ℕ
memory = 0x00 ∷ 0x00 ∷ 0x00 ∷ 0x01 ∷ 0x3D ∷ []

-- an empty section
abbrev nothing : List ℕ
nothing = 0x00 ∷ 0x00 ∷ 0x00 ∷ 0x00 ∷ []

abbrev one : List ℕ
one = 0x00 ∷ 0x00 ∷ 0x00 ∷ 0x01 ∷ []

pub empty-file : judged_of [] ≡ fails 14 (fault.Cut section.Memory 0)
unfolding judged_of span_at
empty-file = refl

pub no-memory : judged_of nothing ≡ fails 14 (fault.Count section.Memory 0)
unfolding judged_of span_at
no-memory = refl

-- 40000001 cells of 4 bytes would be 4 bytes, were the product cut to 32 bits
pub wild-count : judged_of (memory ++ (0x40 ∷ 0x00 ∷ 0x00 ∷ 0x01 ∷ []) ++ one ++ nothing) ≡ fails 14 (fault.Count section.Cells 5)
unfolding judged_of span_at
wild-count = refl

pub cut-cell : judged_of (memory ++ one ++ (0x00 ∷ 0x00 ∷ [])) ≡ fails 14 (fault.Cut section.Cells 5)
unfolding judged_of span_at
cut-cell = refl

pub no-third-section : judged_of (memory ++ nothing) ≡ fails 14 (fault.Cut section.Budget 9)
unfolding judged_of span_at
no-third-section = refl

pub long-budget : judged_of (memory ++ nothing ++ one ++ (0x00 ∷ 0x0F ∷ 0x42 ∷ 0x41 ∷ [])) ≡ fails 14 (fault.Budget 13)
unfolding judged_of span_at end_judged list_at
long-budget = refl

pub byte-too-many : judged_of (memory ++ nothing ++ nothing ++ (0x00 ∷ [])) ≡ fails 14 (fault.Surplus 13)
unfolding judged_of span_at end_judged list_at
byte-too-many = refl
