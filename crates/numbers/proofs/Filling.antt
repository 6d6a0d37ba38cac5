-- Digits counted, and digits put from the last back to the first.
use Rattle.std.specs.Prelude.{Bool, true, false, List, [], ◌∷◌, ◌++◌, ◌≡◌, refl, ℕ, zero, suc, ◌+◌, ◌-◌, ◌/◌, ◌%◌, ◌^◌, ◌≤◌, ◌<◌, ltb, length, drop, set}
use Rattle.std.proofs.Common.{sym, ap, ◌∙◌, append_assoc, mod-eq_of_lt, arith, length-append}
use Rattle.std.proofs.lemmas.Bool.{ltb-true}
use Rattle.std.proofs.lemmas.List.{drop-set}
use Rattle.plain.specs.Choice.{pick}
use Rattle.numbers.specs.Digits.{digit, digits, most_decimal, decimal, hexadecimal}
use Rattle.numbers.specs.Laws.Base.{in_base}
use Rattle.numbers.specs.Laws.Digits.{decimal-small, length-between}

-- ---- how many decimal digits there are

pub few-digits : (n : ℕ) → n < 10 → 1 ≡ length (decimal n)
few-digits n small = sym (ap length (decimal-small n small))

pub many-digits : (k n : ℕ) → 10 ^ k ≤ n → n < 10 ^ suc k → n < 2 ^ 64 → suc k ≡ length (decimal n)
many-digits k n above below fits = sym (length-between k n above below fits)

-- ---- digits put from the last back to the first

next-digit : (base place rest d : ℕ) (text : List ℕ) → place < length text → d ≡ digit (rest % base)
    → in_base base (suc place) rest ++ drop (suc place) text
    ≡ in_base base place (rest / base) ++ drop place (set text place d)
unfolding in_base
next-digit base place rest d text inside e =
    let next : suc place ≡ place + 1 = omega arith in
    append_assoc (in_base base place (rest / base)) (digit (rest % base) ∷ []) (drop (suc place) text)
    ∙ ap (λ (after : List ℕ). in_base base place (rest / base) ++ after)
    (ap (λ (x : ℕ). x ∷ drop (suc place) text) (sym e)
    ∙ ap (λ (k : ℕ). d ∷ drop k text) next
    ∙ sym (drop-set text place d inside))

-- a digit more is put, and one fewer is left
pub digit-put : (base left rest d : ℕ) (text : List ℕ) → 0 < left → left ≤ length text → d ≡ digit (rest % base)
    → in_base base left rest ++ drop left text
    ≡ in_base base (left - 1) (rest / base) ++ drop (left - 1) (set text (left - 1) d)
digit-put base left rest d text some inside e =
    let more : left ≡ suc (left - 1) = omega arith in
    ap (λ (k : ℕ). in_base base k rest ++ drop k text) more ∙ next-digit base (left - 1) rest d text (omega arith) e

-- all digits are put
pub none-left : (base left rest : ℕ) (text all : List ℕ) → left ≤ 0
    → all ≡ in_base base left rest ++ drop left text → text ≡ all
unfolding in_base
none-left base left rest text all none is =
    let zero_left : left ≡ 0 = omega arith in
    sym (is ∙ ap (λ (k : ℕ). in_base base k rest ++ drop k text) zero_left)

-- ---- decimal and hexadecimal digits are digits to a base

pub length-in_base : (base count v : ℕ) → length (in_base base count v) ≡ count
unfolding in_base
length-in_base base zero v = refl
length-in_base base (suc count) v =
    let rest : length (in_base base count (v / base)) ≡ count = length-in_base base count (v / base) in
    length-append (in_base base count (v / base)) (digit (v % base) ∷ []) ∙ omega arith

pub in_base-hexadecimal : (count v : ℕ) → in_base 16 count v ≡ hexadecimal count v
unfolding in_base hexadecimal
in_base-hexadecimal zero v = refl
in_base-hexadecimal (suc count) v =
    ap (λ (front : List ℕ). front ++ (digit (v % 16) ∷ [])) (in_base-hexadecimal count (v / 16))

in_base-digits : (most n : ℕ) → in_base 10 (length (digits most n)) n ≡ digits most n
unfolding in_base digits
in_base-digits zero n = refl
in_base-digits (suc most) n = by-test (ltb n 10) (digits most (n / 10)) (in_base-digits most (n / 10)) refl
  where
    by-test : (t : Bool) (front : List ℕ) → in_base 10 (length front) (n / 10) ≡ front → ltb n 10 ≡ t
        → in_base 10 (length (pick t (digit n ∷ []) (front ++ (digit (n % 10) ∷ [])))) n
        ≡ pick t (digit n ∷ []) (front ++ (digit (n % 10) ∷ []))
    by-test true front same small = ap (λ (d : ℕ). digit d ∷ []) (mod-eq_of_lt (ltb-true n 10 small))
    by-test false front same large =
        let longer : length (front ++ (digit (n % 10) ∷ [])) ≡ suc (length front) =
        length-append front (digit (n % 10) ∷ []) ∙ omega arith in
        ap (λ (k : ℕ). in_base 10 k n) longer ∙ ap (λ (l : List ℕ). l ++ (digit (n % 10) ∷ [])) same

pub in_base-decimal : (n : ℕ) → in_base 10 (length (decimal n)) n ≡ decimal n
unfolding decimal
in_base-decimal n = in_base-digits most_decimal n
