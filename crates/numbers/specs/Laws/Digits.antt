-- Laws of decimal and hexadecimal digits: how a number's digits go on, and how many there are.
use Rattle.std.specs.Prelude.{Bool, true, false, List, [], ◌∷◌, ◌++◌, ◌≡◌, refl, ℕ, zero, suc, ◌*◌, ◌/◌, ◌%◌, ◌^◌, ◌≤◌, ◌<◌, ltb, length}
use Rattle.std.proofs.Common.{sym, ap, subst, ◌∙◌, pow-suc, div-lt_iff_lt-mul, le-div_iff_mul-le, arith, length-append, lt-ltb, le-ltb}
use Rattle.std.proofs.Math.Nat.{one-le-pow}
use Rattle.plain.specs.Choice.{pick}
use Rattle.numbers.specs.Digits.{digit, digits, most_decimal, decimal, hexadecimal}

-- a tenth has a digit less
pub tenth-below : (most n : ℕ) → n < 10 ^ suc (suc most) → n / 10 < 10 ^ suc most
tenth-below most n h = (div-lt_iff_lt-mul {k = 10} (omega arith)).1 (subst (λ (m : ℕ). n < m) (pow-suc 10 (suc most)) h)

-- room for one more digit than a number needs changes nothing
more_room : (most n : ℕ) → n < 10 ^ suc most → digits (suc (suc most)) n ≡ digits (suc most) n
unfolding digits
more_room zero n h = let small : n < 10 = omega arith in simp (lt-ltb n 10 small)
more_room (suc most) n h =
    ap (λ (l : List ℕ). pick (ltb n 10) (digit n ∷ []) (l ++ (digit (n % 10) ∷ []))) (more_room most (n / 10) (tenth-below most n h))

pub decimal-small : (n : ℕ) → n < 10 → decimal n ≡ digit n ∷ []
unfolding decimal digits
decimal-small n h = simp (lt-ltb n 10 h)

last-digit : (most n : ℕ) → 10 ≤ n → digits (suc most) n ≡ digits most (n / 10) ++ (digit (n % 10) ∷ [])
unfolding digits
last-digit most n h = simp (le-ltb n 10 h)

pub decimal-large : (n : ℕ) → 10 ≤ n → n < 2 ^ 64 → decimal n ≡ decimal (n / 10) ++ (digit (n % 10) ∷ [])
unfolding decimal
decimal-large n h fits =
    let few : n / 10 < 10 ^ 19 = omega arith in
    last-digit 19 n h ∙ ap (λ (l : List ℕ). l ++ (digit (n % 10) ∷ [])) (sym (more_room 18 (n / 10) few))

pub length-large : (n : ℕ) → 10 ≤ n → n < 2 ^ 64 → length (decimal n) ≡ suc (length (decimal (n / 10)))
length-large n h fits =
    ap length (decimal-large n h fits) ∙ length-append (decimal (n / 10)) (digit (n % 10) ∷ []) ∙ omega arith

-- a number between two neighbouring powers of ten has as many digits as the upper one has zeros
pub length-between : (k n : ℕ) → 10 ^ k ≤ n → n < 10 ^ suc k → n < 2 ^ 64 → length (decimal n) ≡ suc k
length-between zero n above below fits = ap length (decimal-small n (omega arith))
length-between (suc k) n above below fits =
    let some : 1 ≤ 10 ^ k = one-le-pow k 10 (omega arith) in
    let tens : 10 ^ k * 10 ≤ n = subst (λ (m : ℕ). m ≤ n) (pow-suc 10 k) above in
    length-large n (omega arith) fits ∙
    ap suc (length-between k (n / 10) ((le-div_iff_mul-le {k = 10} (omega arith)).1 tens) (tenth-below k n below) (omega arith))

length_digits : (most n : ℕ) → length (digits most n) ≤ most
unfolding digits
length_digits zero n = omega arith
length_digits (suc most) n = by-test (ltb n 10) (digits most (n / 10)) (length_digits most (n / 10))
  where
    by-test : (t : Bool) (front : List ℕ) → length front ≤ most → length (pick t (digit n ∷ []) (front ++ (digit (n % 10) ∷ []))) ≤ suc most
    by-test true front h = omega arith
    by-test false front h = omega (arith, length-append front (digit (n % 10) ∷ []))

pub some-digit : (most n : ℕ) → 1 ≤ length (digits (suc most) n)
unfolding digits
some-digit most n = by-test (ltb n 10) (digits most (n / 10))
  where
    by-test : (t : Bool) (front : List ℕ) → 1 ≤ length (pick t (digit n ∷ []) (front ++ (digit (n % 10) ∷ [])))
    by-test true front = omega arith
    by-test false front = omega (arith, length-append front (digit (n % 10) ∷ []))

pub decimal-short : (n : ℕ) → length (decimal n) ≤ most_decimal
unfolding decimal
decimal-short n = length_digits most_decimal n

pub decimal-some : (n : ℕ) → 1 ≤ length (decimal n)
unfolding decimal
decimal-some n = some-digit 19 n

pub length-hexadecimal : (count v : ℕ) → length (hexadecimal count v) ≡ count
unfolding hexadecimal
length-hexadecimal zero v = refl
length-hexadecimal (suc count) v =
    let rest : length (hexadecimal count (v / 16)) ≡ count = length-hexadecimal count (v / 16) in
    length-append (hexadecimal count (v / 16)) (digit (v % 16) ∷ []) ∙ omega arith
