-- What digits say is the number that was written, and only 0 is written in decimal with a zero in front.
use Rattle.std.specs.Prelude.{Bool, true, false, List, [], ◌∷◌, ◌++◌, ◌≡◌, refl, ℕ, zero, suc, ◌+◌, ◌-◌, ◌*◌, ◌/◌, ◌%◌, ◌^◌, ◌≤◌, ◌<◌, ltb, length, get_or}
use Rattle.std.proofs.Common.{sym, ap, ◌∙◌, pow-suc, mod-eq_of_lt, arith, lt-ltb, le-ltb, ltb-true, ltb-false}
use Rattle.std.proofs.Math.ListN.{get_or-append}
use Rattle.plain.specs.Choice.{pick}
use Rattle.numbers.specs.Digits.{digit, digits, decimal, hexadecimal}
use Rattle.numbers.specs.Laws.Digits.{tenth-below, some-digit}
use Rattle.numbers.specs.Laws.Powers.{mod_parts}

-- the digit that a character is
abbrev pub value_of : ℕ → ℕ
value_of c = pick (ltb c 0x3A) (c - 0x30) (c - 0x41 + 10)

pub value-of-digit : (d : ℕ) → value_of (digit d) ≡ d
value-of-digit d = by-test (ltb d 10) refl
  where
    by-test : (t : Bool) → ltb d 10 ≡ t → value_of (pick t (0x30 + d) (0x41 + (d - 10))) ≡ d
    by-test true e = let small : d < 10 = ltb-true d 10 e in simp (lt-ltb (0x30 + d) 0x3A (omega arith)) (omega arith)
    by-test false e =
        let large : 10 ≤ d = ltb-false d 10 e in
        simp (le-ltb (0x41 + (d - 10)) 0x3A (omega arith)) (omega arith)

-- the number said so far, and then the characters
abbrev pub said : ℕ → ℕ → List ℕ → ℕ
said base n [] = n
said base n (c ∷ cs) = said base (n * base + value_of c) cs

said-last : (base n : ℕ) (cs : List ℕ) (d : ℕ) → said base n (cs ++ (digit d ∷ [])) ≡ said base n cs * base + d
said-last base n [] d = ap (λ (x : ℕ). n * base + x) (value-of-digit d)
said-last base n (c ∷ cs) d = said-last base (n * base + value_of c) cs d

one_digit_more : (n : ℕ) (t : Bool) (front : List ℕ) → said 10 0 front ≡ n / 10 → said 10 0 (pick t (digit n ∷ []) (front ++ (digit (n % 10) ∷ []))) ≡ n
one_digit_more n true front k = said-last 10 0 [] n ∙ omega arith
one_digit_more n false front k = said-last 10 0 front (n % 10) ∙ omega arith

digits-say : (most n : ℕ) → n < 10 ^ suc most → said 10 0 (digits (suc most) n) ≡ n
unfolding digits
digits-say zero n h = one_digit_more n (ltb n 10) [] (omega arith)
digits-say (suc most) n h = one_digit_more n (ltb n 10) (digits (suc most) (n / 10)) (digits-say most (n / 10) (tenth-below most n h))

pub decimal-says : (n : ℕ) → n < 2 ^ 64 → said 10 0 (decimal n) ≡ n
unfolding decimal
decimal-says n h = digits-say 19 n (omega arith)

sixteens : (count : ℕ) → 0 < 16 ^ count
sixteens zero = omega arith
sixteens (suc count) =
    let some : 0 < 16 ^ count = sixteens count in
    let more : 16 ^ suc count ≡ 16 ^ count * 16 = pow-suc 16 count in
    omega arith

pub hexadecimal-says : (count v : ℕ) → said 16 0 (hexadecimal count v) ≡ v % 16 ^ count
unfolding hexadecimal
hexadecimal-says zero v = omega arith
hexadecimal-says (suc count) v =
    let more : 16 ^ suc count ≡ 16 ^ count * 16 = pow-suc 16 count in
    said-last 16 0 (hexadecimal count (v / 16)) (v % 16)
    ∙ ap (λ (x : ℕ). x * 16 + v % 16) (hexadecimal-says count (v / 16))
    ∙ sym (mod_parts (16 ^ count) 16 v (sixteens count) (omega arith))
    ∙ ap (λ (m : ℕ). v % m) (sym more)

-- no two numbers share their digits
pub only-decimal : (v w : ℕ) → v < 2 ^ 64 → w < 2 ^ 64 → decimal v ≡ decimal w → v ≡ w
only-decimal v w hv hw e = sym (decimal-says v hv) ∙ ap (said 10 0) e ∙ decimal-says w hw

pub only-hexadecimal : (count v w : ℕ) → v < 16 ^ count → w < 16 ^ count → hexadecimal count v ≡ hexadecimal count w → v ≡ w
only-hexadecimal count v w hv hw e =
    sym (hexadecimal-says count v ∙ mod-eq_of_lt hv) ∙ ap (said 16 0) e ∙ (hexadecimal-says count w ∙ mod-eq_of_lt hw)

first_of : (most n : ℕ) → 1 ≤ n → n < 10 ^ suc most → get_or (digits (suc most) n) 0 0 ≡ 0x30 → ⊥
unfolding digits
first_of zero n low h e =
    let small : n < 10 = omega arith in
    let first : 0x30 + n ≡ 0x30 = simp (lt-ltb n 10 small) at e in
    omega arith
first_of (suc most) n low h e =
    by-test (ltb n 10) refl (digits (suc most) (n / 10)) (some-digit most (n / 10)) (λ large. first_of most (n / 10) large (tenth-below most n h)) e
  where
    by-test : (t : Bool) → ltb n 10 ≡ t → (front : List ℕ) → 1 ≤ length front → (1 ≤ n / 10 → get_or front 0 0 ≡ 0x30 → ⊥)
        → get_or (pick t (digit n ∷ []) (front ++ (digit (n % 10) ∷ []))) 0 0 ≡ 0x30 → ⊥
    by-test true f front some k z =
        let is : value_of (digit n) ≡ n = value-of-digit n in
        let zero_is : value_of (digit n) ≡ 0 = ap value_of z in
        omega arith
    by-test false f front some k z =
        let large : 10 ≤ n = ltb-false n 10 f in
        k (omega arith) (sym (get_or-append front (digit (n % 10) ∷ []) 0 0 some) ∙ z)

pub no-zero-in-front : (n : ℕ) → 1 ≤ n → n < 2 ^ 64 → get_or (decimal n) 0 0 ≡ 0x30 → ⊥
unfolding decimal
no-zero-in-front n low h = first_of 19 n low (omega arith)
