-- A number of k bits in which bit n is clear has room for it: so a line that is raised leaves numbers of 32 bits, and well-formed requests.
use Rattle.std.specs.Prelude.{Bool, true, false, ◌≡◌, refl, ℕ, suc, ◌+◌, ◌-◌, ◌*◌, ◌/◌, ◌%◌, ◌^◌, ◌≤◌, ◌<◌}
use Rattle.std.proofs.Common.{sym, ap, ◌∙◌, pow-suc, div-add-mod', mod-lt, mul-le-mul_right, lt_of_mul-lt-mul_right, add-mul, arith, pow_pos, pow-add}
use Rattle.std.proofs.lemmas.Bool.{eqb-false}
use Rattle.plain.specs.Choice.{pick}
use Rattle.machine.specs.Lines.{has_bit, raised}

-- two powers of two between which a number lies
parts : (k n : ℕ) → n < k → 2 ^ (k - suc n) * 2 * 2 ^ n ≡ 2 ^ k
parts k n h =
    let all : suc (k - suc n) + n ≡ k = omega arith in
    ap (λ (x : ℕ). x * 2 ^ n) (sym (pow-suc 2 (k - suc n))) ∙ sym (pow-add 2 (suc (k - suc n)) n) ∙ ap (λ (e : ℕ). 2 ^ e) all

pub has_room : (k n w : ℕ) → n < k → w < 2 ^ k → (w / 2 ^ n % 2 ≡ 1 → ⊥) → w + 2 ^ n < 2 ^ k
has_room k n w h fits clear =
    let p : ℕ = 2 ^ n in
    let half : ℕ = 2 ^ (k - suc n) in
    let q : ℕ = w / p in
    let whole : half * 2 * p ≡ 2 ^ k = parts k n h in
    let split : q * p + w % p ≡ w = div-add-mod' w p in
    let rest : w % p < p = mod-lt w (pow_pos n) in
    let under : q * p < half * 2 * p = omega arith in
    let below : q < half * 2 = lt_of_mul-lt-mul_right p under in
    let more : q + 2 ≤ half * 2 = omega (arith, clear) in
    let most : (q + 2) * p ≤ half * 2 * p = mul-le-mul_right p more in
    let spread : (q + 2) * p ≡ q * p + 2 * p = add-mul q 2 p in
    omega arith

pub raised-fits : (k n w : ℕ) → n < k → w < 2 ^ k → raised n w < 2 ^ k
raised-fits k n w h fits = go (has_bit n w) refl
  where
    go : (b : Bool) → has_bit n w ≡ b → pick b w (w + 2 ^ n) < 2 ^ k
    go true e = fits
    go false e = has_room k n w h fits (eqb-false (w / 2 ^ n % 2) 1 e)

-- line 0 stays clear
pub raised-even : (n w : ℕ) → w % 2 ≡ 0 → raised (suc n) w % 2 ≡ 0
raised-even n w even = go (has_bit (suc n) w)
  where
    go : (b : Bool) → pick b w (w + 2 ^ suc n) % 2 ≡ 0
    go true = even
    go false = let twice : 2 ^ suc n ≡ 2 ^ n * 2 = pow-suc 2 n in omega arith
