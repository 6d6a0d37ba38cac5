-- A bit that is set is cleared by taking its power away, and no other bit changes.
use Rattle.std.specs.Prelude.{◌≡◌, refl, true, false, ℕ, zero, suc, ◌-◌, ◌*◌, ◌/◌, ◌%◌, ◌^◌, ◌≤◌, eqb}
use Rattle.std.proofs.Common.{sym, ap, ◌∙◌, div-one, arith, eqb-true, ne_eqb}
use Rattle.std.proofs.Math.Nat.{div-div-eq-div-mul, pow-succ'}
use Rattle.machine.specs.Lines.{has_bit}
use Rattle.machine.proofs.Laws.Lines.{bit-within}

abbrev bit : ℕ → ℕ → ℕ
bit n x = x / 2 ^ n % 2

bit-first : (x : ℕ) → bit zero x ≡ x % 2
bit-first x = ap (λ (q : ℕ). q % 2) (div-one x)

bit-next : (n x : ℕ) → bit (suc n) x ≡ bit n (x / 2)
bit-next n x = ap (λ (d : ℕ). x / d % 2) (pow-succ' 2 n) ∙ ap (λ (q : ℕ). q % 2) (sym (div-div-eq-div-mul x 2 (2 ^ n)))

half-taken : (n x : ℕ) → (x - 2 ^ suc n) / 2 ≡ x / 2 - 2 ^ n
half-taken n x = let twice : 2 ^ suc n ≡ 2 * 2 ^ n = pow-succ' 2 n in omega arith

own-bit : (n x : ℕ) → bit n x ≡ 1 → bit n (x - 2 ^ n) ≡ 0
own-bit zero x set = let odd : x % 2 ≡ 1 = sym (bit-first x) ∙ set in bit-first (x - 1) ∙ omega arith
own-bit (suc n) x set =
    bit-next n (x - 2 ^ suc n) ∙ (ap (bit n) (half-taken n x) ∙ own-bit n (x / 2) (sym (bit-next n x) ∙ set))

other-bit : (n k x : ℕ) → (k ≡ n → ⊥) → bit n x ≡ 1 → 2 ^ n ≤ x → bit k (x - 2 ^ n) ≡ bit k x
other-bit zero zero x other set within = absurd (other refl)
other-bit zero (suc k) x other set within =
    let odd : x % 2 ≡ 1 = sym (bit-first x) ∙ set in
    let half : (x - 1) / 2 ≡ x / 2 = omega arith in
    bit-next k (x - 1) ∙ (ap (bit k) half ∙ sym (bit-next k x))
other-bit (suc n) zero x other set within =
    let twice : 2 ^ suc n ≡ 2 * 2 ^ n = pow-succ' 2 n in
    let same : (x - 2 ^ suc n) % 2 ≡ x % 2 = omega arith in
    bit-first (x - 2 ^ suc n) ∙ (same ∙ sym (bit-first x))
other-bit (suc n) (suc k) x other set within =
    let twice : 2 ^ suc n ≡ 2 * 2 ^ n = pow-succ' 2 n in
    bit-next k (x - 2 ^ suc n) ∙
    (ap (bit k) (half-taken n x) ∙
    (other-bit n k (x / 2) (λ (e : k ≡ n). other (ap (λ (i : ℕ). suc i) e)) (sym (bit-next n x) ∙ set) (omega arith) ∙ sym (bit-next k x)))

pub bit-cleared : (n x : ℕ) → has_bit n x ≡ true → has_bit n (x - 2 ^ n) ≡ false
bit-cleared n x set =
    let clear : bit n (x - 2 ^ n) ≡ 0 = own-bit n x (eqb-true (x / 2 ^ n % 2) 1 set) in
    ne_eqb ((x - 2 ^ n) / 2 ^ n % 2) 1 (λ (e : (x - 2 ^ n) / 2 ^ n % 2 ≡ 1). omega arith)

pub bit_kept : (n k x : ℕ) → (k ≡ n → ⊥) → has_bit n x ≡ true → has_bit k (x - 2 ^ n) ≡ has_bit k x
bit_kept n k x other set =
    ap (λ (b : ℕ). eqb b 1) (other-bit n k x other (eqb-true (x / 2 ^ n % 2) 1 set) (bit-within n x set))
