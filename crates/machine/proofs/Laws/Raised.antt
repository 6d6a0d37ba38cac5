-- A line that a host raises waits, twice is once, and no other line is touched.
use Rattle.std.specs.Prelude.{◌≡◌, refl, Bool, true, false, ℕ, ◌+◌, ◌-◌, ◌/◌, ◌%◌, ◌^◌, ◌≤◌}
use Rattle.std.proofs.Common.{sym, ap, ◌∙◌, arith, eq-eqb}
use Rattle.std.proofs.Math.Nat.{add-div_right, one-le-pow}
use Rattle.std.proofs.lemmas.Bool.{eqb-false}
use Rattle.plain.specs.Choice.{pick}
use Rattle.machine.specs.Lines.{has_bit, raised}
use Rattle.machine.proofs.Laws.Served.{bit_kept}

-- a bit that is clear is set by adding its power
bit-set : (n x : ℕ) → has_bit n x ≡ false → has_bit n (x + 2 ^ n) ≡ true
bit-set n x clear =
    let some : 1 ≤ 2 ^ n = one-le-pow n 2 (omega arith) in
    let next : (x + 2 ^ n) / 2 ^ n ≡ x / 2 ^ n + 1 = add-div_right x some in
    let even : x / 2 ^ n % 2 ≡ 1 → ⊥ = eqb-false (x / 2 ^ n % 2) 1 clear in
    let odd : (x / 2 ^ n + 1) % 2 ≡ 1 = turned (x / 2 ^ n) even in
    eq-eqb ((x + 2 ^ n) / 2 ^ n % 2) 1 (ap (λ (q : ℕ). q % 2) next ∙ odd)
  where
    turned : (q : ℕ) → (q % 2 ≡ 1 → ⊥) → (q + 1) % 2 ≡ 1
    turned q even = omega arith

pub raised-waits : (n x : ℕ) → has_bit n (raised n x) ≡ true
raised-waits n x = go (has_bit n x) refl
  where
    go : (b : Bool) → has_bit n x ≡ b → has_bit n (pick b x (x + 2 ^ n)) ≡ true
    go true e = e
    go false e = bit-set n x e

pub raised-twice : (n x : ℕ) → raised n (raised n x) ≡ raised n x
raised-twice n x = ap (λ (b : Bool). pick b (raised n x) (raised n x + 2 ^ n)) (raised-waits n x)

pub raised-alone : (n k x : ℕ) → (k ≡ n → ⊥) → has_bit k (raised n x) ≡ has_bit k x
raised-alone n k x other = go (has_bit n x) refl
  where
    go : (b : Bool) → has_bit n x ≡ b → has_bit k (pick b x (x + 2 ^ n)) ≡ has_bit k x
    go true e = refl
    go false e =
        let back : x + 2 ^ n - 2 ^ n ≡ x = omega arith in
        sym (bit_kept n k (x + 2 ^ n) other (bit-set n x e)) ∙ ap (has_bit k) back
