-- DIVU and DIVS divide: the dividend is the divisor times the quotient, and the remainder, which is smaller than the divisor.
-- The remainder of DIVS has the dividend's sign, so that its quotient is cut toward zero.
use Rattle.std.specs.Prelude.{◌≡◌, ℕ, ◌+◌, ◌-◌, ◌*◌, ◌/◌, ◌%◌, ◌^◌, ◌<◌, ◌≤◌, Bool, true, false, ℤ, ◌+ℤ◌, ◌*ℤ◌, ◌==◌, ◌≢◌, unsigned_abs, refl}
use Rattle.std.proofs.Common.{sym, ap, ap₂, subst₂, ◌∙◌, mod-lt, div-le_self, div-mul-le_self, mul-le-mul_left, le_trans, le_of_lt, lt_of_lt_of_le, arith, ne_eqb, leb-true, leb-false}
use Rattle.std.proofs.Math.Nat.{div-add-mod}
use Rattle.word.specs.Quotients.{unless_zero, is_negative, magnitude_of, with_sign, apart, divide_signed_of, divide_unsigned_of}
use Rattle.word.specs.Laws.Tests.{either_order}
use Rattle.word.specs.Integers.{signed}
use Rattle.word.specs.Laws.Integers.{signed_by, times, plus}
use Rattle.word.specs.Laws.Magnitude.{magnitude-le, magnitude-positive, signed-size, signed-again, size_of}
use Rattle.word.specs.declared.Outcome.{Outcome}
use Rattle.word.specs.declared.Outcome.TheVariants.{Double, DivisorZero}

-- a divisor that is not zero lets the division be
divides : (y : ℕ) → (y ≢ 0) → (divided : Outcome) → unless_zero (y == 0) divided ≡ divided
divides y some divided = ap (λ (t : Bool). unless_zero t divided) (ne_eqb y 0 some)

pub divide-unsigned-means : (x y flag : ℕ) → (y ≢ 0) →
    (r q : ℕ) × (divide_unsigned_of x y flag ≡ Double r q flag) × (x ≡ y * q + r) × (r < y)
divide-unsigned-means x y flag some =
    (x % y, x / y, divides y some (Double (x % y) (x / y) flag), sym (div-add-mod x y), mod-lt x (omega arith))

twice-apart : (s t : Bool) → apart t (apart s t) ≡ s
twice-apart true true = refl
twice-apart true false = refl
twice-apart false true = refl
twice-apart false false = refl

module _ (x y : ℕ) (hx : x < 2 ^ 32) (hy : y < 2 ^ 32) (some : y ≡ 0 → ⊥) (fits : x ≡ 2 ^ 31 → y ≢ 2 ^ 32 - 1) where
  -- the size of the quotient is below half the range, but for -2 ^ 31 by 1
  small : (s t : Bool) → is_negative x ≡ s → is_negative y ≡ t → apart s t ≡ false → with_sign s x / with_sign t y < 2 ^ 31
  small true true p q e = either_order 2 (with_sign true y) many one
    where
      many : 2 ≤ with_sign true y → with_sign true x / with_sign true y < 2 ^ 31
      many h =
          let k = with_sign true x / with_sign true y in
          omega (arith, mul-le-mul_left k h, div-mul-le_self (with_sign true x) (with_sign true y), leb-true (2 ^ 31) x p)

      one : with_sign true y < 2 → with_sign true x / with_sign true y < 2 ^ 31
      one h =
          let last : y ≡ 2 ^ 32 - 1 = omega (arith, leb-true (2 ^ 31) y q) in
          either_order (2 ^ 31 + 1) x
          (λ k. omega (arith, div-le_self (with_sign true x) (with_sign true y)))
          (λ k. absurd (fits (omega (arith, leb-true (2 ^ 31) x p)) last))
  small false false p q e = omega (arith, div-le_self x y, leb-false (2 ^ 31) x p)
  small true false p q e = absurd (clash e)
    where
      clash : true ≡ false → ⊥
      clash f = let z : ◌≡◌ {A = ℕ} 0 1 = cc in omega arith
  small false true p q e = absurd (clash e)
    where
      clash : true ≡ false → ⊥
      clash f = let z : ◌≡◌ {A = ℕ} 0 1 = cc in omega arith

  quotient : signed (with_sign (apart (is_negative x) (is_negative y)) (magnitude_of x / magnitude_of y)) ≡ signed_by (apart (is_negative x) (is_negative y)) (magnitude_of x / magnitude_of y)
  quotient =
      signed-again (apart (is_negative x) (is_negative y)) (magnitude_of x / magnitude_of y)
      (le_trans (div-le_self (magnitude_of x) (magnitude_of y)) (magnitude-le x hx)) (small (is_negative x) (is_negative y) refl refl)

  below : magnitude_of x % magnitude_of y < magnitude_of y
  below = mod-lt (magnitude_of x) (magnitude-positive y some hy)

  remainder : signed (with_sign (is_negative x) (magnitude_of x % magnitude_of y)) ≡ signed_by (is_negative x) (magnitude_of x % magnitude_of y)
  remainder =
      let h : magnitude_of x % magnitude_of y < 2 ^ 31 = lt_of_lt_of_le below (magnitude-le y hy) in
      signed-again (is_negative x) (magnitude_of x % magnitude_of y) (le_of_lt h) (λ e. h)

  pub divide-signed-means : (flag : ℕ) →
      (r q : ℕ) × (divide_signed_of x y flag ≡ Double r q flag)
      × (signed x ≡ signed y *ℤ signed q +ℤ signed r)
      × (unsigned_abs (signed r) < unsigned_abs (signed y))
      × (signed r ≡ signed_by (is_negative x) (unsigned_abs (signed r)))
  divide-signed-means flag =
      let s = is_negative x in
      let t = is_negative y in
      let m = magnitude_of x in
      let n = magnitude_of y in
      let r = with_sign s (m % n) in
      let q = with_sign (apart s t) (m / n) in
      let size : unsigned_abs (signed r) ≡ m % n = ap unsigned_abs remainder ∙ size_of s (m % n) in
      let over : unsigned_abs (signed y) ≡ n = ap unsigned_abs (signed-size y hy) ∙ size_of t n in (
        r,
        q,
        divides y some (Double r q flag),
        signed-size x hx
            ∙ ap (signed_by s) (sym (div-add-mod m n))
            ∙ sym (plus s (n * (m / n)) (m % n))
            ∙ ap (λ (u : Bool). signed_by u (n * (m / n)) +ℤ signed_by s (m % n)) (sym (twice-apart s t))
            ∙ ap (λ (z : ℤ). z +ℤ signed_by s (m % n)) (sym (times t (apart s t) n (m / n)))
            ∙ sym (ap₂ (λ (u v : ℤ). u *ℤ signed q +ℤ v) (signed-size y hy) remainder ∙ ap (λ (u : ℤ). signed_by t n *ℤ u +ℤ signed_by s (m % n)) quotient),
        subst₂ (λ (u v : ℕ). u < v) (sym size) (sym over) below,
        remainder ∙ ap (signed_by s) (sym size),
      )

-- the one quotient that no cell holds, 2 ^ 31, wraps
pub divide-signed-wraps : (flag : ℕ) → divide_signed_of (2 ^ 31) (2 ^ 32 - 1) flag ≡ Double 0 (2 ^ 31) flag
divide-signed-wraps flag = refl

-- no cell is divided by zero
pub divide-signed-by-zero : (x flag : ℕ) → divide_signed_of x 0 flag ≡ DivisorZero
divide-signed-by-zero x flag = refl

pub divide-unsigned-by-zero : (x flag : ℕ) → divide_unsigned_of x 0 flag ≡ DivisorZero
divide-unsigned-by-zero x flag = refl
