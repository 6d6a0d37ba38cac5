-- MULTU leaves the product; MULTS leaves the product of the integers, as a number of 64 bits in two's complement.
use Rattle.std.specs.Prelude.{◌≡◌, ℕ, ◌+◌, ◌-◌, ◌*◌, ◌/◌, ◌%◌, ◌^◌, ◌<◌, ◌≤◌, Bool, true, false, ℤ, ◌*ℤ◌, refl}
use Rattle.std.proofs.Common.{sym, ap, ap₂, ◌∙◌, add-mul, mul-add, mul-le-mul, mul_comm, arith, leb-true, leb-false}
use Rattle.word.specs.Double.{double}
use Rattle.word.specs.Products.{wide, multiply_signed_of, multiply_unsigned_of}
use Rattle.word.specs.Quotients.{is_negative, magnitude_of, with_sign, apart}
use Rattle.word.specs.Integers.{signed, signed_at}
use Rattle.word.specs.Laws.Integers.{held_at, times, read_back}
use Rattle.word.specs.Laws.Bounds.{product-below}
use Rattle.word.specs.Laws.Magnitude.{signed-size, magnitude-le}
use Rattle.word.specs.declared.Outcome.TheVariants.{Double}

pub multiply-unsigned-means : (x y flag : ℕ) → x < 2 ^ 32 → y < 2 ^ 32 →
    (low high : ℕ) × (multiply_unsigned_of x y flag ≡ Double low high flag) × (low < 2 ^ 32) × (high < 2 ^ 32) × (double low high ≡ x * y)
multiply-unsigned-means x y flag hx hy =
    (x * y % 2 ^ 32, x * y / 2 ^ 32, refl, omega arith, omega (arith, product-below hx hy), omega arith)

-- a factor taken from 2 ^ 64 takes the product from it too
one-turned : (m n k : ℕ) → k + m ≡ 2 ^ 64 → m * n ≤ 2 ^ 62 → k * n % 2 ^ 64 ≡ (2 ^ 64 - m * n) % 2 ^ 64
one-turned m n k e small =
    let f : k * n + m * n ≡ 2 ^ 64 * n = sym (add-mul k m n) ∙ ap (λ (t : ℕ). t * n) e in
    omega arith

settled : (a b d l m : ℕ) → a + b ≡ 2 ^ 64 * l → b + d ≡ m * 2 ^ 64 → d ≤ 2 ^ 62 → a % 2 ^ 64 ≡ d
settled a b d l m e f small = omega arith

both-turned : (m n k l : ℕ) → k + m ≡ 2 ^ 64 → l + n ≡ 2 ^ 64 → m * n ≤ 2 ^ 62 → k * l % 2 ^ 64 ≡ m * n
both-turned m n k l e f small =
    settled (k * l) (m * l) (m * n) l m (sym (add-mul k m l) ∙ ap (λ (t : ℕ). t * l) e) (sym (mul-add m l n) ∙ ap (λ (t : ℕ). m * t) f) small

-- a cell carried on to 64 bits is its size, or its size taken from 2 ^ 64
wide-plain : (x : ℕ) → x < 2 ^ 31 → wide x ≡ x
wide-plain x h = omega arith

wide-turned : (x : ℕ) → 2 ^ 31 ≤ x → x < 2 ^ 32 → wide x + (2 ^ 32 - x) % 2 ^ 32 ≡ 2 ^ 64
wide-turned x h hx = omega arith

module _ (x y : ℕ) (hx : x < 2 ^ 32) (hy : y < 2 ^ 32) where
  sizes : magnitude_of x * magnitude_of y ≤ 2 ^ 62
  sizes = mul-le-mul (magnitude-le x hx) (magnitude-le y hy)

  product : (s t : Bool) → is_negative x ≡ s → is_negative y ≡ t → with_sign s x * with_sign t y ≤ 2 ^ 62 → wide x * wide y % 2 ^ 64 ≡ held_at (2 ^ 63) (apart s t) (with_sign s x * with_sign t y)
  product true true p q small =
      both-turned (with_sign true x) (with_sign true y) (wide x) (wide y) (wide-turned x (leb-true (2 ^ 31) x p) hx) (wide-turned y (leb-true (2 ^ 31) y q) hy) small
  product true false p q small =
      ap (λ (n : ℕ). wide x * n % 2 ^ 64) (wide-plain y (leb-false (2 ^ 31) y q))
      ∙ one-turned (with_sign true x) y (wide x) (wide-turned x (leb-true (2 ^ 31) x p) hx) small
  product false true p q small =
      ap (λ (n : ℕ). n % 2 ^ 64) (ap (λ (n : ℕ). n * wide y) (wide-plain x (leb-false (2 ^ 31) x p)) ∙ mul_comm x (wide y))
      ∙ one-turned (with_sign true y) x (wide y) (wide-turned y (leb-true (2 ^ 31) y q) hy) (rw (mul_comm (with_sign true y) x) small)
      ∙ ap (λ (n : ℕ). (2 ^ 64 - n) % 2 ^ 64) (mul_comm (with_sign true y) x)
  product false false p q small =
      ap₂ (λ (m n : ℕ). m * n % 2 ^ 64) (wide-plain x (leb-false (2 ^ 31) x p)) (wide-plain y (leb-false (2 ^ 31) y q))
      ∙ within (x * y) small
    where
      within : (n : ℕ) → n ≤ 2 ^ 62 → n % 2 ^ 64 ≡ n
      within n h = omega arith

  pub multiply-signed-means : (flag : ℕ) →
      (low high : ℕ) × (multiply_signed_of x y flag ≡ Double low high flag) × (low < 2 ^ 32) × (high < 2 ^ 32)
      × (signed_at (2 ^ 63) (double low high) ≡ signed x *ℤ signed y)
  multiply-signed-means flag =
      let w = wide x * wide y % 2 ^ 64 in
      let whole : w % 2 ^ 32 + w / 2 ^ 32 * 2 ^ 32 ≡ w = omega arith in (
        w % 2 ^ 32,
        w / 2 ^ 32,
        refl,
        omega arith,
        omega arith,
        ap (signed_at (2 ^ 63)) (whole ∙ product (is_negative x) (is_negative y) refl refl sizes)
            ∙ read_back (2 ^ 63) (apart (is_negative x) (is_negative y)) (magnitude_of x * magnitude_of y) (omega arith) (omega (arith, sizes)) (λ f. omega (arith, sizes))
            ∙ sym (ap₂ (λ (u v : ℤ). u *ℤ v) (signed-size x hx) (signed-size y hy) ∙ times (is_negative x) (is_negative y) (magnitude_of x) (magnitude_of y)),
      )
