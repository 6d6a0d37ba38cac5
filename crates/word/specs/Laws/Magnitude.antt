-- A cell as a sign and a size.
use Rattle.std.specs.Prelude.{◌≡◌, ℕ, zero, suc, ◌-◌, ◌%◌, ◌^◌, ◌<◌, ◌≤◌, Bool, true, false, pos, neg_ℤ, ◌≢◌, unsigned_abs, refl}
use Rattle.std.proofs.Common.{ap, ◌∙◌, arith, leb-true, leb-false}
use Rattle.word.specs.Quotients.{is_negative, magnitude_of, with_sign}
use Rattle.word.specs.Integers.{signed}
use Rattle.word.specs.Laws.Integers.{signed_by, held_at, signed_low, signed_high, read_back}

pub magnitude-le : (x : ℕ) → x < 2 ^ 32 → magnitude_of x ≤ 2 ^ 31
magnitude-le x hx = go (is_negative x) refl
  where
    go : (s : Bool) → is_negative x ≡ s → with_sign s x ≤ 2 ^ 31
    go true e = omega (arith, leb-true (2 ^ 31) x e)
    go false e = omega (arith, leb-false (2 ^ 31) x e)

-- only zero has the size zero
pub magnitude-positive : (y : ℕ) → (y ≢ 0) → y < 2 ^ 32 → 0 < magnitude_of y
magnitude-positive y h fits = go (is_negative y) refl
  where
    go : (s : Bool) → is_negative y ≡ s → 0 < with_sign s y
    go true e = omega (arith, leb-true (2 ^ 31) y e)
    go false e = omega arith

pub signed-size : (x : ℕ) → x < 2 ^ 32 → signed x ≡ signed_by (is_negative x) (magnitude_of x)
signed-size x hx = go (is_negative x) refl
  where
    go : (s : Bool) → is_negative x ≡ s → signed x ≡ signed_by s (with_sign s x)
    go true e =
        let p = leb-true (2 ^ 31) x e in
        let f : 2 ^ 32 - x ≡ (2 ^ 32 - x) % 2 ^ 32 = omega arith in
        signed_high (2 ^ 31) x p (omega arith) ∙ ap (λ (n : ℕ). neg_ℤ (pos n)) f
    go false e = signed_low (2 ^ 31) x (leb-false (2 ^ 31) x e)

held : (s : Bool) (size : ℕ) → with_sign s size ≡ held_at (2 ^ 31) s size
held true size = refl
held false size = refl

-- a size put back under a sign is the integer of that sign and size
pub signed-again : (s : Bool) (size : ℕ) → size ≤ 2 ^ 31 → (s ≡ false → size < 2 ^ 31) → signed (with_sign s size) ≡ signed_by s size
signed-again s size small fits = ap signed (held s size) ∙ read_back (2 ^ 31) s size (omega arith) small fits

pub size_of : (s : Bool) (size : ℕ) → unsigned_abs (signed_by s size) ≡ size
size_of true zero = refl
size_of true (suc n) = refl
size_of false size = refl
