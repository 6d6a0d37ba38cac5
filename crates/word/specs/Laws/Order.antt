-- The order of the integers that two cells hold is the plain order of the cells with half the range added.
use Rattle.std.specs.Prelude.{◌≡◌, ℕ, suc, ◌+◌, ◌-◌, ◌%◌, ◌^◌, ◌<◌, ◌≤◌, ltb, ℤ, pos, negsuc, int_lt, nat_lt}
use Rattle.std.proofs.Common.{sym, ap₂, ◌∙◌, arith, lt-ltb, le-ltb}
use Rattle.word.specs.Laws.Tests.{same_test, either_order}
use Rattle.word.specs.Integers.{signed}
use Rattle.word.specs.Laws.Integers.{signed_low, signed-negsuc}

abbrev pub lifted : ℕ → ℕ
lifted x = (x + 2 ^ 31) % 2 ^ 32

module _ (x y : ℕ) (hx : x < 2 ^ 32) (hy : y < 2 ^ 32) where
  as_read : (a b : ℤ) → signed x ≡ a → signed y ≡ b → nat_lt (lifted x) (lifted y) ≡ int_lt a b → nat_lt (lifted x) (lifted y) ≡ int_lt (signed x) (signed y)
  as_read a b p q e = e ∙ sym (ap₂ int_lt p q)

  pub order : ltb (lifted x) (lifted y) ≡ int_lt (signed x) (signed y)
  order = either_order (2 ^ 31) x (λ p. either_order (2 ^ 31) y (λ q. both p q) (λ q. left p q)) (λ p. either_order (2 ^ 31) y (λ q. right p q) (λ q. none p q))
    where
      both : 2 ^ 31 ≤ x → 2 ^ 31 ≤ y → nat_lt (lifted x) (lifted y) ≡ int_lt (signed x) (signed y)
      both p q =
          as_read (negsuc (2 ^ 32 - suc x)) (negsuc (2 ^ 32 - suc y)) (signed-negsuc (2 ^ 31) x p hx) (signed-negsuc (2 ^ 31) y q hy)
          (same_test (suc (lifted x)) (lifted y) (suc (2 ^ 32 - suc y)) (2 ^ 32 - suc x) (λ h. omega arith) (λ h. omega arith))

      left : 2 ^ 31 ≤ x → y < 2 ^ 31 → nat_lt (lifted x) (lifted y) ≡ int_lt (signed x) (signed y)
      left p q = as_read (negsuc (2 ^ 32 - suc x)) (pos y) (signed-negsuc (2 ^ 31) x p hx) (signed_low (2 ^ 31) y q) (lt-ltb (lifted x) (lifted y) (omega arith))

      right : x < 2 ^ 31 → 2 ^ 31 ≤ y → nat_lt (lifted x) (lifted y) ≡ int_lt (signed x) (signed y)
      right p q = as_read (pos x) (negsuc (2 ^ 32 - suc y)) (signed_low (2 ^ 31) x p) (signed-negsuc (2 ^ 31) y q hy) (le-ltb (lifted x) (lifted y) (omega arith))

      none : x < 2 ^ 31 → y < 2 ^ 31 → nat_lt (lifted x) (lifted y) ≡ int_lt (signed x) (signed y)
      none p q =
          as_read (pos x) (pos y) (signed_low (2 ^ 31) x p) (signed_low (2 ^ 31) y q)
          (same_test (suc (lifted x)) (lifted y) (suc x) y (λ h. omega arith) (λ h. omega arith))
