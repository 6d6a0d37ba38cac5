-- What bars some bytes: shared bytes are not barred, the first byte decides where it is barred, and without a foreign byte memory's end
-- decides.
use Rattle.std.specs.Prelude.{◌≡◌, Bool}
use Rattle.std.proofs.Math.Path.{refl}
use Rattle.std.proofs.Math.Bool.{true, false}
use Prim.Native.Nat.{ℕ, zero, suc, ◌+◌, ◌≤◌, ◌<◌}
use Rattle.std.proofs.Common.{arith}
use borrow.Author.Tests.{lt-ltb, lt-leb, leb-true, leb-false}
use Rattle.std.proofs.Math.Dec.{leb}
use Rattle.plain.specs.Choice.{pick}
use Rattle.machine.specs.Limits.{memory_length}
use Rattle.machine.specs.Reach.{Bar, none, outside, foreign, alone, may_touch, bar_of, is_foreign}
use Rattle.machine.proofs.Laws.Clash.{never}
use Rattle.machine.specs.declared.Reach.{Reach}

module _ (reach : Reach) where
  -- within the shared bytes
  pub shared-free : (n a : ℕ) → reach.shared ≤ memory_length → a + n ≤ reach.shared → bar_of reach a n ≡ none
  unfolding bar_of
  shared-free zero a limit h = refl
  shared-free (suc n) a limit h =
      rw (lt-leb memory_length a (omega arith), lt-ltb a reach.shared (omega arith)) (shared-free n (suc a) limit (omega arith))

  -- a first byte that is barred bars any number of bytes
  pub first-barred : (n a : ℕ) {bar : Bar} → bar ≡ bar_of reach a 1 → (bar ≡ none → ⊥) → bar ≡ bar_of reach a (suc n)
  unfolding bar_of
  first-barred n a {bar} e some = go (leb memory_length a) (may_touch reach a) e
    where
      go : (x y : Bool) → bar ≡ pick x outside (pick y none foreign) → bar ≡ pick x outside (pick y (bar_of reach (suc a) n) foreign)
      go true y e = e
      go false true e = absurd (some e)
      go false false e = e

  -- inside memory
  pub inside-free : (n a : ℕ) → a + n ≤ memory_length → is_foreign (bar_of reach a n) ≡ false → bar_of reach a n ≡ none
  unfolding bar_of
  inside-free zero a h e = refl
  inside-free (suc n) a h e = go (leb memory_length a) refl (may_touch reach a) e (inside-free n (suc a) (omega arith))
    where
      go : (x : Bool) → leb memory_length a ≡ x → (y : Bool) → is_foreign (pick x outside (pick y (bar_of reach (suc a) n) foreign)) ≡ false →
          (is_foreign (bar_of reach (suc a) n) ≡ false → bar_of reach (suc a) n ≡ none) → pick x outside (pick y (bar_of reach (suc a) n) foreign) ≡ none
      go true hx y e later = absurd (omega (arith, leb-true memory_length a hx))
      go false hx true e later = later e
      go false hx false e later = never (cc)

  -- past its end
  pub cut_off : (n a : ℕ) → 0 < n → memory_length < a + n → is_foreign (bar_of reach a n) ≡ false → bar_of reach a n ≡ outside
  unfolding bar_of
  cut_off zero a some h e = absurd (omega arith)
  cut_off (suc n) a some h e = go (leb memory_length a) refl (may_touch reach a) e (λ more. cut_off n (suc a) more (omega arith))
    where
      go : (x : Bool) → leb memory_length a ≡ x → (y : Bool) → is_foreign (pick x outside (pick y (bar_of reach (suc a) n) foreign)) ≡ false →
          (0 < n → is_foreign (bar_of reach (suc a) n) ≡ false → bar_of reach (suc a) n ≡ outside) → pick x outside (pick y (bar_of reach (suc a) n) foreign) ≡ outside
      go true hx y e later = refl
      go false hx true e later = later (omega (arith, leb-false memory_length a hx)) e
      go false hx false e later = never (cc)

-- alone nothing is another's
pub alone-has-all : (n a : ℕ) → is_foreign (bar_of alone a n) ≡ false
unfolding bar_of
alone-has-all zero a = refl
alone-has-all (suc n) a = go (leb memory_length a) refl (alone-has-all n (suc a))
  where
    go : (x : Bool) → leb memory_length a ≡ x → is_foreign (bar_of alone (suc a) n) ≡ false →
        is_foreign (pick x outside (pick (may_touch alone a) (bar_of alone (suc a) n) foreign)) ≡ false
    go true hx later = refl
    go false hx later = rw (lt-ltb a memory_length (leb-false memory_length a hx)) later
