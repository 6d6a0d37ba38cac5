-- A number of 64 bits that becomes one of 32 bits, and stays above its limit if it was.
use Rattle.std.specs.Prelude.{Bool, true, false, ◌≡◌, refl, ℕ, suc, ◌≤◌, ltb, min}
use Rattle.std.proofs.Common.{arith, ltb-true, ltb-false, le-ltb}
use Rattle.plain.specs.Choice.{pick}

-- the nearest number that is above the limit, or the number itself
abbrev pub narrowed_to : ℕ → ℕ → ℕ
narrowed_to most number = pick (ltb most number) (suc most) number

pub within_same : (most number : ℕ) → number ≤ most → narrowed_to most number ≡ number
within_same most number h = rw (le-ltb most number h)

pub narrowed-same : (most number : ℕ) → narrowed_to most number ≤ most → narrowed_to most number ≡ number
narrowed-same most number h = go (ltb most number) refl h
  where
    go : (b : Bool) → ltb most number ≡ b → pick b (suc most) number ≤ most → pick b (suc most) number ≡ number
    go true e h = absurd (omega arith)
    go false e h = refl

-- it is the smaller of the number and the first above the limit
pub narrowed-min : (most number : ℕ) → min number (suc most) ≡ narrowed_to most number
narrowed-min most number = go (ltb most number) refl
  where
    go : (b : Bool) → ltb most number ≡ b → min number (suc most) ≡ pick b (suc most) number
    go true e = omega (arith, ltb-true _ _ e)
    go false e = omega (arith, ltb-false _ _ e)
