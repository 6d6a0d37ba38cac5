-- How many bytes an access has, by its code.
use mathlib.Core.Path.{◌≡◌, refl}
use Prim.Native.Nat.{ℕ, ◌≤◌, ◌<◌}
use native.Mathlib.Omega.{arith}
use borrow.Author.Tests.{eq-eqb, ne_eqb, eqb-false}
use lib.Dec.{eqb}
use mathlib.Core.Bool.{Bool, true, false}
use Rattle.machine.specs.Memory.{size}
use Rattle.reach.specs.Spots.{width_of}

pub below_all : (code : ℕ) → code < 0x2D → 1 ≡ size (width_of code)
below_all code h =
    rw (ne_eqb code 0x2D (λ e. omega arith), ne_eqb code 0x2E (λ e. omega arith), ne_eqb code 0x2F (λ e. omega arith), ne_eqb code 0x30 (λ e. omega arith))

pub above-all : (code : ℕ) → 0x31 ≤ code → 1 ≡ size (width_of code)
above-all code h =
    rw (ne_eqb code 0x2D (λ e. omega arith), ne_eqb code 0x2E (λ e. omega arith), ne_eqb code 0x2F (λ e. omega arith), ne_eqb code 0x30 (λ e. omega arith))

pub long-codes : (code : ℕ) → 0x2D ≤ code → code < 0x2F → 4 ≡ size (width_of code)
long-codes code low high = go (eqb code 0x2D) refl
  where
    go : (b : Bool) → eqb code 0x2D ≡ b → 4 ≡ size (width_of code)
    go true e = rw e
    go false e = rw (e, eq-eqb code 0x2E (omega (arith, eqb-false code 0x2D e)))

pub word-codes : (code : ℕ) → 0x2F ≤ code → code < 0x31 → 2 ≡ size (width_of code)
word-codes code low high = go (eqb code 0x2F) refl
  where
    go : (b : Bool) → eqb code 0x2F ≡ b → 2 ≡ size (width_of code)
    go true e = rw (ne_eqb code 0x2D (λ h. omega arith), ne_eqb code 0x2E (λ h. omega arith), e)
    go false e = rw (ne_eqb code 0x2D (λ h. omega arith), ne_eqb code 0x2E (λ h. omega arith), e, eq-eqb code 0x30 (omega (arith, eqb-false code 0x2F e)))
