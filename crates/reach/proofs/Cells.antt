-- An access that begins in view or past it: where it ends, and whether it is to the whole of a cell.
use mathlib.Core.Path.{◌≡◌, refl, ap, ◌∙◌}
use mathlib.Core.Bool.{Bool, true, false}
use Prim.Native.Nat.{ℕ, ◌+◌, ◌-◌, ◌%◌, ◌≤◌, ◌<◌}
use native.Mathlib.Omega.{arith}
use borrow.Author.Tests.{le-leb, lt-leb, ne_eqb}
use lib.Dec.{eqb}
use Rattle.plain.specs.Answer.{refuses, gives}
use Rattle.plain.specs.Choice.{both}
use Rattle.machine.specs.Memory.{size, view_start, view_end}
use Rattle.machine.specs.Reach.{alone}
use Rattle.machine.specs.declared.Width.{Width}
use Rattle.machine.specs.declared.Place.TheVariants.{View}
use Rattle.reach.specs.Spots.{view_place, allowed, is_whole}

module _ (w : Width) (a : ℕ) {bytes : ℕ} (es : bytes ≡ size w) where
  pub past-view : view_end < a + bytes → refuses 12 ≡ allowed alone w (view_place w a)
  past-view h = let past : view_end < a + size w = omega arith in rw (lt-leb (a + size w) view_end past)

  pub within-view : a + bytes ≤ view_end → {k : ℕ} → k ≡ a - view_start → gives (View k) ≡ allowed alone w (view_place w a)
  within-view h e =
      let within : a + size w ≤ view_end = omega arith in
      ap (λ (x : ℕ). gives (View x)) e ∙ rw (le-leb (a + size w) view_end within)

  -- fewer than four bytes are no whole cell, and neither are four that begin within one
  pub short-access : bytes < 4 → is_whole w (a - view_start) ≡ false
  short-access h = let few : size w ≡ 4 → ⊥ = λ e. omega arith in rw (ne_eqb (size w) 4 few)

  pub between-cells : view_start ≤ a → (a % 4 ≡ 0 → ⊥) → is_whole w (a - view_start) ≡ false
  between-cells h within =
      let between : (a - view_start) % 4 ≡ 0 → ⊥ = λ e. within (omega arith) in
      rw (ne_eqb ((a - view_start) % 4) 0 between) (neither (eqb (size w) 4))
    where
      neither : (b : Bool) → both b false ≡ false
      neither true = refl
      neither false = refl
