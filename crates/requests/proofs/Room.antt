-- The tests before a line enters, and those before one is raised.
use mathlib.Core.Path.{◌≡◌, refl, sym, ap, ◌∙◌}
use mathlib.Core.Bool.{Bool, true, false}
use Prim.Native.Nat.{ℕ, ◌+◌, ◌/◌, ◌%◌, ◌^◌, ◌≤◌, ◌<◌}
use native.Mathlib.Omega.{arith}
use borrow.Author.Tests.{lt-ltb, le-ltb, le-leb, lt-leb, eq-eqb, ne_eqb}
use lib.Dec.{ltb, eqb}
use Rattle.plain.specs.Answer.{refuses, gives, not_as_asked}
use Rattle.plain.specs.Choice.{pick, both}
use Rattle.links.specs.Depths.{returns_depth, subroutines_depth}
use Rattle.machine.specs.Lines.{none, Line, lowest_due}
use Rattle.machine.specs.declared.Lines.{Lines}
use Rattle.requests.specs.Requests.{entering_with, raised_by}

either : {A : Type 0} (b : Bool) (a : A) → a ≡ pick b a a
either true a = refl
either false a = refl

neither : (b : Bool) → both b false ≡ false
neither true = refl
neither false = refl

module _ (l : Lines) (r s : ℕ) where
  pub none-waits : l.waiting ≡ 0 → none ≡ entering_with l r s
  unfolding entering_with lowest_due
  none-waits e = rw (e) (either (both (eqb l.block 0) (both (ltb r returns_depth) (ltb s subroutines_depth))) none)

  pub blocked : (l.block ≡ 0 → ⊥) → none ≡ entering_with l r s
  unfolding entering_with
  blocked set = rw (ne_eqb l.block 0 set)

  pub no-return-cell : returns_depth ≤ r → none ≡ entering_with l r s
  unfolding entering_with
  no-return-cell full = rw (le-ltb r returns_depth full, neither (eqb l.block 0))

  pub no-level : r < returns_depth → subroutines_depth ≤ s → none ≡ entering_with l r s
  unfolding entering_with
  no-level free full = rw (lt-ltb r returns_depth free, le-ltb s subroutines_depth full, neither (eqb l.block 0))

  pub lets-in : l.block ≡ 0 → r < returns_depth → s < subroutines_depth → {d : Line} → d ≡ lowest_due l → d ≡ entering_with l r s
  unfolding entering_with
  lets-in free low under e = rw (eq-eqb l.block 0 free, lt-ltb r returns_depth low, lt-ltb s subroutines_depth under) e

-- no line's number
module _ (n waiting : ℕ) where
  pub too-low : n < 1 → refuses not_as_asked ≡ raised_by n waiting
  unfolding raised_by
  too-low h = rw (lt-leb 1 n h)

  pub too-high : 15 < n → refuses not_as_asked ≡ raised_by n waiting
  unfolding raised_by
  too-high h = rw (le-leb 1 n (omega arith), lt-leb n 15 h)

  -- a line's, by its bit
  module _ {power : ℕ} (e : power ≡ 2 ^ n) (low : 1 ≤ n) (high : n ≤ 15) where
    pub waits-already : waiting / power % 2 ≡ 1 → gives waiting ≡ raised_by n waiting
    unfolding raised_by
    waits-already set =
        rw (le-leb 1 n low, le-leb n 15 high, eq-eqb (waiting / 2 ^ n % 2) 1 (ap (λ (p : ℕ). waiting / p % 2) (sym e) ∙ set))

    pub waits-now : (waiting / power % 2 ≡ 1 → ⊥) → gives (waiting + power) ≡ raised_by n waiting
    unfolding raised_by
    waits-now clear =
        rw (le-leb 1 n low, le-leb n 15 high, ne_eqb (waiting / 2 ^ n % 2) 1 (λ set. clear (ap (λ (p : ℕ). waiting / p % 2) e ∙ set)))
        (ap (λ (p : ℕ). gives (waiting + p)) e)
