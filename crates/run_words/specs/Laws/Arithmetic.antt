-- Arithmetic on one cell or two is carried out by the stores of what `word` gives.
use Rattle.std.specs.Prelude.{◌≡◌, List, [], ◌∷◌, ℕ, ◌+◌, ◌-◌, ◌≤◌, ◌<◌, get_or}
use Rattle.std.proofs.Math.Path.{refl, subst⁻¹}
use Rattle.std.proofs.Common.{ap}
use native.Mathlib.Omega.{arith}
use borrow.Author.Tests.{lt-ltb, le-ltb}
use Rattle.std.proofs.Math.ListN.{set}
use Rattle.plain.specs.Answer.{refuses, gives}
use Rattle.links.specs.Depths.{cells_depth}
use Rattle.word.specs.Dispatch.{one_cell_of, two_cells_of}
use Rattle.word.specs.declared.Changed.{Changed}
use Rattle.word.specs.declared.OneCell.{OneCell}
use Rattle.word.specs.declared.TwoCells.{TwoCells}
use Rattle.word.specs.declared.Outcome.{Outcome}
use Rattle.word.specs.declared.Outcome.TheVariants.{Single, Double, DivisorZero}
use Rattle.machine.specs.Rows.{row_of}
use Rattle.machine.specs.Reach.{bar_of}
use Rattle.machine.specs.Codes.{ONE, TWO}
use Rattle.machine.specs.Step.{carried}
use Rattle.run_words.specs.Promises.{Meets}
use Rattle.run_words.specs.Laws.OnCells.{few, went}

module _ (operand next : ℕ) (cells : List ℕ) (p flag : ℕ) (op : OneCell) where
  pub one-few : p < 1 → Meets (ONE op) 1 operand next cells p flag cells (refuses 5)
  unfolding row_of
  one-few =
      few (ONE op) 1 operand next cells p flag (p - 1) ((one_cell_of op (get_or cells (p - 1) 0) flag).value ∷ []) next (one_cell_of op (get_or cells (p - 1) 0) flag).flag
      (λ code e reach mem rest. rw e.asks)

  pub one-went : (c : Changed) → c ≡ one_cell_of op (get_or cells (p - 1) 0) flag → 1 ≤ p → p ≤ cells_depth →
      Meets (ONE op) 1 operand next cells p flag (set cells (p - 1) c.value) (gives (record { p = p; flag = c.flag; counter = next }))
  unfolding row_of
  one-went c same h top =
      subst⁻¹
      (λ (x : Changed).
      Meets (ONE op) 1 operand next cells p flag (set cells (p - 1) x.value) (gives (record { p = p; flag = x.flag; counter = next })))
      same
      (went (ONE op) 1 operand next cells p flag (p - 1) ((one_cell_of op (get_or cells (p - 1) 0) flag).value ∷ []) next (one_cell_of op (get_or cells (p - 1) 0) flag).flag
      (λ code e reach mem rest. rw e.asks)
      (set cells (p - 1) (one_cell_of op (get_or cells (p - 1) 0) flag).value) p h top refl (omega arith))

module _ (operand next : ℕ) (cells : List ℕ) (p flag : ℕ) (op : TwoCells) where
  -- too few cells, whatever the outcome would be
  few-of : (o : Outcome) → two_cells_of op (get_or cells (p - 2) 0) (get_or cells (p - 1) 0) flag ≡ o → p < 2 → Meets (TWO op) 2 operand next cells p flag cells (refuses 5)
  unfolding row_of carried bar_of
  few-of (Single value after) same h =
      few (TWO op) 2 operand next cells p flag (p - 2) (value ∷ []) next after
      (λ code e reach mem rest. rw (same, e.asks))
      h
  few-of (Double lower upper after) same h =
      few (TWO op) 2 operand next cells p flag (p - 2) (lower ∷ upper ∷ []) next after
      (λ code e reach mem rest. rw (same, e.asks))
      h
  few-of DivisorZero same h = λ code e reach mem rest. (rw (e.names, same, e.known, e.asks, lt-ltb p 2 h), refl)

  pub two-few : p < 2 → Meets (TWO op) 2 operand next cells p flag cells (refuses 5)
  two-few = few-of (two_cells_of op (get_or cells (p - 2) 0) (get_or cells (p - 1) 0) flag) refl

  pub two-single : (value after : ℕ) → two_cells_of op (get_or cells (p - 2) 0) (get_or cells (p - 1) 0) flag ≡ Single value after → 2 ≤ p → p ≤ cells_depth →
      Meets (TWO op) 2 operand next cells p flag (set cells (p - 2) value) (gives (record { p = p - 1; flag = after; counter = next }))
  unfolding row_of
  two-single value after same h top =
      went (TWO op) 2 operand next cells p flag (p - 2) (value ∷ []) next after
      (λ code e reach mem rest. rw (same, e.asks))
      (set cells (p - 2) value) (p - 1) h (omega arith) refl (omega arith)

  pub two-double : (lower upper after : ℕ) → two_cells_of op (get_or cells (p - 2) 0) (get_or cells (p - 1) 0) flag ≡ Double lower upper after → 2 ≤ p → p ≤ cells_depth →
      Meets (TWO op) 2 operand next cells p flag (set (set cells (p - 2) lower) (p - 1) upper)
      (gives (record { p = p; flag = after; counter = next }))
  unfolding row_of
  two-double lower upper after same h top =
      went (TWO op) 2 operand next cells p flag (p - 2) (lower ∷ upper ∷ []) next after
      (λ code e reach mem rest. rw (same, e.asks))
      (set (set cells (p - 2) lower) (p - 1) upper) p h top
      (ap (λ (n : ℕ). set (set cells (p - 2) lower) n upper) (omega arith)) (omega arith)

  -- the divisor is zero: test 13
  pub two-zero : two_cells_of op (get_or cells (p - 2) 0) (get_or cells (p - 1) 0) flag ≡ DivisorZero → 2 ≤ p → p ≤ cells_depth → Meets (TWO op) 2 operand next cells p flag cells (refuses 13)
  unfolding row_of carried bar_of
  two-zero same h top code e reach mem rest =
      let room : p - 2 + 0 ≤ cells_depth = omega arith in
      (rw (e.names, same, e.known, e.asks, le-ltb p 2 h, le-ltb cells_depth (p - 2 + 0) room), refl)
