-- No second answer: two results that meet a promise of this crate are equal.
use Rattle.std.specs.Prelude.{◌≡◌, ℕ}
use Rattle.std.proofs.Common.{sym, ◌∙◌}
use Rattle.word.specs.Dispatch.{one_cell_of, two_cells_of}
use Rattle.word.specs.Outcomes.{says_outcome}
use Rattle.word.specs.Laws.Outcomes.{same_outcome}
use Rattle.word.specs.declared.Changed.{Changed}
use Rattle.word.specs.declared.Outcome.{Outcome}
use Rattle.word.specs.declared.OneCell.{OneCell}
use Rattle.word.specs.declared.TwoCells.{TwoCells}

-- for the functions on one cell, whatever their definition
pub changed-only : (f : ℕ → ℕ → Changed) (x flag : ℕ) (r s : Changed) → r ≡ f x flag → s ≡ f x flag → r ≡ s
changed-only f x flag r s p q = p ∙ sym q

-- for the functions on two cells, whatever their definition
pub outcome-only : (f : ℕ → ℕ → ℕ → Outcome) (x y flag : ℕ) (r s : Outcome) → says_outcome r ≡ says_outcome (f x y flag) → says_outcome s ≡ says_outcome (f x y flag) → r ≡ s
outcome-only f x y flag r s p q = same_outcome r s (p ∙ sym q)

-- for the operations by name
pub one-cell-only : (op : OneCell) (x flag : ℕ) (r s : Changed) → r ≡ one_cell_of op x flag → s ≡ one_cell_of op x flag → r ≡ s
one-cell-only op = changed-only (one_cell_of op)

pub two-cells-only : (op : TwoCells) (x y flag : ℕ) (r s : Outcome) → says_outcome r ≡ says_outcome (two_cells_of op x y flag) → says_outcome s ≡ says_outcome (two_cells_of op x y flag) → r ≡ s
two-cells-only op = outcome-only (two_cells_of op)
