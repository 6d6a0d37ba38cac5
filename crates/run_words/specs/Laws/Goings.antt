-- ?DUP by its top cell, and the instructions that only go somewhere.
use Rattle.std.specs.Prelude.{◌≡◌, Bool, true, false, ℕ, ◌-◌, ◌≤◌, ◌<◌, eqb}
use Rattle.std.proofs.Math.Path.{refl}
use mathlib.Core.List.{List, [], ◌∷◌}
use Rattle.std.proofs.Common.{arith}
use Rattle.std.proofs.Math.ListN.{get_or}
use Rattle.std.proofs.lemmas.List.{set-get_or}
use Rattle.plain.specs.Choice.{pick}
use Rattle.plain.specs.Answer.{refuses, gives}
use Rattle.links.specs.Depths.{cells_depth}
use Rattle.machine.specs.Rows.{row_of}
use Rattle.machine.specs.Codes.{SHUFFLE, DUP-NONZERO, JUMP, JMP, BEQ, BRA}
use Rattle.run_words.specs.Promises.{Meets, cell_pushed, pushed_cells}
use Rattle.run_words.specs.Laws.OnCells.{few, went, by-push}
use Rattle.run_words.specs.Laws.Pushes.{rewritten}

module _ (operand next : ℕ) (cells : List ℕ) (p flag : ℕ) where
  pub dup-nonzero-few : p < 1 → Meets (SHUFFLE DUP-NONZERO) 1 operand next cells p flag cells (refuses 5)
  unfolding row_of
  dup-nonzero-few =
      few (SHUFFLE DUP-NONZERO) 1 operand next cells p flag (p - 1) (pick (eqb (get_or cells (p - 1) 0) 0) (get_or cells (p - 1) 0 ∷ []) (get_or cells (p - 1) 0 ∷ get_or cells (p - 1) 0 ∷ [])) next flag
      (λ code e reach mem rest. rw e.asks)

  pub dup-nonzero-zero : eqb (get_or cells (p - 1) 0) 0 ≡ true → 1 ≤ p → p ≤ cells_depth →
      Meets (SHUFFLE DUP-NONZERO) 1 operand next cells p flag cells (gives (record { p = p; flag = flag; counter = next }))
  unfolding row_of
  dup-nonzero-zero is_zero h top =
      went (SHUFFLE DUP-NONZERO) 1 operand next cells p flag (p - 1) (get_or cells (p - 1) 0 ∷ []) next flag
      (λ code e reach mem rest. rw (e.asks, is_zero))
      cells p h top (set-get_or cells (p - 1) 0) (omega arith)

  pub dup-nonzero-pushed : eqb (get_or cells (p - 1) 0) 0 ≡ false → 1 ≤ p → p ≤ cells_depth →
      Meets (SHUFFLE DUP-NONZERO) 1 operand next cells p flag (pushed_cells cells p (get_or cells (p - 1) 0)) (cell_pushed p flag next)
  unfolding row_of
  dup-nonzero-pushed not_zero h top =
      by-push (SHUFFLE DUP-NONZERO) 1 operand next cells p flag (p - 1) (get_or cells (p - 1) 0 ∷ get_or cells (p - 1) 0 ∷ []) next flag
      (λ code e reach mem rest. rw (e.asks, not_zero))
      (get_or cells (p - 1) 0) refl refl h top (rewritten operand next cells p flag h (get_or cells (p - 1) 0)) (omega arith)

  pub jump-few : p < 1 → Meets (JUMP JMP) 1 operand next cells p flag cells (refuses 5)
  unfolding row_of
  jump-few =
      few (JUMP JMP) 1 operand next cells p flag (p - 1) [] (get_or cells (p - 1) 0) flag (λ code e reach mem rest. rw e.asks)

  pub jump-went : 1 ≤ p → p ≤ cells_depth →
      Meets (JUMP JMP) 1 operand next cells p flag cells (gives (record { p = p - 1; flag = flag; counter = get_or cells (p - 1) 0 }))
  unfolding row_of
  jump-went h top =
      went (JUMP JMP) 1 operand next cells p flag (p - 1) [] (get_or cells (p - 1) 0) flag
      (λ code e reach mem rest. rw e.asks)
      cells (p - 1) h (omega arith) refl (omega arith)

  pub beq-few : p < 1 → Meets (JUMP BEQ) 1 operand next cells p flag cells (refuses 5)
  unfolding row_of
  beq-few =
      few (JUMP BEQ) 1 operand next cells p flag (p - 1) [] (pick (eqb (get_or cells (p - 1) 0) 0) operand next) flag
      (λ code e reach mem rest. rw e.asks)

  pub beq-went : (b : Bool) → eqb (get_or cells (p - 1) 0) 0 ≡ b → 1 ≤ p → p ≤ cells_depth →
      Meets (JUMP BEQ) 1 operand next cells p flag cells (gives (record { p = p - 1; flag = flag; counter = pick b operand next }))
  unfolding row_of
  beq-went b test h top =
      went (JUMP BEQ) 1 operand next cells p flag (p - 1) [] (pick b operand next) flag
      (λ code e reach mem rest. rw (e.asks, test))
      cells (p - 1) h (omega arith) refl (omega arith)

  pub bra-went : p ≤ cells_depth → Meets (JUMP BRA) 0 operand next cells p flag cells (gives (record { p = p; flag = flag; counter = operand }))
  unfolding row_of
  bra-went top =
      went (JUMP BRA) 0 operand next cells p flag (p - 0) [] operand flag
      (λ code e reach mem rest. rw e.asks)
      cells p (omega arith) top refl (omega arith)
