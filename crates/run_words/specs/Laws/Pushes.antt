-- DUP, OVER, PSP@, ZERO, the literals and ?DUP put what a push of one cell puts.
use Rattle.std.specs.Prelude.{◌≡◌, List, [], ◌∷◌, ℕ, suc, ◌-◌, ◌≤◌, ◌<◌}
use Rattle.std.proofs.Math.Path.{refl}
use Rattle.std.proofs.Common.{ap, ◌∙◌, arith}
use Rattle.std.proofs.Math.ListN.{get_or, set}
use Rattle.std.proofs.lemmas.List.Edits.{sets}
use Rattle.std.proofs.lemmas.List.{set-get_or}
use Rattle.plain.specs.Answer.{refuses}
use Rattle.links.specs.Depths.{cells_depth}
use Rattle.machine.specs.Rows.{row_of}
use Rattle.machine.specs.Codes.{SHUFFLE, DUP, OVER, PSP-AT, ZERO, LITERAL}
use Rattle.run_words.specs.Promises.{Meets, cell_pushed, pushed_cells}
use Rattle.run_words.specs.Laws.OnCells.{few, by-push}

module _ (operand next : ℕ) (cells : List ℕ) (p flag : ℕ) where
  -- writing a cell with what it holds, then the one above it
  pub rewritten : 1 ≤ p → (v : ℕ) → sets cells (p - 1) (get_or cells (p - 1) 0 ∷ v ∷ []) ≡ set cells p v
  rewritten h v =
      ap (λ (l : List ℕ). set l (suc (p - 1)) v) (set-get_or cells (p - 1) 0) ∙ ap (λ (n : ℕ). set cells n v) (omega arith)

  rewritten-two : 2 ≤ p → (v : ℕ) → sets cells (p - 2) (get_or cells (p - 2) 0 ∷ get_or cells (p - 1) 0 ∷ v ∷ []) ≡ set cells p v
  rewritten-two h v =
      let one : suc (p - 2) ≡ p - 1 = omega arith in
      let none : suc (suc (p - 2)) ≡ p = omega arith in
      ap (λ (l : List ℕ). set (set l (suc (p - 2)) (get_or cells (p - 1) 0)) (suc (suc (p - 2))) v) (set-get_or cells (p - 2) 0) ∙
      (ap (λ (n : ℕ). set (set cells n (get_or cells (p - 1) 0)) (suc (suc (p - 2))) v) one ∙
      (ap (λ (l : List ℕ). set l (suc (suc (p - 2))) v) (set-get_or cells (p - 1) 0) ∙ ap (λ (n : ℕ). set cells n v) none))

  pub dup-few : p < 1 → Meets (SHUFFLE DUP) 1 operand next cells p flag cells (refuses 5)
  unfolding row_of
  dup-few = few (SHUFFLE DUP) 1 operand next cells p flag (p - 1) (get_or cells (p - 1) 0 ∷ get_or cells (p - 1) 0 ∷ []) (next) (flag) (λ code e reach mem rest. rw e.asks)

  pub dup-pushed : 1 ≤ p → p ≤ cells_depth → Meets (SHUFFLE DUP) 1 operand next cells p flag (pushed_cells cells p (get_or cells (p - 1) 0)) (cell_pushed p flag next)
  unfolding row_of
  dup-pushed h top =
      by-push (SHUFFLE DUP) 1 operand next cells p flag (p - 1) (get_or cells (p - 1) 0 ∷ get_or cells (p - 1) 0 ∷ []) next flag (λ code e reach mem rest. rw e.asks)
      (get_or cells (p - 1) 0) refl refl h top (rewritten h (get_or cells (p - 1) 0)) (omega arith)

  pub over-few : p < 2 → Meets (SHUFFLE OVER) 2 operand next cells p flag cells (refuses 5)
  unfolding row_of
  over-few = few (SHUFFLE OVER) 2 operand next cells p flag (p - 2) (get_or cells (p - 2) 0 ∷ get_or cells (p - 1) 0 ∷ get_or cells (p - 2) 0 ∷ []) (next) (flag) (λ code e reach mem rest. rw e.asks)

  pub over-pushed : 2 ≤ p → p ≤ cells_depth → Meets (SHUFFLE OVER) 2 operand next cells p flag (pushed_cells cells p (get_or cells (p - 2) 0)) (cell_pushed p flag next)
  unfolding row_of
  over-pushed h top =
      by-push (SHUFFLE OVER) 2 operand next cells p flag (p - 2) (get_or cells (p - 2) 0 ∷ get_or cells (p - 1) 0 ∷ get_or cells (p - 2) 0 ∷ []) next flag (λ code e reach mem rest. rw e.asks)
      (get_or cells (p - 2) 0) refl refl h top (rewritten-two h (get_or cells (p - 2) 0)) (omega arith)

  pub depth-pushed : p ≤ cells_depth → Meets (SHUFFLE PSP-AT) 0 operand next cells p flag (pushed_cells cells p (p)) (cell_pushed p flag next)
  unfolding row_of
  depth-pushed top =
      by-push (SHUFFLE PSP-AT) 0 operand next cells p flag (p - 0) (p ∷ []) next flag (λ code e reach mem rest. rw e.asks)
      (p) refl refl (omega arith) top (ap (λ (n : ℕ). set cells n (p)) (omega arith)) (omega arith)

  pub zero-pushed : p ≤ cells_depth → Meets (SHUFFLE ZERO) 0 operand next cells p flag (pushed_cells cells p (0)) (cell_pushed p flag next)
  unfolding row_of
  zero-pushed top =
      by-push (SHUFFLE ZERO) 0 operand next cells p flag (p - 0) (0 ∷ []) next flag (λ code e reach mem rest. rw e.asks)
      (0) refl refl (omega arith) top (ap (λ (n : ℕ). set cells n (0)) (omega arith)) (omega arith)

  pub literal-pushed : p ≤ cells_depth → Meets LITERAL 0 operand next cells p flag (pushed_cells cells p (operand)) (cell_pushed p flag next)
  unfolding row_of
  literal-pushed top =
      by-push LITERAL 0 operand next cells p flag (p - 0) (operand ∷ []) next flag (λ code e reach mem rest. rw e.asks)
      (operand) refl refl (omega arith) top (ap (λ (n : ℕ). set cells n (operand)) (omega arith)) (omega arith)
