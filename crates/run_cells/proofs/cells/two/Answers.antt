-- Too few cells is test 5, a zero divisor test 13; else the cells and the flag are what `word` gives.
use mathlib.Core.Path.{sym, ◌∙◌}
use native.Mathlib.Omega.{arith}
use Prim.Native.Nat.{◌-◌}
use lib.ListN.{get_or}
use Rattle.word.specs.Dispatch.{two_cells_of}
use Rattle.word.specs.Laws.Outcomes.{same_outcome}
use Rattle.run_words.specs.Operations.{two_of}
use Rattle.run_words.specs.Laws.Arithmetic.{two-few, two-single, two-double, two-zero}
use borrow.Author.Rules.{rules}
use Rattle.run_cells.proofs.cells.two.Goals as goal

pub returns-then-p-lt2 : goal.returns-then-p-lt2
returns-then-p-lt2 c = λ operand. two-few operand c.args.next c.args.cells.now c.args.p c.args.flag (two_of c.args.code) c.if-p-lt2.true

pub returns-in-Single : goal.returns-in-Single
returns-in-Single c = λ operand. two-single operand c.args.next c.args.cells.now c.args.p c.args.flag (two_of c.args.code) c.in-Single.value c.in-Single.after (rw (sym c.two_of-op.ensures) (sym (same_outcome c.two_cells-outcome.result (two_cells_of c.two_of-op.result (get_or c.args.cells.now (c.args.p - 2) 0) (get_or c.args.cells.now (c.args.p - 1) 0) c.args.flag) c.two_cells-outcome.ensures) ∙ c.in-Single.is)) (omega arith) (omega arith)

pub returns-in-Double : goal.returns-in-Double
returns-in-Double c = λ operand. two-double operand c.args.next c.args.cells.now c.args.p c.args.flag (two_of c.args.code) c.in-Double.under c.in-Double.top c.in-Double.after (rw (sym c.two_of-op.ensures) (sym (same_outcome c.two_cells-outcome.result (two_cells_of c.two_of-op.result (get_or c.args.cells.now (c.args.p - 2) 0) (get_or c.args.cells.now (c.args.p - 1) 0) c.args.flag) c.two_cells-outcome.ensures) ∙ c.in-Double.is)) (omega arith) (omega arith)

pub returns-in-DivisorZero : goal.returns-in-DivisorZero
returns-in-DivisorZero c = λ operand. two-zero operand c.args.next c.args.cells.now c.args.p c.args.flag (two_of c.args.code) (rw (sym c.two_of-op.ensures) (sym (same_outcome c.two_cells-outcome.result (two_cells_of c.two_of-op.result (get_or c.args.cells.now (c.args.p - 2) 0) (get_or c.args.cells.now (c.args.p - 1) 0) c.args.flag) c.two_cells-outcome.ensures) ∙ c.in-DivisorZero.is)) (omega arith) (omega arith)
