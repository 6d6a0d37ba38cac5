-- Too few cells is test 5; else the cell and the flag are what `word` gives.
use native.Mathlib.Omega.{arith}
use Rattle.run_words.specs.Laws.Arithmetic.{one-few, one-went}
use borrow.Author.Rules.{rules}
use Rattle.run_cells.proofs.cells.one.Goals as goal

pub returns-then-p-lt1 : goal.returns-then-p-lt1
returns-then-p-lt1 c = λ operand. one-few operand c.args.next c.args.cells.now c.args.p c.args.flag c.args.op c.if-p-lt1.true

pub returns : goal.returns
returns c = λ operand. one-went operand c.args.next c.args.cells.now c.args.p c.args.flag c.args.op c.one_cell-changed.result c.one_cell-changed.ensures (omega arith) (omega arith)
