-- Too few cells is test 5; else the stores are those of the row.
use native.Mathlib.Omega.{arith}
use Rattle.run_words.specs.Laws.Shuffles.{rot-few, rot-went}
use borrow.Author.Rules.{rules}
use Rattle.run_cells.proofs.cells.rot.Goals as goal

pub returns-then-p-lt3 : goal.returns-then-p-lt3
returns-then-p-lt3 c = λ operand. rot-few operand c.args.next c.args.cells.now c.args.p c.args.flag c.if-p-lt3.true

pub returns : goal.returns
returns c = λ operand. rot-went operand c.args.next c.args.cells.now c.args.p c.args.flag (omega arith) (omega arith)
