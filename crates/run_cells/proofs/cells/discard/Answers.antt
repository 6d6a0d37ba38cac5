-- Too few cells is test 5; else the stores are those of the row.
use native.Mathlib.Omega.{arith}
use Rattle.run_words.specs.Laws.Shuffles.{discard-few, discard-went}
use borrow.Author.Rules.{rules}
use Rattle.run_cells.proofs.cells.discard.Goals as goal

pub returns-then-p-lt1 : goal.returns-then-p-lt1
returns-then-p-lt1 c = λ operand. discard-few operand c.args.next c.args.cells.now c.args.p c.args.flag c.if-p-lt1.true

pub returns : goal.returns
returns c = λ operand. discard-went operand c.args.next c.args.cells.now c.args.p c.args.flag (omega arith) (omega arith)
