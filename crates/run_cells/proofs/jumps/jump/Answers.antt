-- No target is checked: the next fetch does.
use native.Mathlib.Omega.{arith}
use Rattle.run_words.specs.Laws.Goings.{jump-few, jump-went}
use borrow.Author.Rules.{rules}
use Rattle.run_cells.proofs.jumps.jump.Goals as goal

pub returns-then-p-lt1 : goal.returns-then-p-lt1
returns-then-p-lt1 c = λ operand. jump-few operand c.args.next c.args.cells.now c.args.p c.args.flag c.if-p-lt1.true

pub returns : goal.returns
returns c = λ operand. jump-went operand c.args.next c.args.cells.now c.args.p c.args.flag (omega arith) (omega arith)
