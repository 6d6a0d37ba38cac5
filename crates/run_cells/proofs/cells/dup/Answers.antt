-- Too few cells is test 5; else one cell is pushed.
use native.Mathlib.Omega.{arith}
use Rattle.run_words.specs.Laws.Pushes.{dup-few, dup-pushed}
use borrow.Author.Rules.{rules}
use Rattle.run_cells.proofs.cells.dup.Goals as goal

pub returns-then-p-lt1 : goal.returns-then-p-lt1
returns-then-p-lt1 c = λ operand. dup-few operand c.args.next c.args.cells.now c.args.p c.args.flag c.if-p-lt1.true

pub returns : goal.returns
returns c = rw (c.push.ensures.0, c.push.ensures.1) (λ operand. dup-pushed operand c.args.next c.args.cells.now c.args.p c.args.flag (omega arith) (omega arith))
