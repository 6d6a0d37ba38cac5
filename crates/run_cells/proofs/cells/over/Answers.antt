-- Too few cells is test 5; else one cell is pushed.
use native.Mathlib.Omega.{arith}
use Rattle.run_words.specs.Laws.Pushes.{over-few, over-pushed}
use borrow.Author.Rules.{rules}
use Rattle.run_cells.proofs.cells.over.Goals as goal

pub returns-then-p-lt2 : goal.returns-then-p-lt2
returns-then-p-lt2 c = λ operand. over-few operand c.args.next c.args.cells.now c.args.p c.args.flag c.if-p-lt2.true

pub returns : goal.returns
returns c = rw (c.push.ensures.0, c.push.ensures.1) (λ operand. over-pushed operand c.args.next c.args.cells.now c.args.p c.args.flag (omega arith) (omega arith))
