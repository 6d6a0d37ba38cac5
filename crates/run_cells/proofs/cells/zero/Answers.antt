-- A zero is pushed.
use native.Mathlib.Omega.{arith}
use Rattle.run_words.specs.Laws.Pushes.{zero-pushed}
use borrow.Author.Rules.{rules}
use Rattle.run_cells.proofs.cells.zero.Goals as goal

pub returns : goal.returns
returns c = rw (c.push.ensures.0, c.push.ensures.1) (λ operand. zero-pushed operand c.args.next c.args.cells.now c.args.p c.args.flag (omega arith))
