-- The operand is pushed.
use native.Mathlib.Omega.{arith}
use Rattle.run_words.specs.Laws.Pushes.{literal-pushed}
use borrow.Author.Rules.{rules}
use Rattle.run_cells.proofs.cells.literal.Goals as goal

pub returns : goal.returns
returns c = rw (c.push.ensures.0, c.push.ensures.1) (literal-pushed c.args.operand c.args.next c.args.cells.now c.args.p c.args.flag (omega arith))
