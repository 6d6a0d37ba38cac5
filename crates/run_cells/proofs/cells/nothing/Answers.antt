-- NOP leaves the cells.
use native.Mathlib.Omega.{arith}
use Rattle.run_words.specs.Laws.Shuffles.{nothing-went}
use borrow.Author.Rules.{rules}
use Rattle.run_cells.proofs.cells.nothing.Goals as goal

pub returns : goal.returns
returns c = λ operand. nothing-went operand c.args.next c.args.cells.now c.args.p c.args.flag (omega arith)
