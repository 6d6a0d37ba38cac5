-- BRA goes to its target.
use native.Mathlib.Omega.{arith}
use Rattle.run_words.specs.Laws.Goings.{bra-went}
use borrow.Author.Rules.{rules}
use Rattle.run_cells.proofs.jumps.branch.Goals as goal

pub returns : goal.returns
returns c = bra-went c.args.operand c.args.next c.args.cells.now c.args.p c.args.flag (omega arith)
