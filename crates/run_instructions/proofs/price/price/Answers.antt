-- The table is the definition's; past it a code below 80 is unknown, and from 80 on a branch.
use Rattle.std.proofs.Common.{sym, arith}
use Rattle.machine.specs.Codes.{table, cycle_table}
use Rattle.machine.proofs.Laws.Costs.{cycle-at, cycle-past, cycle-branch, cycles-bounded}
use Rattle.run_instructions.proofs.price.price.Goals as goal

pub returns-then-entry-lt-LISTED : goal.returns-then-entry-lt-LISTED
unfolding cycle_table table
returns-then-entry-lt-LISTED c = let is = cycle-at c.args.code (omega arith) in (is, omega (arith, is, cycles-bounded c.args.code))

pub returns-then-code-gt127 : goal.returns-then-code-gt127
returns-then-code-gt127 c = (sym (cycle-branch c.args.code (omega arith)), omega arith)

pub returns : goal.returns
returns c = (sym (cycle-past c.args.code (omega arith) (omega arith)), omega arith)
