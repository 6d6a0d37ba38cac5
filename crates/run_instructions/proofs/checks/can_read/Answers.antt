-- The tests are the definition's own, in its order.
use Rattle.run_words.specs.Verdicts.{readable}
use Rattle.run_words.specs.Laws.Rules.{tests}
use Rattle.std.proofs.Common.{rules}
use Rattle.run_instructions.proofs.checks.can_read.Goals as goal

pub returns-then-r-eq0 : goal.returns-then-r-eq0
unfolding readable
returns-then-r-eq0 c = search (rules, tests)

pub returns-then-p-ge-CELLS : goal.returns-then-p-ge-CELLS
unfolding readable
returns-then-p-ge-CELLS c = search (rules, tests)

pub returns : goal.returns
unfolding readable
returns c = search (rules, tests)
