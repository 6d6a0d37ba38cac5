-- The tests are the definition's own, in its order.
use Rattle.run_words.specs.Verdicts.{exitable}
use Rattle.run_words.specs.Laws.Rules.{tests}
use Rattle.std.proofs.Common.{rules}
use Rattle.run_instructions.proofs.checks.can_exit.Goals as goal

pub returns-then-s-eq0 : goal.returns-then-s-eq0
unfolding exitable
returns-then-s-eq0 c = search (rules, tests)

pub returns : goal.returns
unfolding exitable
returns c = search (rules, tests)
