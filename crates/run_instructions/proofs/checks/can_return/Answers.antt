-- The tests are the definition's own, in its order.
use Rattle.run_words.specs.Verdicts.{returnable}
use Rattle.run_words.specs.Laws.Rules.{tests}
use Rattle.std.proofs.Common.{rules}
use Rattle.run_instructions.proofs.checks.can_return.Goals as goal

pub returns-then-block-eq0 : goal.returns-then-block-eq0
unfolding returnable
returns-then-block-eq0 c = search (rules, tests)

pub returns-then-s-eq0 : goal.returns-then-s-eq0
unfolding returnable
returns-then-s-eq0 c = search (rules, tests)

pub returns : goal.returns
unfolding returnable
returns c = search (rules, tests)
