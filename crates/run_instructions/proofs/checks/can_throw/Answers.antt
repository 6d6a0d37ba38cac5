-- The tests are the definition's own, in its order.
use Rattle.run_words.specs.Verdicts.{throwable}
use Rattle.run_words.specs.Laws.Rules.{tests}
use Rattle.std.proofs.Common.{rules}
use Rattle.run_instructions.proofs.checks.can_throw.Goals as goal

pub returns-then-p-lt1 : goal.returns-then-p-lt1
unfolding throwable
returns-then-p-lt1 c = search (rules, tests)

pub returns-then-n-eq0 : goal.returns-then-n-eq0
unfolding throwable
returns-then-n-eq0 c = search (rules, tests)

pub returns-then-e-eq0 : goal.returns-then-e-eq0
unfolding throwable
returns-then-e-eq0 c = search (rules, tests)

pub returns : goal.returns
unfolding throwable
returns c = search (rules, tests)
