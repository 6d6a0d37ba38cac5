-- The tests are the definition's own, in its order.
use Rattle.run_words.specs.Verdicts.{s_after_pop}
use Rattle.run_words.specs.Laws.Rules.{tests}
use Rattle.std.proofs.Common.{rules}
use Rattle.run_instructions.proofs.checks.s_after_pop.Goals as goal

pub returns-then-s-eq0 : goal.returns-then-s-eq0
unfolding s_after_pop
returns-then-s-eq0 c = search (rules, tests)

pub returns-then-r-copy : goal.returns-then-r-copy
unfolding s_after_pop
returns-then-r-copy c = search (rules, tests)

pub returns : goal.returns
unfolding s_after_pop
returns c = search (rules, tests)
