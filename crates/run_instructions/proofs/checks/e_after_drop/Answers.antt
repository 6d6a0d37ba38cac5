-- The tests are the definition's own, in its order.
use Rattle.run_words.specs.Verdicts.{e_after_drop_of}
use Rattle.run_words.specs.Laws.Rules.{tests}
use Rattle.std.proofs.Common.{rules}
use Rattle.run_instructions.proofs.checks.e_after_drop.Goals as goal

pub returns-then-e-eq0 : goal.returns-then-e-eq0
unfolding e_after_drop_of
returns-then-e-eq0 c = search (rules, tests)

pub returns-then-s-copy : goal.returns-then-s-copy
unfolding e_after_drop_of
returns-then-s-copy c = search (rules, tests)

pub returns : goal.returns
unfolding e_after_drop_of
returns c = search (rules, tests)
