-- Nothing goes unless a subroutine level went.
use Rattle.std.proofs.Common.{rules, lt-ltb}
use Rattle.run_words.specs.Verdicts.{e_after_pop}
use Rattle.run_words.specs.Laws.Rules.{tests}
use Rattle.run_instructions.proofs.checks.e_after_pop.Goals as goal

pub returns-then-lower-s : goal.returns-then-lower-s
unfolding e_after_pop
returns-then-lower-s c = rw (lt-ltb c.args.lower c.args.s c.if-lower-s.true) c.e_after_drop.ensures

pub returns : goal.returns
unfolding e_after_pop
returns c = search (rules, tests)
