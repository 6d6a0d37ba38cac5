-- Too few cells is test 5; else the place decides.
use Rattle.std.proofs.Common.{le-ltb, lt-ltb}
use Rattle.run_words.specs.Accesses.{reach_of}
use Rattle.run_memory.proofs.access.reach.Goals as goal

pub returns-then-p-takes : goal.returns-then-p-takes
unfolding reach_of
returns-then-p-takes c = (rw (lt-ltb c.args.p c.args.takes c.if-p-takes.true), tt)

pub returns : goal.returns
unfolding reach_of
returns c = (rw (le-ltb c.args.p c.args.takes c.if-p-takes.false) c.spot_of.ensures.0, c.spot_of.ensures.1)
