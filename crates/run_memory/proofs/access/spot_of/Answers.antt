-- Within the shared bytes nothing bars it; else the place decides.
use Rattle.reach.specs.Spots.{width_of}
use Rattle.run_words.specs.Laws.Places.{shared-place}
use Rattle.run_memory.proofs.access.spot_of.Goals as goal

pub returns-then-at-reach : goal.returns-then-at-reach
returns-then-at-reach c = (shared-place c.args.reach (width_of c.args.code) c.args.address c.requires c.if-at-reach.true, tt)
