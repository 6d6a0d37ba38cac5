-- Below the cells, or from there on.
use Rattle.reach.specs.Spots.{width_of}
use Rattle.reach.proofs.Spots.{below-cells, past_memory}
use Rattle.reach.proofs.place.spot_of.Goals as goal

pub returns-then-address-lt65536 : goal.returns-then-address-lt65536
returns-then-address-lt65536 c = (below-cells c.args.reach (width_of c.args.code) c.args.address c.if-address-lt65536.true c.in_memory.ensures.0, c.in_memory.ensures.1)

pub returns : goal.returns
returns c = (past_memory c.args.reach (width_of c.args.code) c.args.address c.if-address-lt65536.false c.in_view.ensures.0, c.in_view.ensures.1 c.args.reach)
