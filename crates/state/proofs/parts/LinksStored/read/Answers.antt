-- The fields of the linked stacks stand one after the other, in whatever order they are read.
use Rattle.state.specs.Layout.{links_fields}
use Rattle.state.specs.Laws.Sound.{◌and◌}
use Rattle.state.proofs.Standing.{fields-stand}
use Rattle.state.proofs.parts.LinksStored.read.Goals as goal

pub returns : goal.returns
returns c = fields-stand links_fields c.args.state.now c.args.at _ (c.fill-2.ensures and c.read-r.ensures and c.fill.ensures and c.read-s.ensures and c.fill-3.ensures and c.read-e.ensures and tt)
