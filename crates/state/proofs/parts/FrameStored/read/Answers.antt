-- The fields of a frame stand one after the other, in whatever order they are read.
use Rattle.state.specs.Layout.{frame_fields}
use Rattle.state.specs.Laws.Sound.{◌and◌}
use Rattle.state.proofs.Standing.{fields-stand}
use Rattle.state.proofs.parts.FrameStored.read.Goals as goal

pub returns : goal.returns
returns c = fields-stand frame_fields c.args.state.now c.args.at _ (c.fill.ensures and c.read-r.ensures and c.read-address.ensures and tt)
