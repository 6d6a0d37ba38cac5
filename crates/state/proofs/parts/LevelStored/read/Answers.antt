-- The fields of an exception level stand one after the other, in whatever order they are read.
use Rattle.state.specs.Layout.{level_fields}
use Rattle.state.specs.Laws.Sound.{◌and◌}
use Rattle.state.proofs.Standing.{fields-stand}
use Rattle.state.proofs.parts.LevelStored.read.Goals as goal

pub returns : goal.returns
returns c = fields-stand level_fields c.args.state.now c.args.at _ (c.fill.ensures and c.read-s.ensures and c.read-p.ensures and c.read-address.ensures and tt)
