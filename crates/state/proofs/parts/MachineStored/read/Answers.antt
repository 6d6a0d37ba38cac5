-- The fields of a machine stand one after the other, in whatever order they are read.
use Rattle.state.specs.Layout.{state_fields}
use Rattle.state.specs.Laws.Sound.{◌and◌}
use Rattle.state.proofs.Standing.{fields-stand}
use Rattle.state.proofs.parts.MachineStored.read.Goals as goal

pub returns : goal.returns
returns c = fields-stand state_fields c.args.state.now c.args.at _ (c.fill.ensures and c.read-p.ensures and c.read-links.ensures and c.read-counter.ensures and c.read-flag.ensures and c.read-address.ensures and c.read-code.ensures and c.read-mask.ensures and c.read-waiting.ensures and c.read-block.ensures and tt)
