-- Each field of a machine is put where the one before it ends.
use native.Mathlib.Omega.{arith}
use Rattle.links.specs.Depths.{cells_depth}
use Rattle.state.specs.Layout.{cell, state_fields}
use Rattle.state.proofs.Putting.{put-counted, none, ◌then◌, ◌first◌, fields-put}
use Rattle.state.proofs.parts.MachineStored.put.Goals as goal

pub returns : goal.returns
returns c =
    fields-put state_fields c.args.self.now c.args.state.now c.args.at _
    (put-counted cell cells_depth c.args.self.now.cells (omega arith) c.put_all.ensures first c.put.ensures then c.put-2.ensures then c.put-3.ensures then c.put-4.ensures then c.put-5.ensures then c.put-6.ensures then c.put-7.ensures then c.put-8.ensures then c.put-9.ensures then none)
