-- Each field of an exception level is put where the one before it ends.
use native.Mathlib.Omega.{arith}
use Rattle.links.specs.Depths.{level_cells}
use Rattle.state.specs.Layout.{cell, level_fields}
use Rattle.state.proofs.Putting.{put-counted, none, ◌then◌, ◌first◌, fields-put}
use Rattle.state.proofs.parts.LevelStored.put.Goals as goal

pub returns : goal.returns
returns c =
    fields-put level_fields c.args.self.now c.args.state.now c.args.at _
    (put-counted cell level_cells c.args.self.now.cells (omega arith) c.put_all.ensures first c.put.ensures then c.put-2.ensures then c.put-3.ensures then none)
