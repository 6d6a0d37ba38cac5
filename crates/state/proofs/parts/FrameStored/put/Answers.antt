-- Each field of a frame is put where the one before it ends.
use native.Mathlib.Omega.{arith}
use Rattle.links.specs.Depths.{locals_count}
use Rattle.state.specs.Layout.{cell, frame_fields}
use Rattle.state.proofs.Putting.{put-counted, none, ◌then◌, ◌first◌, fields-put}
use Rattle.state.proofs.parts.FrameStored.put.Goals as goal

pub returns : goal.returns
returns c =
    fields-put frame_fields c.args.self.now c.args.state.now c.args.at _
    (put-counted cell locals_count c.args.self.now.locals (omega arith) c.put_all.ensures first c.put.ensures then c.put-2.ensures then none)
