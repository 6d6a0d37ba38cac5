-- Each field of the linked stacks is put where the one before it ends.
use native.Mathlib.Omega.{arith}
use Rattle.links.specs.Depths.{returns_depth, frames_count, levels_count}
use Rattle.state.specs.Layout.{cell, frame, level, links_fields}
use Rattle.state.proofs.Putting.{put-counted, none, ◌then◌, ◌first◌, fields-put}
use Rattle.state.proofs.parts.LinksStored.put.Goals as goal

pub returns : goal.returns
returns c =
    fields-put links_fields c.args.self.now c.args.state.now c.args.at _
    (put-counted cell returns_depth c.args.self.now.returns (omega arith) c.put_all.ensures first c.put.ensures then (put-counted frame frames_count c.args.self.now.frames (omega arith) c.put_all-2.ensures) then c.put-2.ensures then (put-counted level levels_count c.args.self.now.levels (omega arith) c.put_all-3.ensures) then c.put-3.ensures then none)
