-- No level is written yet. An array of structs is as long as the list of their values.
use Rattle.std.proofs.Common.{refl, rules}
use Rattle.links.specs.Depths.{frames_count, levels_count}
use Rattle.run_words.specs.Levels.{frames_in, levels_in}
use Rattle.run_words.specs.Laws.Filled.{length-mapped, filled_none}
use Rattle.run_words.specs.Laws.Levels.{frames-long, levels-long}
use Rattle.run_levels.proofs.parts.apart.Goals as goal

pub loop-s-init : goal.loop-s-init
loop-s-init c =
    let rows = c.args.rows.now in
    let copies = c.args.copies.now in
    record {
      laid = c.requires;
      levels-are = refl;
      note-is = refl;
      filled = filled_none frames_count c.args.links.frames (frames_in rows copies) (search (rules, length-mapped)) (frames-long rows copies);
    }

pub loop-e-init : goal.loop-e-init
loop-e-init c =
    let rows = c.loop-s.rows in
    let copies = c.loop-s.copies in
    record {
      laid = c.loop-s.invariant.laid;
      frames-are = refl;
      note-is = refl;
      filled = filled_none levels_count c.args.links.levels (levels_in rows copies) (search (rules, length-mapped)) (levels-long rows copies);
    }
