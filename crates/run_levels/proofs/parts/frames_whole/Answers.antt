-- No level is read yet; and one more is.
use Rattle.std.proofs.Common.{refl, arith}
use Rattle.links.specs.Depths.{frames_count}
use Rattle.links.specs.Linked.{no_frame}
use Rattle.run_words.specs.Levels.{frames_in}
use Rattle.run_words.specs.Laws.Filled.{filled_none, filled_next}
use Rattle.run_words.specs.Laws.Levels.{frames-long}
use Rattle.run_levels.proofs.parts.frames_whole.Goals as goal

pub loop-s-init : goal.loop-s-init
loop-s-init c = filled_none frames_count (frames_in c.args.rows.now c.args.copies.now) _ (frames-long c.args.rows.now c.args.copies.now) refl

pub loop-s-preserved : goal.loop-s-preserved
loop-s-preserved c =
    filled_next frames_count (frames_in c.args.rows.now c.args.copies.now) c.loop-s.frames _ c.loop-s.s no_frame c.frame_at.result c.loop-s.invariant (omega arith) refl
    c.frame_at.ensures
