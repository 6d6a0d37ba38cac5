-- No level is read yet; and one more is.
use Rattle.std.proofs.Common.{refl, arith}
use Rattle.links.specs.Depths.{levels_count}
use Rattle.links.specs.Linked.{no_level}
use Rattle.run_words.specs.Levels.{levels_in}
use Rattle.run_words.specs.Laws.Filled.{filled_none, filled_next}
use Rattle.run_words.specs.Laws.Levels.{levels-long}
use Rattle.run_levels.proofs.parts.levels_whole.Goals as goal

pub loop-e-init : goal.loop-e-init
loop-e-init c = filled_none levels_count (levels_in c.args.rows.now c.args.copies.now) _ (levels-long c.args.rows.now c.args.copies.now) refl

pub loop-e-preserved : goal.loop-e-preserved
loop-e-preserved c =
    filled_next levels_count (levels_in c.args.rows.now c.args.copies.now) c.loop-e.levels _ c.loop-e.e no_level c.level_at.result c.loop-e.invariant (omega arith) refl
    c.level_at.ensures
