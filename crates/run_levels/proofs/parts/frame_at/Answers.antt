-- The locals are the front of the level's row.
use Rattle.std.proofs.Common.{sym}
use Rattle.run_words.specs.Laws.Levels.{frame-there}
use Rattle.run_levels.proofs.parts.frame_at.Goals as goal

pub returns : goal.returns
returns c = rw c.copy_from_slice.ensures.after (sym (frame-there c.args.rows.now c.args.copies.now c.args.n c.requires.0))
