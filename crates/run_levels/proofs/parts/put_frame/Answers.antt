-- The locals at the front of the level's row, the address at its end, and the copy of R beside it.
use Rattle.std.proofs.Common.{rules}
use Rattle.run_words.specs.Laws.Parted.{frame-written}
use Rattle.run_levels.proofs.parts.put_frame.Goals as goal

pub returns : goal.returns
returns c = frame-written c.args.rows.now c.args.copies.now c.args.n c.requires.1 c.args.frame c.copy_front.new.to c.requires.0 (search rules) c.copy_front.ensures.0 c.copy_front.ensures.1
