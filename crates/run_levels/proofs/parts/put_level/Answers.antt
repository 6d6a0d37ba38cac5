-- The cells at the front of the level's row, the address at its end, and the copies of S and P beside it.
use Rattle.std.proofs.Common.{rules}
use Rattle.run_words.specs.Laws.Parted.{level-written}
use Rattle.run_levels.proofs.parts.put_level.Goals as goal

pub returns : goal.returns
returns c = level-written c.args.rows.now c.args.copies.now c.args.n c.requires.1 c.args.level c.copy_front.new.to c.requires.0 (search rules) c.copy_front.ensures.0 c.copy_front.ensures.1
