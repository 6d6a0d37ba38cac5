-- The row of the level below with another address, and the copies of S and P.
use Rattle.run_words.specs.Laws.Levels.{caught-made}
use Rattle.run_levels.proofs.linked.caught.Goals as goal

pub returns : goal.returns
returns c = λ laid. caught-made c.args.rows.now c.args.copies.now laid c.args.e c.args.s c.args.p c.args.address c.requires
