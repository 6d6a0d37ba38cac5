-- One number of the row behind the levels.
use Rattle.run_words.specs.Laws.Levels.{heed-made}
use Rattle.run_levels.proofs.linked.heed.Goals as goal

pub returns : goal.returns
returns c = λ copies laid. heed-made c.args.rows.now copies laid
