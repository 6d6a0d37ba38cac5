-- One number of the row behind the levels.
use Rattle.run_words.specs.Laws.Levels.{release-made}
use Rattle.run_levels.proofs.linked.release.Goals as goal

pub returns : goal.returns
returns c = λ copies laid. release-made c.args.rows.now copies laid
