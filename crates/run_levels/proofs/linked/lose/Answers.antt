-- One number of the row behind the levels.
use Rattle.run_words.specs.Levels.{note_in}
use Rattle.run_words.specs.Laws.Levels.{loss-made}
use Rattle.std.proofs.Common.{refl, rules}
use Rattle.run_levels.proofs.linked.lose.Goals as goal

pub returns : goal.returns
unfolding note_in
returns c = λ copies laid. loss-made c.args.rows.now copies laid _ c.args.more refl
