-- The address, then the code, in the row behind the levels.
use Rattle.run_words.specs.Laws.Levels.{note-made}
use Rattle.run_levels.proofs.linked.note.Goals as goal

pub returns : goal.returns
returns c = λ copies laid. note-made c.args.rows.now copies laid c.args.address c.args.code
