-- Mask, waiting requests and block, in the row behind the levels.
use Rattle.run_words.specs.Laws.Levels.{lines-made}
use Rattle.run_levels.proofs.linked.set_lines.Goals as goal

pub returns : goal.returns
returns c = λ copies laid. lines-made c.args.rows.now copies laid c.args.lines.mask c.args.lines.waiting c.args.lines.block
