-- In the note's row, and behind the copies: no level stands there.
use Rattle.run_words.specs.Laws.Parking.{park-made}
use Rattle.run_levels.proofs.linked.park.Goals as goal

pub returns : goal.returns
returns c = λ laid. park-made c.args.rows.now c.args.copies.now laid c.args.regs
