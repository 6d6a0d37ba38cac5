-- What lies in two cells is read in their eight bytes.
use Rattle.machine.specs.Memory.{size}
use Rattle.reach.specs.Spots.{width_of}
use Rattle.run_words.specs.Laws.Places.{four_bytes}
use Rattle.run_words.specs.Laws.Seen.{pair_read}
use Rattle.run_levels.proofs.view.read_two_cells.Goals as goal

pub returns : goal.returns
returns c = λ copies laid. pair_read c.args.rows.now copies c.args.s c.args.e c.requires.0 c.requires.1.0 laid c.first_of-n.result c.args.at c.first_of-n.ensures.0 c.first_of-n.ensures.1.0 (c.cell_at-first.ensures copies laid) (c.cell_at-second.ensures copies laid) c.put_pair.ensures (size (width_of c.args.code)) (c.first_of-n.ensures.1.1 (size (width_of c.args.code)) (four_bytes (width_of c.args.code)) c.requires.1.1) c.read_number.ensures
