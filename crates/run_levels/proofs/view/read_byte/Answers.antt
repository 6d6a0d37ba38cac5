-- A byte of a cell is read in the cell's four bytes.
use Rattle.std.proofs.Common.{replicate, arith}
use Rattle.run_words.specs.Laws.Seen.{byte-read}
use Rattle.run_words.specs.Laws.Written.{written}
use Rattle.run_levels.proofs.view.read_byte.Goals as goal

pub returns : goal.returns
returns c = λ copies laid. byte-read c.args.rows.now copies c.args.s c.args.e c.requires.0 c.requires.1.0 laid c.args.at c.requires.1.1 (c.cell_at.ensures copies laid) (written 4 c.cell_at.result 0 (replicate 4 0) (omega arith) c.write.ensures) c.read.ensures
