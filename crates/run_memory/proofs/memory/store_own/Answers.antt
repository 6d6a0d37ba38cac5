-- What is written in the part stands in the whole, and what stood in the part stood in the whole.
use Rattle.std.proofs.Common.{◌∙◌, arith}
use Rattle.machine.specs.Memory.{size}
use Rattle.reach.specs.Spots.{width_of}
use Rattle.run_words.specs.Laws.Lent.{stored-in-part}
use Rattle.run_words.specs.Laws.Losses.{loss-in-part}
use Rattle.run_memory.proofs.memory.store_own.Goals as goal

pub returns : goal.returns
returns c = record { written = stored-in-part (size (width_of c.args.code)) c.args.value c.args.mem.now c.store_number.new.mem c.args.own c.args.end c.args.at (omega arith) (omega arith) c.store_number.ensures.written; lost-is = c.store_number.ensures.lost-is ∙ loss-in-part (size (width_of c.args.code)) c.args.value c.args.mem.now c.args.own c.args.end c.args.at (omega arith) (omega arith) }
