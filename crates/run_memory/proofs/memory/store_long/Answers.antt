-- The bytes are written one after another; what stood there, less what is written, is lost.
use Rattle.std.proofs.Common.{◌+◌, ◌-◌, ◌%◌, ◌^◌, arith, rules}
use Rattle.numbers.specs.Laws.Storing.{four-stored}
use Rattle.run_words.specs.Laws.Losses.{four-lost}
use Rattle.run_memory.proofs.memory.store_long.Goals as goal

pub returns : goal.returns
returns c = record { written = search (rules, four-stored); lost-is = four-lost c.args.mem.now c.args.at c.args.value ((0 + (2 ^ 32 - c.bytes_added-less.result)) % 2 ^ 32) (c.bytes_added-less.result) (omega arith) c.bytes_added-less.ensures c.with_byte-first.ensures c.with_byte-second.ensures c.with_byte-third.ensures c.with_byte-lost.ensures }
