-- The same of one byte.
use Rattle.std.proofs.Common.{◌+◌, ◌-◌, ◌%◌, ◌^◌, arith, rules}
use Rattle.numbers.specs.Laws.Storing.{one-stored}
use Rattle.machine.specs.Sum.{sum_of}
use Rattle.run_words.specs.Laws.Losses.{one-lost}
use Rattle.run_memory.proofs.memory.store_byte.Goals as goal

pub returns : goal.returns
unfolding sum_of
returns c = record { written = search (rules, one-stored); lost-is = one-lost c.args.mem.now c.args.at c.args.value ((0 + (2 ^ 32 - c.args.value % 0x100)) % 2 ^ 32) (c.args.value % 0x100) (omega arith) (omega arith) c.with_byte-lost.ensures }
