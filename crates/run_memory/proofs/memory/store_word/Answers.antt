-- The same of two bytes.
use Rattle.std.proofs.Common.{◌+◌, ◌-◌, ◌/◌, ◌%◌, ◌^◌, arith, rules}
use Rattle.numbers.specs.Laws.Storing.{two-stored}
use Rattle.machine.specs.Sum.{sum_of}
use Rattle.run_words.specs.Laws.Losses.{two-lost}
use Rattle.run_memory.proofs.memory.store_word.Goals as goal

pub returns : goal.returns
unfolding sum_of
returns c = record { written = search (rules, two-stored); lost-is = two-lost c.args.mem.now c.args.at c.args.value ((0 + (2 ^ 32 - (c.args.value / 0x100 % 0x100 + c.args.value % 0x100))) % 2 ^ 32) ((c.args.value / 0x100 % 0x100 + c.args.value % 0x100)) (omega arith) (omega arith) c.with_byte-first.ensures c.with_byte-lost.ensures }
