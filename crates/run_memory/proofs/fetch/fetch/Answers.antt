-- The first byte is tested first, then what its code asks for.
use Rattle.std.proofs.Common.{refl, arith, rules}
use Rattle.machine.specs.Codes.{entry_at, table}
use Rattle.run_words.specs.Laws.Fetching.{past}
use Rattle.run_memory.proofs.fetch.fetch.Goals as goal

pub returns-then-at-ge-MEMORY : goal.returns-then-at-ge-MEMORY
returns-then-at-ge-MEMORY c = past c.args.mem.now c.args.counter (omega arith)

pub followed-requires : goal.followed-requires
unfolding entry_at table
followed-requires c = (search rules, (omega arith, refl))

pub followed-requires-in-53 : goal.followed-requires-in-53
unfolding entry_at table
followed-requires-in-53 c = (search rules, (omega arith, refl))

pub followed-requires-in-54 : goal.followed-requires-in-54
unfolding entry_at table
followed-requires-in-54 c = (search rules, (omega arith, refl))

pub followed-requires-in-56 : goal.followed-requires-in-56
unfolding entry_at table
followed-requires-in-56 c = (search rules, (omega arith, refl))
