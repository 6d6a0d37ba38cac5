-- The code's entry says how many bytes follow.
use Rattle.std.proofs.Common.{arith, rules}
use Rattle.machine.specs.Codes.{entry_at, table}
use Rattle.run_words.specs.Laws.Fetching.{branch_follows}
use Rattle.run_words.specs.Laws.OneByte.{nothing-follows}
use Rattle.run_memory.proofs.fetch.length_of.Goals as goal

pub returns-then-code-gt127 : goal.returns-then-code-gt127
returns-then-code-gt127 c = rw (branch_follows c.args.code c.if-code-gt127.true)

pub returns-in-52 : goal.returns-in-52
unfolding entry_at table
returns-in-52 c = rw c.in-52.is

pub returns-in-53 : goal.returns-in-53
unfolding entry_at table
returns-in-53 c = rw c.in-53.is

pub returns-in-54 : goal.returns-in-54
unfolding entry_at table
returns-in-54 c = rw c.in-54.is

pub returns-in-56 : goal.returns-in-56
unfolding entry_at table
returns-in-56 c = rw c.in-56.is

pub returns-in_default : goal.returns-in_default
returns-in_default c = rw (nothing-follows c.args.code (omega (arith, c.if-code-gt127.false)) (record { not34 = search rules; not35 = search rules; not36 = search rules; not38 = search rules }))
