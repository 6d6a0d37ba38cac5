-- Before pass i the number is that of the first i bytes.
use Rattle.std.specs.Prelude.{◌≡◌, ◌*◌, ◌^◌, ◌<◌}
use Rattle.numbers.specs.Bytes.{number_at}
use Rattle.run_memory.proofs.memory.read.Given as goal

abbrev pub invariant-loop-i : goal.invariant-loop-i
invariant-loop-i g l = (l.number ≡ number_at l.i l.mem l.at) × (l.number < 2 ^ (8 * l.i))
