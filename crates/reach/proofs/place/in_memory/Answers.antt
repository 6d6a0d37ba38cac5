-- Outside memory, in the own part, in another's part, or in reach.
use native.Mathlib.Omega.{arith}
use Rattle.reach.specs.Spots.{width_of}
use Rattle.reach.proofs.Spots.{own-told, own-allowed}
use Rattle.reach.proofs.place.in_memory.Goals as goal

pub returns-then-in_own : goal.returns-then-in_own
returns-then-in_own c = (own-allowed c.args.reach (width_of c.args.code) c.args.address c.size_of-bytes.ensures.0 c.in_own.ensures (omega arith) c.if-in_own.true, own-told c.args.reach (width_of c.args.code) c.args.address c.size_of-bytes.ensures.0 c.in_own.ensures c.if-in_own.true)
