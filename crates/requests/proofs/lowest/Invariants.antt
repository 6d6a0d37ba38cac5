-- Lines are seen in turn, and the first that is due is told.
use Rattle.std.specs.Prelude.{◌-◌}
use Rattle.requests.proofs.Looking.{Looking}
use Rattle.requests.proofs.lowest.Given as goal

abbrev pub invariant-loop-n : goal.invariant-loop-n
invariant-loop-n l = Looking l.initial.waiting l.initial.mask l.waiting l.mask (l.n - 1)
