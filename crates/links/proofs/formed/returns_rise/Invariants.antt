-- What is left of the test equals the whole test at every pass.
use Rattle.std.proofs.Common.{◌≡◌}
use Rattle.links.specs.Linked.{copy_of_r, rises}
use Rattle.links.proofs.formed.returns_rise.Given as goal

abbrev pub invariant-loop-n : goal.invariant-loop-n
invariant-loop-n l = rises (copy_of_r l.frames) l.top l.n ≡ rises (copy_of_r l.frames) l.r l.s
