-- What is left of the test equals the whole test at every pass.
use Rattle.std.proofs.Common.{◌≡◌}
use Rattle.plain.specs.Choice.{both}
use Rattle.links.specs.Depths.{most_copy_of_p}
use Rattle.links.specs.Linked.{copy_of_s, copy_of_p, rises, within}
use Rattle.links.proofs.formed.levels_hold.Given as goal

abbrev pub invariant-loop-n : goal.invariant-loop-n
invariant-loop-n l =
    both (rises (copy_of_s l.levels) l.top l.n) (within (copy_of_p l.levels) most_copy_of_p l.n) ≡
    both (rises (copy_of_s l.levels) l.s l.e) (within (copy_of_p l.levels) most_copy_of_p l.e)
