-- When an action is not refused: what document 01's tests 0, 6, 7, 9, 10 and 11 leave.
use Rattle.std.specs.Prelude.{◌<◌}
use Rattle.links.specs.Depths.{cells_depth, returns_depth, subroutines_depth, exceptions_depth}
use Rattle.links.specs.Actions.{Act, still, push, call, catch, exit, pop, throw, keep, reset}
use Rattle.links.specs.declared.Links.{Links}

-- of a CATCH also that P has room for the code that a THROW pushes
abbrev pub Allowed : Act → Links → Type 0
Allowed still l = Unit {0}
Allowed (push x) l = l.r < returns_depth
Allowed (call address) l = (l.r < returns_depth) × (l.s < subroutines_depth)
Allowed (catch address p) l = (l.r < returns_depth) × (l.s < subroutines_depth) × (l.e < exceptions_depth) × (p < cells_depth)
Allowed exit l = 0 < l.s
Allowed pop l = 0 < l.r
Allowed throw l = 0 < l.e
Allowed (keep locals cells) l = Unit {0}
Allowed reset l = Unit {0}
