-- Before pass i the first i bytes stand in front.
use Rattle.std.specs.Prelude.{◌≡◌, ◌++◌, take, drop}
use Rattle.image.proofs.place.put_front.Given as goal

abbrev pub invariant-loop-i : goal.invariant-loop-i
invariant-loop-i l = l.memory ≡ take l.i l.bytes ++ drop l.i l.initial.memory
