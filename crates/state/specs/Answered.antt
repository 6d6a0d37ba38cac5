-- The number that a host is told.
use Rattle.std.specs.Prelude.{Result, Ok, Err, ℕ}
use Rattle.machine.specs.Refusals.{number_of}
use Rattle.machine.specs.declared.refusal.Refusal.{Refusal}

-- 0, or the number of the refusal
abbrev pub answered : Result (Unit {0}) Refusal → ℕ
answered (Ok done) = 0
answered (Err why) = number_of why
