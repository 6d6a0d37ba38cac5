-- What a run leaves, counted on from an earlier one.
use Rattle.std.specs.Prelude.{ℕ, ◌+◌}
use Rattle.machine.specs.Run.{After, ended}

-- the same, with so many more steps and cycles
abbrev pub added : ℕ → ℕ → After → After
added steps cycles a = ended a.ran.answer a.memory a.ran.machine (steps + a.ran.steps.0) (cycles + a.ran.cycles.0)
