-- What bars some bytes, as the functions answer it, and the first address past a reach.
use Rattle.std.specs.Prelude.{Option, Some, None, ℕ, ltb}
use Rattle.plain.specs.Choice.{pick}
use Rattle.machine.specs.Reach.{none, outside, foreign}
use Rattle.machine.specs.Reach as machine
use Rattle.machine.specs.declared.Reach.{Reach}
use Rattle.reach.specs.declared.Bar.{Bar}
use Rattle.reach.specs.declared.Bar.TheVariants.{Outside, Foreign}

abbrev pub says_barred : Option Bar → machine.Bar
says_barred None = none
says_barred (Some Outside) = outside
says_barred (Some Foreign) = foreign

-- past the shared bytes
abbrev pub past_shared : Reach → ℕ → ℕ
past_shared reach a = pick (ltb a reach.shared) reach.shared a

-- past the own part, where this address is in it
abbrev pub past_own : Reach → ℕ → ℕ
past_own reach a = pick (ltb a reach.own) a (pick (ltb a reach.end) reach.end a)

-- the first address from this one on that may not be touched, in memory or past its end
abbrev pub beyond_of : Reach → ℕ → ℕ
beyond_of reach a = past_own reach (past_shared reach a)
