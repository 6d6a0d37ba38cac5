-- The memory sum, which stands beside the memory: request P9.
use Rattle.std.specs.Prelude.{true, false, List, [], ◌∷◌, ◌≡◌, ℕ, ◌+◌, ◌-◌, ◌%◌, ◌^◌, leb}
use Rattle.plain.specs.Answer.{not_as_asked}
use Rattle.machine.specs.Limits.{most_sum}
use Rattle.machine.specs.Run.{After, ended, run_of}
use Rattle.machine.specs.Tasks.{Task, TasksAfter, ended_at, start_of, RunsTasks}
use Rattle.machine.specs.declared.Machine.{Machine}

-- what the bytes of a memory add up to
unfoldable pub sum_of : List ℕ → ℕ
sum_of [] = 0
sum_of (b ∷ bs) = b + sum_of bs

-- what is handed back for a sum: the sum, plus what the bytes add up to afterwards, less what they added up to before, modulo 2^32
unfoldable pub sum_after : ℕ → List ℕ → List ℕ → ℕ
sum_after sum before after = (sum + sum_of after + (2 ^ 32 - sum_of before % 2 ^ 32)) % 2 ^ 32

-- what a run leaves, and the sum that it hands back
pub record Summed : Type 0 where
  pub after : After
  pub sum : ℕ

abbrev pub summed_of : After → ℕ → Summed
summed_of after sum = record { after = after; sum = sum }

-- a run with the sum of its memory: a sum above the most is refused before the first instruction, and nothing is altered
unfoldable pub run_summed : List ℕ → Machine → ℕ → ℕ → Summed
run_summed mem m budget sum =
    elim (leb sum most_sum) [
      | true ↦ summed_of (run_of mem m budget) (sum_after sum mem (run_of mem m budget).memory)
      | false ↦ summed_of (ended not_as_asked mem m 0 0) sum
    ]

-- the same of four tasks, for which one sum serves
pub data RunsTasksSummed (mem : List ℕ) (tasks : List Task) (quantum budget sum : ℕ) : TasksAfter → ℕ → Type 0 where
  sum-declined : leb sum most_sum ≡ false → RunsTasksSummed mem tasks quantum budget sum (ended_at not_as_asked (start_of mem tasks budget)) sum
  sum-taken : {end : TasksAfter} → leb sum most_sum ≡ true → RunsTasks mem tasks quantum budget end →
      RunsTasksSummed mem tasks quantum budget sum end (sum_after sum mem end.memory)
