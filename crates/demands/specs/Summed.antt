-- The memory sum through any number of runs, of one machine or of four tasks: request P9.
use Rattle.std.specs.Prelude.{List, ◌≡◌, ℕ, ◌≤◌}
use Rattle.machine.specs.Limits.{most_sum}
use Rattle.machine.specs.Run.{run_of}
use Rattle.machine.specs.Sum.{sum_of, run_summed, RunsTasksSummed}
use Rattle.machine.specs.Tasks.{Task, TasksAfter, RunsTasks}
use Rattle.machine.specs.declared.Machine.{Machine}

-- the sum beside a memory is the full addition of its bytes, and no more than 8,355,840
pub record TrueSum (mem : List ℕ) (sum : ℕ) : Type 0 where
  pub added : sum ≡ sum_of mem
  pub within : sum ≤ most_sum

-- runs one after another, from this memory and this sum on: each takes the memory and the sum that the one before it handed back,
-- unaltered, with any machine or any tasks, any quantum and any budget; those that are refused are among them
pub data Runs : List ℕ → ℕ → Type 0 where
  over : {mem : List ℕ} {sum : ℕ} → Runs mem sum
  run : {mem : List ℕ} {sum : ℕ} (m : Machine) (budget : ℕ)
      → Runs (run_summed mem m budget sum).after.memory (run_summed mem m budget sum).sum → Runs mem sum
  run-tasks : {mem : List ℕ} {sum left : ℕ} {end : TasksAfter} (tasks : List Task) (quantum budget : ℕ)
      → RunsTasksSummed mem tasks quantum budget sum end left → Runs end.memory left → Runs mem sum

-- the sum is true before the first of them and after each; and none is refused for its sum: it is the run without one
abbrev pub TrueThroughout : {mem : List ℕ} {sum : ℕ} → Runs mem sum → Type 0
TrueThroughout {mem} {sum} over = TrueSum mem sum
TrueThroughout {mem} {sum} (run m budget later) =
    TrueSum mem sum × ((run_summed mem m budget sum).after ≡ run_of mem m budget) × TrueThroughout later
TrueThroughout {mem} {sum} (run-tasks {end = end} tasks quantum budget runs later) =
    TrueSum mem sum × RunsTasks mem tasks quantum budget end × TrueThroughout later
