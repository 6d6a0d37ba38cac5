-- That a run of tasks ends, and with a sum too.
use Rattle.std.specs.Prelude.{List, ℕ}
use Rattle.machine.specs.Sum.{RunsTasksSummed}
use Rattle.machine.specs.Tasks.{Task, TasksAfter, RunsTasks}

pub record Ends (mem : List ℕ) (tasks : List Task) (quantum budget : ℕ) : Type 0 where
  pub end : TasksAfter
  pub runs : RunsTasks mem tasks quantum budget end

pub record EndsSummed (mem : List ℕ) (tasks : List Task) (quantum budget sum : ℕ) : Type 0 where
  pub end : TasksAfter
  pub left : ℕ
  pub runs : RunsTasksSummed mem tasks quantum budget sum end left
