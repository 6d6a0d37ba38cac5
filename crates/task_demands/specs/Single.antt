-- A run of tasks of which one is ready, and the single run of that task.
use Rattle.std.specs.Prelude.{◌≡◌, true, false, List, ℕ, ◌<◌, eqb, set}
use Rattle.plain.specs.Choice.{pick}
use Rattle.machine.specs.Limits.{tasks_count}
use Rattle.machine.specs.Run.{After, Manner, manner_of}
use Rattle.machine.specs.Tasks.{Task, task_of, task_at, is_ready, TasksAfter}

-- u is ready, and no other
pub record OnlyReady (u : ℕ) (tasks : List Task) : Type 0 where
  pub within : u < tasks_count
  pub is-ready : is_ready (task_at tasks u) ≡ true
  pub no_other : (t : ℕ) → t < tasks_count → (t ≡ u → ⊥) → is_ready (task_at tasks t) ≡ false

-- a task by itself, not in turns: lines may enter task 0 only
abbrev pub singly : ℕ → Manner
singly u = manner_of false (eqb u 0)

-- what task u's single run leaves, told as a run of tasks: u has its machine and keeps its answer, the others are as they were, and
-- the answer is 1 where the budget is spent
abbrev pub told_of_tasks : ℕ → List Task → ℕ → After → TasksAfter
told_of_tasks budget tasks u a =
    record {
      answer = pick (eqb a.ran.steps.0 budget) 1 0;
      memory = a.memory;
      tasks = set tasks u (task_of a.ran.machine a.ran.answer);
      steps = a.ran.steps.0;
      cycles = a.ran.cycles.0;
    }
