-- Demand 1 for tasks: what a run of any four tasks leaves.
use Rattle.std.specs.Prelude.{◌≡◌, true, false, List, ℕ, ◌*◌, ◌≤◌, ◌<◌, length}
use Rattle.plain.specs.Answer.{not_as_asked}
use Rattle.machine.specs.Limits.{memory_length, tasks_count}
use Rattle.machine.specs.Tasks.{Task, task_at, is_ready, TasksAfter, ended_at, start_of, all_good, AllWhole, tasks_acceptable}

-- why a run of tasks ends
pub data Reason (budget : ℕ) (end : TasksAfter) : Type 0 where
  -- the budget is spent
  spent : end.answer ≡ 1 → end.steps ≡ budget → Reason budget end
  -- no task is ready
  idle : end.answer ≡ 0 → end.steps < budget → ((t : ℕ) → t < tasks_count → is_ready (task_at end.tasks t) ≡ false) → Reason budget end

-- what a run of tasks leaves that are taken
pub record Ended (budget : ℕ) (end : TasksAfter) : Type 0 where
  pub reason : Reason budget end
  -- n steps, from n to 42n cycles
  pub least : end.steps ≤ end.cycles
  pub most : end.cycles ≤ 42 * end.steps
  -- memory and tasks are such as the next run takes
  pub long : length end.memory ≡ memory_length
  pub four : length end.tasks ≡ tasks_count
  pub good : all_good end.tasks ≡ true
  pub whole : AllWhole end.tasks

pub record One (mem : List ℕ) (tasks : List Task) (quantum budget : ℕ) (end : TasksAfter) : Type 0 where
  -- what is not as asked is declined with 2, with no steps and no cycles and everything as it was
  pub declined : tasks_acceptable mem tasks quantum budget ≡ false → end ≡ ended_at not_as_asked (start_of mem tasks budget)
  -- else the answer is 1 or 0
  pub ended : tasks_acceptable mem tasks quantum budget ≡ true → Ended budget end
