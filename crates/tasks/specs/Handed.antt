-- Four tasks that a host hands in as bytes: they are run, and handed back as bytes.
use Rattle.std.specs.Prelude.{List, ◌≡◌, ℕ, length}
use Rattle.plain.specs.Answer.{not_as_asked}
use Rattle.machine.specs.Sum.{RunsTasksSummed}
use Rattle.machine.specs.Tasks.{Task, TasksAfter}
use Rattle.state.specs.Layout as layout
use Rattle.state.specs.Lent.{Lent}

-- what a run of tasks leaves, for the host; a run that answers 2 leaves its tasks, memory and sum as they were
abbrev pub handed_back : TasksAfter → ℕ → Lent
handed_back end left =
    record {
      number = 0;
      state = (layout.tasks).bytes end.tasks;
      memory = end.memory;
      result = (layout.result).bytes (record { answer = end.answer; steps = record { 0 = end.steps }; cycles = record { 0 = end.cycles }; sum = left });
    }

-- `HandsTasks tasks memory quantum budget sum result handed`: another length of the tasks or the result is 2, and nothing is touched;
-- else the tasks whose bytes these are run on the memory with its sum, and the bytes can carry the tasks that they leave
pub data HandsTasks (tasks memory : List ℕ) (quantum budget sum : ℕ) (result : List ℕ) : Lent → Type 0 where
  wrong-length : ((length tasks ≡ (layout.tasks).width) × (length result ≡ (layout.result).width) → ⊥)
      → HandsTasks tasks memory quantum budget sum result (record { number = not_as_asked; state = tasks; memory = memory; result = result })
  run : (four : List Task) (end : TasksAfter) (left : ℕ) → length tasks ≡ (layout.tasks).width → length result ≡ (layout.result).width
      → (layout.tasks).Fits four → (layout.tasks).bytes four ≡ tasks → RunsTasksSummed memory four quantum budget sum end left → (layout.tasks).Fits end.tasks
      → HandsTasks tasks memory quantum budget sum result (handed_back end left)
