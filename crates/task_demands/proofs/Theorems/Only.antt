-- No second answer: what two runs of the same tasks leave is equal, every byte, every task, every count and the sum.
use Rattle.std.specs.Prelude.{◌≡◌, List, ℕ}
use Rattle.std.proofs.Common.{ap}
use Rattle.machine.specs.Tasks.{Task, TasksAfter, tasks_in, Four, tasks_after_of}
use Rattle.machine.specs.Sum.{RunsTasksSummed}
use Rattle.machine.proofs.Laws.Summed.{only-summed}
use Rattle.machine.proofs.Laws.Pairs.{only-tasks-in}
use Rattle.machine.specs.declared.Tasks.{Tasks}
use Rattle.machine.specs.declared.RanTasks.{RanTasks}

-- a run of tasks, by its definition
pub only-run : {mem : List ℕ} {tasks : List Task} {quantum budget sum left other : ℕ} {x y : TasksAfter} →
    RunsTasksSummed mem tasks quantum budget sum x left → RunsTasksSummed mem tasks quantum budget sum y other → (x ≡ y) × (left ≡ other)
only-run = only-summed

-- run_tasks: the memory at exit, what it hands back, and the sum
pub only-run-tasks : (mem : List ℕ) (tasks : Tasks) (quantum budget sum : ℕ) (mem_a mem_b : List ℕ) (a b : RanTasks) (sum_a sum_b : ℕ) →
    Four a.tasks → Four b.tasks → RunsTasksSummed mem (tasks_in tasks) quantum budget sum (tasks_after_of mem_a a) sum_a →
    RunsTasksSummed mem (tasks_in tasks) quantum budget sum (tasks_after_of mem_b b) sum_b → (mem_a ≡ mem_b) × (a ≡ b) × (sum_a ≡ sum_b)
only-run-tasks mem tasks quantum budget sum mem_a mem_b a b sum_a sum_b fa fb h k =
    let alike = only-run h k in
    let same : tasks_after_of mem_a a ≡ tasks_after_of mem_b b = alike.0 in
    let four = only-tasks-in a.tasks b.tasks fa fb (ap (λ (x : TasksAfter). x.tasks) same) in (
      ap (λ (x : TasksAfter). x.memory) same,
      λ i. record { answer = (same i).answer; steps = record { 0 = (same i).steps }; cycles = record { 0 = (same i).cycles }; tasks = four i },
      alike.1,
    )
