-- Four tasks on one memory, in turns: request P1. Interrupt lines enter task 0 only: request P4.
use Rattle.std.specs.Prelude.{◌≡◌, Bool, true, false, List, [], ◌∷◌, ℕ, zero, suc, ◌+◌, ◌-◌, ◌%◌, ◌<◌, ltb, leb, eqb, length, get_or, set}
use Rattle.plain.specs.All.{All}
use Rattle.plain.specs.Answer.{not_as_asked}
use Rattle.plain.specs.Choice.{pick, both}
use Rattle.machine.specs.Limits.{memory_length, most_budget, most_quantum, tasks_count}
use Rattle.machine.specs.Reach.{task}
use Rattle.machine.specs.State.{well_formed, Whole, no_throw, fresh_machine}
use Rattle.machine.specs.Lines.{no_lines}
use Rattle.machine.specs.Run.{After, Manner, manner_of, run_from}
use Rattle.machine.specs.declared.Machine.{Machine}
use Rattle.machine.specs.declared.Tasks.{Tasks}
use Rattle.machine.specs.declared.RanTasks.{RanTasks}

-- a task has a machine of its own, and keeps a number: that it is ready, or the answer with which it left
pub record Task : Type 0 where
  pub machine : Machine
  pub kept : ℕ

abbrev pub task_of : Machine → ℕ → Task
task_of machine kept = record { machine = machine; kept = kept }

-- ready is the answer of a run that can go on
abbrev pub ready : ℕ
ready = 1

abbrev pub fresh_task : Task
fresh_task = task_of fresh_machine ready

-- a machine and a kept number for each, as tasks
abbrev pub paired : List Machine → List ℕ → List Task
paired [] ks = []
paired (m ∷ ms) [] = []
paired (m ∷ ms) (k ∷ ks) = task_of m k ∷ paired ms ks

-- past the last task there is none: nothing in it, and not ready
abbrev pub no_machine : Machine
no_machine =
    record { cells = []; p = 0; links = record { returns = []; r = 0; frames = []; s = 0; levels = []; e = 0 }; counter = 0; flag = 0; thrown = no_throw; lines = no_lines }

abbrev pub no_task : Task
no_task = task_of no_machine 0

-- task t of four
abbrev pub task_at : List Task → ℕ → Task
task_at tasks t = get_or tasks t no_task

abbrev pub is_ready : Task → Bool
is_ready task = eqb task.kept ready

-- whose turn it is
pub data Whose : Type 0 where
  nobodys : Whose
  of_task : ℕ → Whose

abbrev pub first_ready : List Task → List ℕ → Whose
first_ready tasks [] = nobodys
first_ready tasks (t ∷ ts) = pick (is_ready (task_at tasks t)) (of_task t) (first_ready tasks ts)

-- the task after t in circular order
abbrev pub following : ℕ → ℕ
following t = (t + 1) % tasks_count

-- so many tasks in circular order from t on
abbrev pub in_order : ℕ → ℕ → List ℕ
in_order zero t = []
in_order (suc n) t = t ∷ in_order n (following t)

-- the next ready task, t itself included
unfoldable pub next_ready : List Task → ℕ → Whose
next_ready tasks t = first_ready tasks (in_order tasks_count t)

-- where a run of tasks stands between two turns: the task that is asked first whether it is ready, what is left of the budget, and
-- the steps and cycles of all tasks so far
pub record Between : Type 0 where
  pub memory : List ℕ
  pub tasks : List Task
  pub from : ℕ
  pub left : ℕ
  pub steps : ℕ
  pub cycles : ℕ

-- a turn has at most the quantum, and at most what is left of the budget
abbrev pub turn_length : ℕ → ℕ → ℕ
turn_length quantum left = pick (ltb quantum left) quantum left

-- a task is run in turns, and lines may enter task 0
abbrev pub as_task : ℕ → Manner
as_task t = manner_of true (eqb t 0)

-- task t's turn: its instructions under its reach, ended also after a PAUSE
abbrev pub turn_of : ℕ → Between → ℕ → After
turn_of quantum b t = run_from (task t) (as_task t) (turn_length quantum b.left) b.memory (task_at b.tasks t).machine 0 0

-- what a turn leaves of its task
abbrev pub left_by : After → Task
left_by a = task_of a.ran.machine a.ran.answer

-- after task t's turn: the task keeps the turn's answer, which is "ready" where quantum or budget were spent or a PAUSE passed the turn
abbrev pub after_turn : Between → ℕ → After → Between
after_turn b t a =
    record {
      memory = a.memory;
      tasks = set b.tasks t (left_by a);
      from = following t;
      left = b.left - a.ran.steps.0;
      steps = b.steps + a.ran.steps.0;
      cycles = b.cycles + a.ran.cycles.0;
    }

-- what a run of tasks leaves
pub record TasksAfter : Type 0 where
  pub answer : ℕ
  pub memory : List ℕ
  pub tasks : List Task
  pub steps : ℕ
  pub cycles : ℕ

abbrev pub ended_at : ℕ → Between → TasksAfter
ended_at answer b = record { answer = answer; memory = b.memory; tasks = b.tasks; steps = b.steps; cycles = b.cycles }

-- the run from here: a spent budget ends it with 1, no ready task with 0; else the next ready task has its turn
pub data TurnsFrom (quantum : ℕ) : Between → TasksAfter → Type 0 where
  spent : {b : Between} → b.left ≡ 0 → TurnsFrom quantum b (ended_at 1 b)
  idle : {b : Between} → 0 < b.left → next_ready b.tasks b.from ≡ nobodys → TurnsFrom quantum b (ended_at 0 b)
  turn : {b : Between} {end : TasksAfter} (t : ℕ) → 0 < b.left → next_ready b.tasks b.from ≡ of_task t →
      TurnsFrom quantum (after_turn b t (turn_of quantum b t)) end → TurnsFrom quantum b end

-- every run starts by asking task 0
abbrev pub start_of : List ℕ → List Task → ℕ → Between
start_of mem tasks budget = record { memory = mem; tasks = tasks; from = 0; left = budget; steps = 0; cycles = 0 }

-- ready, or an answer with which a task can leave: 0, 3 to 13, 16, 17
abbrev pub can_keep : ℕ → Bool
can_keep n = pick (leb n 1) true (pick (leb 16 n) (leb n 17) (both (leb 3 n) (leb n 13)))

abbrev pub task_good : Task → Bool
task_good task = both (well_formed task.machine) (can_keep task.kept)

abbrev pub all_good : List Task → Bool
all_good [] = true
all_good (x ∷ xs) = both (task_good x) (all_good xs)

-- the lists of each machine are as long as the arrays that they stand for
abbrev pub AllWhole : List Task → Type 0
AllWhole tasks = All (λ (task : Task). Whole task.machine) tasks

-- memory length, budget, quantum, and all tasks whether ready or not
unfoldable pub tasks_acceptable : List ℕ → List Task → ℕ → ℕ → Bool
tasks_acceptable mem tasks quantum budget =
    both (eqb (length mem) memory_length)
    (both (leb budget most_budget) (both (both (leb 1 quantum) (leb quantum most_quantum)) (both (eqb (length tasks) tasks_count) (all_good tasks))))

-- a run of four tasks; what is not as asked is refused before the first turn, and nothing is altered
pub data RunsTasks (mem : List ℕ) (tasks : List Task) (quantum budget : ℕ) : TasksAfter → Type 0 where
  declined : tasks_acceptable mem tasks quantum budget ≡ false → RunsTasks mem tasks quantum budget (ended_at not_as_asked (start_of mem tasks budget))
  ran : {end : TasksAfter} → tasks_acceptable mem tasks quantum budget ≡ true → TurnsFrom quantum (start_of mem tasks budget) end →
      RunsTasks mem tasks quantum budget end

-- what a function that runs tasks hands back, with the memory
abbrev pub tasks_in : Tasks → List Task
tasks_in tasks = paired tasks.machines tasks.kept

-- four machines and four kept numbers: the lists are as long as the arrays that they stand for
pub record Four (tasks : Tasks) : Type 0 where
  pub machines-long : length tasks.machines ≡ tasks_count
  pub kept-long : length tasks.kept ≡ tasks_count

abbrev pub tasks_after_of : List ℕ → RanTasks → TasksAfter
tasks_after_of memory handed =
    record { answer = handed.answer; memory = memory; tasks = tasks_in handed.tasks; steps = handed.steps.0; cycles = handed.cycles.0 }
