-- What a run of tasks counts between two turns, and what it becomes.
use Rattle.std.specs.Prelude.{◌≡◌, Bool, true, false, List, ◌⊎◌, ℕ, ◌+◌, ◌-◌, eqb, set}
use Rattle.plain.specs.Choice.{pick}
use Rattle.machine.specs.Limits.{tasks_count}
use Rattle.machine.specs.Tasks.{paired, following, Between}
use Rattle.machine.specs.declared.Machine.{Machine}
use Rattle.machine.specs.declared.Steps.{Steps}
use Rattle.machine.specs.declared.Cycles.{Cycles}
use Rattle.machine.specs.declared.Tasks.{Tasks}
use Rattle.machine.specs.declared.RanTasks.{RanTasks}
use Rattle.run_words.specs.Entries.{Attends}
use Rattle.run_words.specs.declared.Clock.{Clock}

-- so many steps and cycles were taken, and this task is asked first
abbrev pub turned_to : Clock → ℕ → ℕ → ℕ → Clock
turned_to c from steps cycles =
    record {
      from = from;
      left = record { 0 = c.left.0 - steps };
      unspent = c.unspent;
      cycles = record { 0 = c.cycles.0 + cycles };
      answer = c.answer;
    }

-- the run is over for want of a ready task
abbrev pub idled_to : Clock → Clock
idled_to c = record { from = c.from; left = record { 0 = 0 }; unspent = c.left; cycles = c.cycles; answer = 0 }

-- where the run of tasks stands
abbrev pub between : ℕ → List ℕ → List Machine → List ℕ → Clock → Between
between budget mem machines kept c =
    record {
      memory = mem;
      tasks = paired machines kept;
      from = c.from;
      left = c.left.0;
      steps = budget - c.left.0;
      cycles = c.cycles.0;
    }

abbrev pub ran_tasks_of : ℕ → Steps → Cycles → Tasks → RanTasks
ran_tasks_of answer steps cycles tasks = record { answer = answer; steps = steps; cycles = cycles; tasks = tasks }

-- the task that is asked after one that has so much left of its turn
abbrev pub passed_to : ℕ → ℕ → ℕ
passed_to t rest = pick (eqb rest 0) (following t) t

-- the rest of a turn, or a whole one where none is kept
abbrev pub rest_or : ℕ → ℕ → ℕ
rest_or rest most = pick (eqb rest 0) most rest

-- a turn is over, and its task keeps the answer; or it goes on, and what is left of it is kept
pub record Closes (kept rests : List ℕ) (t answer : ℕ) (again : Bool) (unspent : ℕ) (kept' rests' : List ℕ) (from : ℕ) : Type 0 where
  pub over : again ≡ false → (kept' ≡ set kept t answer) × ((rests' ≡ rests) × (from ≡ following t))
  pub stays : again ≡ true → (kept' ≡ kept) × ((rests' ≡ set rests t unspent) × (from ≡ passed_to t unspent))

-- the task whose turns start with a test for lines: task 0 where one might enter, else none
pub record LinedTask (rows rows' : List (List ℕ)) (t : ℕ) : Type 0 where
  pub attends : Attends rows rows' (eqb t 0)
  pub one : (t ≡ 0) ⊎ (t ≡ tasks_count)
