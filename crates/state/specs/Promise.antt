-- What taking a machine or four tasks from bytes, giving them as bytes and giving a run's counts answer.
use Rattle.std.specs.Prelude.{Result, Ok, Err, List, ◌≡◌, ℕ, length, replicate}
use Rattle.std.specs.Result.{result_unwrap_or}
use Rattle.plain.specs.Answer.{Answer, refuses, gives, not_as_asked}
use Rattle.machine.specs.Limits.{tasks_count}
use Rattle.machine.specs.declared.Machine.{Machine}
use Rattle.machine.specs.declared.Tasks.{Tasks}
use Rattle.machine.specs.State.{fresh_machine}
use Rattle.machine.specs.Tasks.{tasks_in, Four}
use Rattle.machine.specs.Refusals.{number_of}
use Rattle.machine.specs.declared.refusal.Refusal.{Refusal}
use Rattle.state.specs.Parts.{Part}
use Rattle.state.specs.Layout.{state, tasks}

-- what a call that takes says, apart from what it takes
abbrev pub says_taken : {A : Type 0} → Result A Refusal → Answer (Unit {0})
says_taken (Ok taken) = gives tt
says_taken (Err why) = refuses (number_of why)

-- a refusal stands for a fresh machine
abbrev pub taken_machine : Result Machine Refusal → Machine
taken_machine answer = result_unwrap_or answer fresh_machine

-- `Takes bytes answer m`: another length is 2, with a fresh machine; else the machine whose bytes these are
pub data Takes (bytes : List ℕ) : Answer (Unit {0}) → Machine → Type 0 where
  wrong-length : (length bytes ≡ state.width → ⊥) → Takes bytes (refuses not_as_asked) fresh_machine
  spelled : (m : Machine) → length bytes ≡ state.width → state.Fits m → state.bytes m ≡ bytes → Takes bytes (gives tt) m

-- fresh machines, none of them ready
unfoldable pub blank_tasks : Tasks
blank_tasks = record { machines = replicate tasks_count fresh_machine; kept = replicate tasks_count 0 }

-- a refusal stands for blank tasks
abbrev pub taken_tasks : Result Tasks Refusal → Tasks
taken_tasks answer = result_unwrap_or answer blank_tasks

-- `TakesTasks bytes answer t`: another length is 2, with blank tasks; else the tasks whose bytes these are
pub data TakesTasks (bytes : List ℕ) : Answer (Unit {0}) → Tasks → Type 0 where
  not-four : (length bytes ≡ tasks.width → ⊥) → TakesTasks bytes (refuses not_as_asked) blank_tasks
  spelled-tasks : (t : Tasks) → length bytes ≡ tasks.width → Four t → tasks.Fits (tasks_in t) → tasks.bytes (tasks_in t) ≡ bytes → TakesTasks bytes (gives tt) t

-- `Gives part x before answer after`: another length is 2, and the lent buffer is untouched; else it is the bytes of x,
-- which by its type they can carry
pub data Gives {A : Type 0} (part : Part A) (x : A) (before : List ℕ) : Answer (Unit {0}) → List ℕ → Type 0 where
  wrong_size : (length before ≡ part.width → ⊥) → Gives part x before (refuses not_as_asked) before
  filled : length before ≡ part.width → part.Fits x → Gives part x before (gives tt) (part.bytes x)
