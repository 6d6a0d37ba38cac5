-- What a reach shuts out: bytes that are not touched, and bytes that make no difference.
use Rattle.std.specs.Prelude.{◌≡◌, true, false, List, ℕ, ◌+◌, ◌≤◌, ◌<◌, length}
use Rattle.numbers.specs.Bytes.{byte_at}
use Rattle.machine.specs.Limits.{part_length}
use Rattle.machine.specs.Reach.{part_start, may_touch}
use Rattle.machine.specs.Step.{Stepped, refused, done}
use Rattle.machine.specs.Run.{After}
use Rattle.machine.specs.Tasks.{task_at, Between}
use Rattle.machine.specs.declared.Machine.{Machine}
use Rattle.machine.specs.declared.Reach.{Reach}

-- every byte out of reach is as it was
abbrev pub Spares : Reach → List ℕ → List ℕ → Type 0
Spares reach before after = (a : ℕ) → may_touch reach a ≡ false → byte_at after a ≡ byte_at before a

-- two memories of one length that hold the same within reach; out of reach each holds what it likes
pub record Alike (reach : Reach) (mem twin : List ℕ) : Type 0 where
  pub same_length : length mem ≡ length twin
  pub same_bytes : (a : ℕ) → may_touch reach a ≡ true → byte_at mem a ≡ byte_at twin a

-- two steps are refused with the same number, or leave the same machine at the same cost, and memories that are alike
pub data SameStep (reach : Reach) : Stepped → Stepped → Type 0 where
  refuses : (n : ℕ) → SameStep reach (refused n) (refused n)
  does : {mem twin : List ℕ} {m : Machine} {k : ℕ} → Alike reach mem twin → SameStep reach (done mem m k) (done twin m k)

-- two runs leave the same answer, machine, steps and cycles, and memories that are alike
pub record SameRun (reach : Reach) (a twin : After) : Type 0 where
  pub same-ran : a.ran ≡ twin.ran
  pub alike : Alike reach a.memory twin.memory

-- a byte of task u's part
pub record InPart (u a : ℕ) : Type 0 where
  pub from : part_start u ≤ a
  pub below : a < part_start u + part_length

-- what is task u's alone is as it was: its machine, the number that it keeps, every byte of its part
pub record LeavesAlone (u : ℕ) (b after : Between) : Type 0 where
  pub same-task : task_at after.tasks u ≡ task_at b.tasks u
  pub same-part : (a : ℕ) → InPart u a → byte_at after.memory a ≡ byte_at b.memory a
