-- Isolation: a task's turn leaves the other tasks alone, and takes no notice of them.
use Rattle.std.specs.Prelude.{◌≡◌, refl, Bool, true, false, ℕ, ◌+◌, ◌*◌, ◌<◌, ◌≤◌, ltb, leb}
use Rattle.std.proofs.Common.{ap, ◌∙◌, subst, arith, leb-true, ltb-true, le-ltb}
use Rattle.plain.specs.Choice.{pick, both}
use Rattle.machine.specs.Limits.{shared_length, part_length}
use Rattle.machine.specs.Reach.{part_start, task, may_touch}
use Rattle.machine.specs.Run.{run_from}
use Rattle.machine.specs.Tasks.{task_at, Between, turn_length, as_task, turn_of, after_turn}
use Rattle.machine.specs.declared.Machine.{Machine}
use Rattle.task_demands.specs.Isolation.{Spares, Alike, SameRun, InPart, LeavesAlone}
use Rattle.machine.proofs.Laws.After.{other-task}
use Rattle.task_demands.proofs.Laws.SameStep.{run-spares, same-run}

-- another's part is out of reach
out-of-reach : (t u a : ℕ) → (u ≡ t → ⊥) → InPart u a → may_touch (task t) a ≡ false
out-of-reach t u a other part =
    let from : shared_length + part_length * u ≤ a = part.from in
    let below : a < shared_length + part_length * u + part_length = part.below in
    ap (λ (b : Bool). pick b true (both (leb (part_start t) a) (ltb a (part_start t + part_length)))) (le-ltb a shared_length (omega arith))
    ∙ go (leb (part_start t) a) (ltb a (part_start t + part_length)) refl refl
  where
    go : (x y : Bool) → leb (part_start t) a ≡ x → ltb a (part_start t + part_length) ≡ y → both x y ≡ false
    go true true lo hi =
        let low : shared_length + part_length * t ≤ a = leb-true (part_start t) a lo in
        let high : a < shared_length + part_length * t + part_length = ltb-true a (part_start t + part_length) hi in
        let from : shared_length + part_length * u ≤ a = part.from in
        let below : a < shared_length + part_length * u + part_length = part.below in
        absurd (other (omega arith))
    go true false lo hi = refl
    go false y lo hi = refl

-- a turn touches no byte out of its task's reach
pub turn-spares : (quantum : ℕ) (b : Between) (t : ℕ) → Spares (task t) b.memory (turn_of quantum b t).memory
turn-spares quantum b t = run-spares (task t) (as_task t) (turn_length quantum b.left) b.memory (task_at b.tasks t).machine 0 0

-- so it leaves alone what is another's
pub turn-leaves-alone : (quantum : ℕ) (b : Between) (t u : ℕ) → (u ≡ t → ⊥) → LeavesAlone u b (after_turn b t (turn_of quantum b t))
turn-leaves-alone quantum b t u other =
    record {
      same-task = other-task b t (turn_of quantum b t) u other;
      same-part = λ x part. turn-spares quantum b t x (out-of-reach t u x other part);
    }

-- What a turn does depends on its task's machine, on what is left of the budget and on the bytes within its reach. The other tasks
-- and the bytes of their parts make no difference.
pub turn-takes-no-notice : (quantum : ℕ) (b twin : Between) (t : ℕ) → (task_at b.tasks t).machine ≡ (task_at twin.tasks t).machine →
    b.left ≡ twin.left → Alike (task t) b.memory twin.memory → SameRun (task t) (turn_of quantum b t) (turn_of quantum twin t)
turn-takes-no-notice quantum b twin t machine left alike =
    subst
    (λ (m : Machine). SameRun (task t) (turn_of quantum b t) (run_from (task t) (as_task t) (turn_length quantum twin.left) twin.memory m 0 0))
    machine
    (subst
    (λ (n : ℕ).
    SameRun (task t) (turn_of quantum b t) (run_from (task t) (as_task t) (turn_length quantum n) twin.memory (task_at b.tasks t).machine 0 0))
    left
    (same-run (task t) (as_task t) (turn_length quantum b.left) b.memory twin.memory (task_at b.tasks t).machine 0 0 alike))
