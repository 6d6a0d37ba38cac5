-- Every run of tasks ends: each turn takes a step from the budget, or leaves one task fewer ready.
use Rattle.std.specs.Prelude.{◌≡◌, refl, Bool, true, false, List, ℕ, zero, suc, ◌≤◌, ◌<◌, leb, eqb, length}
use Rattle.std.proofs.Common.{◌∙◌, arith, eqb-true}
use Rattle.std.proofs.lemmas.Bool.{eqb-false}
use Rattle.plain.specs.Answer.{not_as_asked}
use Rattle.machine.proofs.Laws.Circular.{next-ready}
use Rattle.machine.specs.Limits.{tasks_count, most_sum}
use Rattle.machine.specs.Reach.{task}
use Rattle.machine.specs.Sum.{sum_after, sum-declined, sum-taken}
use Rattle.machine.specs.Tasks.{Task, task_at, Whose, nobodys, of_task, next_ready, Between, TasksAfter, ended_at, start_of, turn_length, turn_of, after_turn, TurnsFrom, spent, idle, turn, tasks_acceptable, declined, ran}
use Rattle.machine.proofs.Laws.After.{as_many}
use Rattle.machine.proofs.Laws.Turns.{turn-within, turn-steps, turn-length, turn-moves, to_go, less-to-go}
use Rattle.task_demands.specs.Ends.{Ends, EndsSummed}
use Rattle.machine.proofs.Laws.TasksTaken.{taken}

-- a run from here
record EndsFrom (quantum : ℕ) (b : Between) : Type 0 where
  end : TasksAfter
  turns : TurnsFrom quantum b end

ends-from : (quantum : ℕ) → 1 ≤ quantum → (most : ℕ) (b : Between) → to_go b ≤ most → b.from < tasks_count → length b.tasks ≡ tasks_count →
    EndsFrom quantum b
ends-from quantum some zero b bound within four = record { end = ended_at 1 b; turns = spent {b = b} (omega arith) }
ends-from quantum some (suc most) b bound within four =
    by_left (eqb b.left 0) refl
    (λ t more is.
    let next = next-ready b.tasks b.from t within is in
    let a = turn_of quantum b t in
    let m = (task_at b.tasks t).machine in
    let k = turn_length quantum b.left in
    let steps : a.ran.steps.0 ≤ k = turn-steps (task t) (eqb t 0) k b.memory m in
    let short : k ≤ b.left = turn-within quantum b.left in
    let less : to_go (after_turn b t a) < to_go b =
    less-to-go b t a (omega arith) (turn-moves (task t) (eqb t 0) k b.memory m (turn-length quantum b.left some more)) (omega (arith, next.1)) next.0 in
    ends-from quantum some most (after_turn b t a) (omega arith) (omega arith) (as_many b t a ∙ four))
  where
    by_next : (w : Whose) → next_ready b.tasks b.from ≡ w → 0 < b.left →
        ((t : ℕ) → next_ready b.tasks b.from ≡ of_task t → EndsFrom quantum (after_turn b t (turn_of quantum b t))) → EndsFrom quantum b
    by_next nobodys is more later = record { end = ended_at 0 b; turns = idle more is }
    by_next (of_task t) is more later = record { end = (later t is).end; turns = turn t more is (later t is).turns }

    by_left : (x : Bool) → eqb b.left 0 ≡ x →
        ((t : ℕ) → 0 < b.left → next_ready b.tasks b.from ≡ of_task t → EndsFrom quantum (after_turn b t (turn_of quantum b t))) → EndsFrom quantum b
    by_left true e later = record { end = ended_at 1 b; turns = spent (eqb-true b.left 0 e) }
    by_left false e later =
        let differs : b.left ≡ 0 → ⊥ = eqb-false b.left 0 e in
        let more : 0 < b.left = omega arith in
        by_next (next_ready b.tasks b.from) refl more (λ t is. later t more is)

pub ends : (mem : List ℕ) (tasks : List Task) (quantum budget : ℕ) → Ends mem tasks quantum budget
ends mem tasks quantum budget = go (tasks_acceptable mem tasks quantum budget) refl
  where
    go : (b : Bool) → tasks_acceptable mem tasks quantum budget ≡ b → Ends mem tasks quantum budget
    go true e =
        let t = taken mem tasks quantum budget e in
        let start = start_of mem tasks budget in
        let run = ends-from quantum t.some (to_go start) start (omega arith) (omega arith) t.four in
        record { end = run.end; runs = ran e run.turns }
    go false e = record { end = ended_at not_as_asked (start_of mem tasks budget); runs = declined e }

pub ends-summed : (mem : List ℕ) (tasks : List Task) (quantum budget sum : ℕ) → EndsSummed mem tasks quantum budget sum
ends-summed mem tasks quantum budget sum = go (leb sum most_sum) refl
  where
    go : (b : Bool) → leb sum most_sum ≡ b → EndsSummed mem tasks quantum budget sum
    go true e = let run = ends mem tasks quantum budget in record { end = run.end; left = sum_after sum mem run.end.memory; runs = sum-taken e run.runs }
    go false e = record { end = ended_at not_as_asked (start_of mem tasks budget); left = sum; runs = sum-declined e }
