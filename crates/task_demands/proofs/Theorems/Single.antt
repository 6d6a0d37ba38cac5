-- A run of four tasks of which one is ready is that task's single run under its reach, which lines may enter where it is task 0 and not else.
use Rattle.std.specs.Prelude.{◌≡◌, refl, Bool, true, false, List, ℕ, ◌+◌, ◌≤◌, ◌<◌, eqb, length, set}
use Rattle.std.proofs.Common.{sym, ap, ◌∙◌, subst, add-zero, arith, eq-eqb, ne_eqb, eqb-true, set-set}
use Rattle.std.proofs.lemmas.Bool.{eqb-false}
use Rattle.std.proofs.lemmas.List.{set-get_or}
use Rattle.plain.specs.Choice.{pick}
use Rattle.machine.proofs.Laws.Circular.{next-ready}
use Rattle.machine.specs.Limits.{tasks_count}
use Rattle.machine.specs.Reach.{task}
use Rattle.machine.specs.Run.{After, ended, run_from}
use Rattle.machine.specs.Tasks.{Task, task_of, task_at, ready, is_ready, Between, TasksAfter, ended_at, turn_length, turn_of, after_turn, TurnsFrom, spent, idle, turn, tasks_acceptable, RunsTasks, declined, ran, left_by, no_task}
use Rattle.machine.proofs.Laws.Clash.{clash}
use Rattle.machine.proofs.Laws.Onward.{run_on, Onward, goes_on, stopped, onward}
use Rattle.machine.proofs.Laws.Refusals.{refused-leaves}
use Rattle.machine.proofs.Laws.Steps.{run-spent}
use Rattle.task_demands.specs.Single.{OnlyReady, singly, told_of_tasks}
use Rattle.machine.proofs.Laws.After.{as_many, own-task, other-task}
use Rattle.task_demands.proofs.Laws.Circular.{none-ready}
use Rattle.machine.proofs.Laws.TasksTaken.{taken}
use Rattle.machine.proofs.Laws.Turns.{turn-within}

-- where no task is ready and the budget lasts, there is no turn
no-turn : {quantum : ℕ} {b : Between} {end : TasksAfter} → b.from < tasks_count → 0 < b.left →
    ((t : ℕ) → t < tasks_count → is_ready (task_at b.tasks t) ≡ false) → TurnsFrom quantum b end → end ≡ ended_at 0 b
no-turn within some none (spent e) = absurd (omega arith)
no-turn within some none (idle some' e) = refl
no-turn {b = b} within some none (turn t some' is rest) =
    let next = next-ready b.tasks b.from t within is in
    clash _ next.0 (none t next.1)

-- the single run from here
abbrev from_here : Between → ℕ → After
from_here b u = run_from (task u) (singly u) b.left b.memory (task_at b.tasks u).machine b.steps b.cycles

abbrev Claim : Between → ℕ → TasksAfter → Type 0
Claim b u end = end ≡ told_of_tasks (b.left + b.steps) b.tasks u (from_here b u)

-- after t's turn, which left a
module _ (b : Between) (t : ℕ) (only : OnlyReady t b.tasks) (four : length b.tasks ≡ tasks_count) (a : After) where
  own : task_at (after_turn b t a).tasks t ≡ left_by a
  own = own-task b t a (omega (arith, four, only.within))

  no_other : (u : ℕ) → u < tasks_count → (u ≡ t → ⊥) → is_ready (task_at (after_turn b t a).tasks u) ≡ false
  no_other u within differs =
      ap is_ready (other-task b t a u differs) ∙ only.no_other u within differs

  still-only : a.ran.answer ≡ ready → OnlyReady t (after_turn b t a).tasks
  still-only e =
      record { within = only.within; is-ready = ap is_ready own ∙ eq-eqb a.ran.answer ready e; no_other = no_other }

  -- it can go on: the rest is the rest of its single run
  going_on : (rest : ℕ) (end : TasksAfter) → b.left + 0 ≡ rest + a.ran.steps.0 → from_here b t ≡ run_on (task t) (eqb t 0) rest b.steps b.cycles a →
      Claim (after_turn b t a) t end → Claim b t end
  going_on rest end all is later =
      let after = after_turn b t a in
      let left_is : after.left ≡ rest = omega arith in
      let budget-is : after.left + after.steps ≡ b.left + b.steps = omega arith in
      let run_is : from_here after t ≡ from_here b t =
      ap (λ (n : ℕ). run_from (task t) (singly t) n a.memory (task_at after.tasks t).machine after.steps after.cycles) left_is
      ∙ (ap (λ (x : Task). run_from (task t) (singly t) rest a.memory x.machine after.steps after.cycles) own ∙ sym is) in
      later
      ∙ (ap (λ (n : ℕ). told_of_tasks n after.tasks t (from_here after t)) budget-is
      ∙ (ap (told_of_tasks (b.left + b.steps) after.tasks t) run_is
      ∙ ap
      (λ (ts : List Task). record {
        answer = pick (eqb (from_here b t).ran.steps.0 (b.left + b.steps)) 1 0;
        memory = (from_here b t).memory;
        tasks = ts;
        steps = (from_here b t).ran.steps.0;
        cycles = (from_here b t).ran.cycles.0;
      })
      (set-set b.tasks t (left_by a) (left_by (from_here b t)))))

  -- it is refused, and so is its single run: no task is ready any more
  leaving : (quantum : ℕ) (end : TasksAfter) → (a.ran.answer ≡ ready → ⊥) → a.ran.steps.0 < b.left → t < tasks_count →
      from_here b t ≡ ended a.ran.answer a.memory a.ran.machine (b.steps + a.ran.steps.0) (b.cycles + a.ran.cycles.0) →
      TurnsFrom quantum (after_turn b t a) end → Claim b t end
  leaving quantum end not-ready below within is rest =
      no-turn (omega arith) (omega arith) none rest
      ∙ (ap
      (λ (x : Bool). record {
        answer = pick x 1 0;
        memory = a.memory;
        tasks = set b.tasks t (left_by a);
        steps = b.steps + a.ran.steps.0;
        cycles = b.cycles + a.ran.cycles.0;
      })
      (sym (ne_eqb (b.steps + a.ran.steps.0) (b.left + b.steps) (λ (e : b.steps + a.ran.steps.0 ≡ b.left + b.steps). omega arith)))
      ∙ ap (told_of_tasks (b.left + b.steps) b.tasks t) (sym is))
    where
      none : (u : ℕ) → u < tasks_count → is_ready (task_at (after_turn b t a).tasks u) ≡ false
      none u within = go (eqb u t) refl
        where
          go : (x : Bool) → eqb u t ≡ x → is_ready (task_at (after_turn b t a).tasks u) ≡ false
          go true e =
              ap (λ (v : ℕ). is_ready (task_at (after_turn b t a).tasks v)) (eqb-true u t e)
              ∙ (ap is_ready own ∙ ne_eqb a.ran.answer ready not-ready)
          go false e = no_other u within (eqb-false u t e)

-- t's turn, whichever way it ends
onward-claim : (quantum : ℕ) (b : Between) (t : ℕ) → OnlyReady t b.tasks → length b.tasks ≡ tasks_count → (end : TasksAfter) (run a : After) (k : ℕ) → k ≤ b.left →
    run ≡ from_here b t → Onward (task t) (eqb t 0) k b.left b.steps b.cycles 0 run a → TurnsFrom quantum (after_turn b t a) end →
    (OnlyReady t (after_turn b t a).tasks → Claim (after_turn b t a) t end) → Claim b t end
onward-claim quantum b t only four end run a k short same (goes_on one rest all is) turns later =
    going_on b t only four a rest end all (sym same ∙ is) (later (still-only b t only four a one))
onward-claim quantum b t only four end run a k short same (stopped e below is) turns later =
    leaving b t only four a quantum end (refused-leaves (task t) a.memory a.ran.machine a.ran.answer e).1 (omega arith) only.within
    (sym same ∙ is) turns

-- a spent budget ends the single run too
spent-claim : (b : Between) (u : ℕ) → b.left ≡ 0 → is_ready (task_at b.tasks u) ≡ true → Claim b u (ended_at 1 b)
spent-claim b u e is =
    let m = (task_at b.tasks u).machine in
    let over : from_here b u ≡ ended 1 b.memory m b.steps b.cycles =
    ap (λ (n : ℕ). run_from (task u) (singly u) n b.memory m b.steps b.cycles) e ∙
    run-spent (task u) (singly u) b.memory m b.steps b.cycles in
    let same : set b.tasks u (task_of m 1) ≡ b.tasks =
    ap (λ (n : ℕ). set b.tasks u (task_of m n)) (sym (eqb-true (task_at b.tasks u).kept ready is)) ∙ set-get_or b.tasks u no_task in
    ap (λ (ts : List Task). record { answer = 1; memory = b.memory; tasks = ts; steps = b.steps; cycles = b.cycles }) (sym same)
    ∙ (ap
    (λ (x : Bool). record { answer = pick x 1 0; memory = b.memory; tasks = set b.tasks u (task_of m 1); steps = b.steps; cycles = b.cycles })
    (sym (eq-eqb b.steps (b.left + b.steps) (omega arith)))
    ∙ ap (told_of_tasks (b.left + b.steps) b.tasks u) (sym over))

-- the next ready task is the only one
next-only : (b : Between) (t u : ℕ) → OnlyReady u b.tasks → is_ready (task_at b.tasks t) ≡ true → t < tasks_count → t ≡ u
next-only b t u only is within = go (eqb t u) refl
  where
    go : (x : Bool) → eqb t u ≡ x → t ≡ u
    go true e = eqb-true t u e
    go false e = clash _ is (only.no_other t within (eqb-false t u e))

single-from : {quantum : ℕ} {b : Between} {end : TasksAfter} (u : ℕ) → b.from < tasks_count → OnlyReady u b.tasks → length b.tasks ≡ tasks_count →
    TurnsFrom quantum b end → Claim b u end
single-from {b = b} u within only four (spent e) = spent-claim b u e only.is-ready
single-from {b = b} u within only four (idle some none) =
    clash _ only.is-ready (none-ready b.tasks b.from u within only.within none)
single-from {quantum} {b} {end} u within only four (turn t some is rest) =
    let next = next-ready b.tasks b.from t within is in
    let same : t ≡ u = next-only b t u only next.0 next.1 in
    let k = turn_length quantum b.left in
    let short = turn-within quantum b.left in
    let m = (task_at b.tasks t).machine in
    let counts : run_from (task t) (singly t) b.left b.memory m (b.steps + 0) (b.cycles + 0) ≡ from_here b t =
    ap (λ (n : ℕ). run_from (task t) (singly t) b.left b.memory m n (b.cycles + 0)) (add-zero b.steps)
    ∙ ap (λ (n : ℕ). run_from (task t) (singly t) b.left b.memory m b.steps n) (add-zero b.cycles) in
    subst (λ (v : ℕ). Claim b v end) same
    (onward-claim quantum b t (subst (λ (v : ℕ). OnlyReady v b.tasks) (sym same) only) four end _ (turn_of quantum b t) k short counts
    (onward (task t) (eqb t 0) k b.left short b.memory m 0 0 b.steps b.cycles) rest
    (λ now.
    single-from t (omega arith) now (as_many b t (turn_of quantum b t) ∙ four) rest))

pub single : (mem : List ℕ) (tasks : List Task) (quantum budget : ℕ) (end : TasksAfter) (u : ℕ) → OnlyReady u tasks →
    tasks_acceptable mem tasks quantum budget ≡ true → RunsTasks mem tasks quantum budget end →
    end ≡ told_of_tasks budget tasks u (run_from (task u) (singly u) budget mem (task_at tasks u).machine 0 0)
single mem tasks quantum budget end u only good (declined bad) = clash (tasks_acceptable mem tasks quantum budget) good bad
single mem tasks quantum budget end u only good (ran good' run) =
    single-from u (omega arith) only (taken mem tasks quantum budget good).four run
    ∙ ap (λ (n : ℕ). told_of_tasks n tasks u (run_from (task u) (singly u) budget mem (task_at tasks u).machine 0 0)) (add-zero budget)
