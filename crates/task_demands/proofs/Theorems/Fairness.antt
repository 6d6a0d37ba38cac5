-- Fairness: a ready task waits for one turn of each ready task that is asked before it, and for no more, while the budget lasts.
use Rattle.std.specs.Prelude.{◌≡◌, refl, Bool, true, false, List, ◌∷◌, ℕ, zero, suc, ◌+◌, ◌%◌, ◌<◌}
use Rattle.std.proofs.Common.{sym, ap, ◌∙◌, subst, arith, ne_eqb}
use Rattle.plain.specs.Choice.{pick}
use Rattle.machine.proofs.Laws.Circular.{next-ready}
use Rattle.machine.specs.Limits.{tasks_count}
use Rattle.machine.specs.Tasks.{Task, task_at, is_ready, nobodys, following, next_ready, Between, TasksAfter, start_of, turn_of, after_turn, TurnsFrom, spent, idle, turn, in_order}
use Rattle.machine.proofs.Laws.Clash.{clash}
use Rattle.task_demands.specs.Fairness.{ready_among, distance, turns_in, Waits, served, cut_short, WaitsFairly, times}
use Rattle.machine.proofs.Laws.After.{other-task}
use Rattle.task_demands.proofs.Laws.Circular.{at-distance, none-ready}
use Rattle.task_demands.proofs.Laws.Waiting.{differ, ready-absent, first-asked, skipped, ready-kept, all-ready, ready-once, ready-others}

-- a task that is not ready has no turn, and stays as it is to the end of the run
pub no-turn-unless-ready : {quantum : ℕ} {b : Between} {end : TasksAfter} (u : ℕ) → b.from < tasks_count → is_ready (task_at b.tasks u) ≡ false →
    (run : TurnsFrom quantum b end) → (times u (turns_in run) ≡ 0) × (task_at end.tasks u ≡ task_at b.tasks u)
no-turn-unless-ready u within off (spent e) = (refl, refl)
no-turn-unless-ready u within off (idle some none) = (refl, refl)
no-turn-unless-ready {quantum} {b} {end} u within off (turn t some is rest) =
    let on = (next-ready b.tasks b.from t within is).0 in
    let other : u ≡ t → ⊥ = λ (same : u ≡ t). clash _ on (ap (λ (x : ℕ). is_ready (task_at b.tasks x)) (sym same) ∙ off) in
    let same = other-task b t (turn_of quantum b t) u other in
    let later = no-turn-unless-ready u (omega arith) (ap is_ready same ∙ off) rest in (
      rw (ne_eqb t u (λ (e : t ≡ u). other (sym e))) later.0,
      later.1 ∙ same,
    )

one_more : (t u : ℕ) (before turns : List ℕ) (end : TasksAfter) → Waits u before turns end → Waits u (t ∷ before) (t ∷ turns) end
one_more t u before turns end (served later is) = served later (ap (λ (l : List ℕ). t ∷ l) is)
one_more t u before turns end (cut_short missing is one) = cut_short missing (ap (λ (l : List ℕ). t ∷ l) is) one

-- the next task is asked first
abbrev advance : Between → Between
advance b =
    record { memory = b.memory; tasks = b.tasks; from = following b.from; left = b.left; steps = b.steps; cycles = b.cycles }

-- the ready ones of so many tasks after the one that is asked first
abbrev ready_later : Between → ℕ → List ℕ
ready_later b d = ready_among b.tasks (in_order d (following b.from))

-- while u is ready the run is not idle
not-idle : {A : Type 0} (b : Between) (u : ℕ) → b.from < tasks_count → u < tasks_count → is_ready (task_at b.tasks u) ≡ true →
    next_ready b.tasks b.from ≡ nobodys → A
not-idle b u within below on none = clash _ on (none-ready b.tasks b.from u within below none)

-- by the distance of u: each turn before its own, and each task that is passed over, makes it smaller
waits-from : {quantum : ℕ} (d : ℕ) {b : Between} {end : TasksAfter} (u : ℕ) → b.from < tasks_count → d < tasks_count → u ≡ (b.from + d) % tasks_count →
    is_ready (task_at b.tasks u) ≡ true → (run : TurnsFrom quantum b end) → Waits u (ready_among b.tasks (in_order d b.from)) (turns_in run) end
waits-from zero u within below at on (spent e) = cut_short _ refl refl
waits-from zero {b} u within below at on (idle some none) = not-idle b u within (omega arith) on none
waits-from zero {b} u within below at on (turn t some is rest) =
    let here : b.from ≡ u = omega arith in
    let first = first-asked b.tasks b.from (ap (λ (x : ℕ). is_ready (task_at b.tasks x)) here ∙ on) in
    let same : t ≡ u = cc in
    served (turns_in rest) (ap (λ (x : ℕ). x ∷ turns_in rest) same)
waits-from (suc d) u within below at on (spent e) = cut_short _ refl refl
waits-from (suc d) {b} u within below at on (idle some none) = not-idle b u within (omega arith) on none
waits-from {quantum} (suc d) {b} {end} u within below at on (turn t some is rest) =
    go (is_ready (task_at b.tasks b.from)) refl
    (λ same.
    let other : u ≡ t → ⊥ = λ (e : u ≡ t). omega arith in
    waits-from d u (omega arith) (omega arith) (omega arith)
    (ap is_ready (other-task b t (turn_of quantum b t) u other) ∙ on) rest)
    (λ off.
    waits-from d {b = advance b} u (omega arith) (omega arith) (omega arith) on
    (turn t some (skipped b.tasks b.from within off ∙ is) rest))
  where
    go : (x : Bool) → is_ready (task_at b.tasks b.from) ≡ x →
        (t ≡ b.from → Waits u (ready_among (after_turn b t (turn_of quantum b t)).tasks (in_order d (following t))) (turns_in rest) end) →
        (is_ready (task_at b.tasks b.from) ≡ false → Waits u (ready_later b d) (t ∷ turns_in rest) end) →
        Waits u (pick x (b.from ∷ ready_later b d) (ready_later b d)) (t ∷ turns_in rest) end
    go true e on-turn passed_over =
        let first = first-asked b.tasks b.from e in
        let same : t ≡ b.from = cc in
        let kept = ready-kept b.tasks t _ (in_order d (following t)) (differ d (following t) t (omega arith) (λ j h e. omega arith)) in
        subst (λ (x : ℕ). Waits u (x ∷ ready_among b.tasks (in_order d (following x))) (t ∷ turns_in rest) end) same
        (one_more t u _ (turns_in rest) end (subst (λ (l : List ℕ). Waits u l (turns_in rest) end) kept (on-turn same)))
    go false e on-turn passed_over = passed_over e

-- From any place between two turns; the next two say it of the start of a run and of what follows a turn.
pub waits-fairly : {quantum : ℕ} {b : Between} {end : TasksAfter} (u : ℕ) → b.from < tasks_count → u < tasks_count →
    is_ready (task_at b.tasks u) ≡ true → (run : TurnsFrom quantum b end) → WaitsFairly u b (turns_in run) end
waits-fairly {b = b} u within below on run =
    let d = distance b.from u in
    let at = at-distance b.from u within below in
    record {
      waits = waits-from d u within (omega arith) at on run;
      all-ready = all-ready b.tasks (in_order d b.from);
      once-each = λ t. ready-once b.tasks d b.from t (omega arith) within;
      not_itself = ready-absent b.tasks u (in_order d b.from) (differ d b.from u within (λ j h e. omega arith));
      at-most-others = ready-others b.tasks d b.from u (omega arith) within at;
    }

-- before its first turn in a run
pub waits-at-start : {quantum : ℕ} {end : TasksAfter} (mem : List ℕ) (tasks : List Task) (budget u : ℕ) → u < tasks_count → is_ready (task_at tasks u) ≡ true →
    (run : TurnsFrom quantum (start_of mem tasks budget) end) → WaitsFairly u (start_of mem tasks budget) (turns_in run) end
waits-at-start mem tasks budget u below on run = waits-fairly u (omega arith) below on run

-- between two turns: after its own, or any other
pub waits-after-turn : {quantum : ℕ} {end : TasksAfter} (b : Between) (t u : ℕ) → u < tasks_count →
    is_ready (task_at (after_turn b t (turn_of quantum b t)).tasks u) ≡ true → (run : TurnsFrom quantum (after_turn b t (turn_of quantum b t)) end) →
    WaitsFairly u (after_turn b t (turn_of quantum b t)) (turns_in run) end
waits-after-turn b t u below on run = waits-fairly u (omega arith) below on run
