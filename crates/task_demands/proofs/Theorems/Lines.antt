-- Interrupt lines enter task 0 only: request P4.
use Rattle.std.specs.Prelude.{◌≡◌, refl, Bool, true, false, ℕ, ◌<◌, eqb, length}
use Rattle.std.proofs.Common.{sym, ap, ◌∙◌, subst, arith, ne_eqb, eqb-true}
use Rattle.std.proofs.lemmas.Bool.{eqb-false}
use Rattle.machine.specs.Reach.{task}
use Rattle.machine.specs.Run.{manner_of, run_from}
use Rattle.machine.specs.Tasks.{Task, task_at, Between, TasksAfter, turn_length, turn_of, after_turn, TurnsFrom, spent, idle, turn}
use Rattle.machine.proofs.Laws.After.{as_many, own-task, other-task}
use Rattle.machine.proofs.Laws.Releases.{mask-kept, waiting_kept}
use Rattle.demands.specs.History.{World, History, here, then, step, enters, host, others, joined, Unbroken}
use Rattle.demands.specs.Course.{EntersAsItMay}
use Rattle.demands.specs.Lines.{Carried, NoneEnters}
use Rattle.demands.proofs.Theorems.Two.{turn-counts}
use Rattle.task_demands.specs.Histories.{world_at, world_at_end, Follows, at-spent, at-idle, own_turn, others-turn}

unlined : (t : ℕ) → (t ≡ 0 → ⊥) → eqb t 0 ≡ false
unlined t other = ne_eqb t 0 other

-- A turn of task 0 is one that lines may enter; a turn of any other is the turn of a machine without the unit, whatever its mask,
-- requests and block.
pub enters-task-zero : (quantum : ℕ) (b : Between) →
    turn_of quantum b 0 ≡ run_from (task 0) (manner_of true true) (turn_length quantum b.left) b.memory (task_at b.tasks 0).machine 0 0
enters-task-zero quantum b = refl

pub enters-no-other : (quantum : ℕ) (b : Between) (t : ℕ) → (t ≡ 0 → ⊥) →
    turn_of quantum b t ≡ run_from (task t) (manner_of true false) (turn_length quantum b.left) b.memory (task_at b.tasks t).machine 0 0
enters-no-other quantum b t other =
    ap (λ (lined : Bool). run_from (task t) (manner_of true lined) (turn_length quantum b.left) b.memory (task_at b.tasks t).machine 0 0)
    (unlined t other)

joined-unentered : {w u v : World} (h : History w u) (k : History u v) → NoneEnters h → NoneEnters k → NoneEnters (joined h k)
joined-unentered here k none later = later
joined-unentered (then (step reach c e) rest) k none later = joined-unentered rest k none later
joined-unentered (then (enters n e kept is) rest) k none later = absurd none
joined-unentered (then (host mask waiting e) rest) k none later = joined-unentered rest k none later
joined-unentered (then (others e) rest) k none later = joined-unentered rest k none later

-- the same with u first, as the recursion asks for it
unentered : {quantum : ℕ} (u : ℕ) → (u ≡ 0 → ⊥) → {b : Between} {end : TasksAfter} (run : TurnsFrom quantum b end) (h : History (world_at u b) (world_at_end u end)) →
    Follows quantum u b end run h → NoneEnters h
unentered u other run h (at-spent e) = tt
unentered u other run h (at-idle some none) = tt
unentered u other run h (own_turn some is rest now later follows) =
    joined-unentered now.history later
    (subst (λ (lined : Bool). EntersAsItMay lined now.history) (unlined u other) now.lines)
    (unentered u other rest later follows)
unentered u other run h (others-turn t some is rest differs same later follows) = unentered u other rest later follows

-- So in the history that task 1, 2 or 3 has of any turns no line ever enters.
pub none-enters : {quantum : ℕ} {b : Between} {end : TasksAfter} (u : ℕ) → (u ≡ 0 → ⊥) → (run : TurnsFrom quantum b end) (h : History (world_at u b) (world_at_end u end)) →
    Follows quantum u b end run h → NoneEnters h
none-enters u other run h follows = unentered u other run h follows

history-carried : {w v : World} (h : History w v) → Unbroken h → NoneEnters h → Carried w.machine v.machine
history-carried here u none = (refl, refl)
history-carried {w} (then {u = x} (step reach k e) rest) u none =
    let later = history-carried rest u none in (
      later.0 ∙ mask-kept reach w.memory w.machine x.memory x.machine k e,
      later.1 ∙ waiting_kept reach w.memory w.machine x.memory x.machine k e,
    )
history-carried (then (enters n e kept is) rest) u none = absurd none
history-carried (then (host mask waiting e) rest) u none = absurd u
history-carried (then (others e) rest) u none = absurd u

turn-carried : (quantum : ℕ) (b : Between) (t : ℕ) → (t ≡ 0 → ⊥) → Carried (task_at b.tasks t).machine (turn_of quantum b t).ran.machine
turn-carried quantum b t other =
    let c = turn-counts quantum b t in
    history-carried c.history c.unbroken (subst (λ (lined : Bool). EntersAsItMay lined c.history) (unlined t other) c.lines)

-- And its mask and its requests are carried to the end of the run as they were.
pub requests-carried : {quantum : ℕ} {b : Between} {end : TasksAfter} (u : ℕ) → (u ≡ 0 → ⊥) → u < length b.tasks → TurnsFrom quantum b end →
    Carried (task_at b.tasks u).machine (task_at end.tasks u).machine
requests-carried u other within (spent e) = (refl, refl)
requests-carried u other within (idle some none) = (refl, refl)
requests-carried {quantum} {b} {end} u other within (turn t some is rest) =
    let later = requests-carried u other (omega (arith, as_many b t (turn_of quantum b t))) rest in
    let now = go (eqb u t) refl in
    (later.0 ∙ now.0, later.1 ∙ now.1)
  where
    go : (x : Bool) → eqb u t ≡ x → Carried (task_at b.tasks u).machine (task_at (after_turn b t (turn_of quantum b t)).tasks u).machine
    go true e =
        let same : u ≡ t = eqb-true u t e in
        let own = own-task b u (turn_of quantum b u) within in
        subst (λ (v : ℕ). Carried (task_at b.tasks u).machine (task_at (after_turn b v (turn_of quantum b v)).tasks u).machine) same
        (subst (λ (x : Task). Carried (task_at b.tasks u).machine x.machine) (sym own) (turn-carried quantum b u other))
    go false e =
        subst (λ (x : Task). Carried (task_at b.tasks u).machine x.machine) (sym (other-task b t (turn_of quantum b t) u (eqb-false u t e))) (refl, refl)
