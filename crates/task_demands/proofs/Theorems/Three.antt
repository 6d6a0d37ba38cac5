-- Demand 3 for each task, under every order of turns.
use Rattle.std.specs.Prelude.{◌⊎◌, ◌≡◌, refl, Bool, true, false, ℕ, ◌<◌, eqb, length}
use Rattle.std.proofs.Common.{sym, ap, subst, arith, eqb-true}
use Rattle.std.proofs.lemmas.Bool.{eqb-false}
use Rattle.machine.specs.Tasks.{Task, task_at, Between, TasksAfter, turn_of, after_turn, TurnsFrom, spent, idle, turn}
use Rattle.demands.specs.History.{World, world, History, here, then, others, joined, Resets, Accepted}
use Rattle.demands.specs.Back.{Loses, through, Back}
use Rattle.demands.proofs.Theorems.Two.{turn-counts}
use Rattle.demands.proofs.Theorems.Three.{three}
use Rattle.task_demands.specs.Histories.{world_at, world_at_end, TurnHistory, Follows, at-spent, at-idle, own_turn, others-turn, TaskHistory}
use Rattle.machine.proofs.Laws.After.{as_many, own-task, other-task}

-- a turn is a history of its task
turn-history : (quantum : ℕ) (b : Between) (u : ℕ) → u < length b.tasks →
    TurnHistory quantum u b (world_at u (after_turn b u (turn_of quantum b u)))
turn-history quantum b u within =
    let a = turn_of quantum b u in
    let c = turn-counts quantum b u in
    subst (λ (x : Task). TurnHistory quantum u b (world a.memory x.machine)) (sym (own-task b u a within))
    (record { history = c.history; unbroken = c.unbroken; under = c.under; lines = c.lines; steps = omega (arith, c.steps); cycles = omega (arith, c.cycles) })

-- any turns are a history of each task
pub task-history : {quantum : ℕ} {b : Between} {end : TasksAfter} (u : ℕ) → u < length b.tasks → (run : TurnsFrom quantum b end) → TaskHistory quantum u run
task-history u within (spent e) = record { history = here; follows = at-spent e }
task-history u within (idle some none) = record { history = here; follows = at-idle some none }
task-history {quantum} {b} {end} u within (turn t some is rest) =
    go (eqb t u) refl (λ v (inside : v < length b.tasks). task-history v (omega (arith, as_many b t (turn_of quantum b t))) rest)
  where
    go : (x : Bool) → eqb t u ≡ x → ((v : ℕ) → v < length b.tasks → TaskHistory quantum v rest) → TaskHistory quantum u (turn t some is rest)
    go true e later =
        let same : t ≡ u = eqb-true t u e in
        let inside : t < length b.tasks = omega arith in
        let now = turn-history quantum b t inside in
        let then-on = later t inside in
        subst (λ (v : ℕ). TaskHistory quantum v (turn t some is rest)) same
        (record {
          history = joined now.history then-on.history;
          follows = own_turn some is rest now then-on.history then-on.follows;
        })
    go false e later =
        let other : u ≡ t → ⊥ = λ (same : u ≡ t). eqb-false t u e (sym same) in
        let same = ap (λ (x : Task). x.machine) (other-task b t (turn_of quantum b t) u other) in
        let then-on = later u within in
        record {
          history = then (others same) then-on.history;
          follows = others-turn t some is rest other same then-on.history then-on.follows;
        }

-- Where the history of a task's turns and the others' loses what a CATCH pushed, in the same turn or in a later one, that was a
-- RESETSP, or the machine is back.
pub three-by-turns : {quantum : ℕ} {b : Between} {end : TasksAfter} {o w v z : World} (u : ℕ) (run : TurnsFrom quantum b end) →
    Accepted (task_at b.tasks u).machine → (l : Loses (world_at u b) o w v z) (after : History z (world_at_end u end)) →
    Follows quantum u b end run (through l after) → Resets l.last ⊎ Back o v z
three-by-turns u run accepted l after follows = three accepted l
