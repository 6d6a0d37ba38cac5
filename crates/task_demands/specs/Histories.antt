-- A run of tasks as one task sees it: its own instructions, and the turns of the others.
use Rattle.std.specs.Prelude.{◌≡◌, ℕ, ◌<◌, eqb}
use Rattle.machine.specs.Reach.{task}
use Rattle.machine.specs.Tasks.{task_at, Between, TasksAfter, ended_at, next_ready, of_task, nobodys, turn_of, after_turn, TurnsFrom, spent, idle, turn}
use Rattle.demands.specs.History.{World, world, History, here, then, others, joined, steps_in, cycles_in, Unbroken, Under}
use Rattle.demands.specs.Course.{EntersAsItMay}

-- task u's machine and the one memory
abbrev pub world_at : ℕ → Between → World
world_at u b = world b.memory (task_at b.tasks u).machine

abbrev pub world_at_end : ℕ → TasksAfter → World
world_at_end u end = world end.memory (task_at end.tasks u).machine

-- task u's turn, to v: its instructions alone, under its reach, as many as the turn reports and in as many cycles; lines enter where it
-- is task 0, and not else
pub record TurnHistory (quantum u : ℕ) (b : Between) (v : World) : Type 0 where
  pub history : History (world_at u b) v
  pub unbroken : Unbroken history
  pub under : Under (task u) history
  pub lines : EntersAsItMay (eqb u 0) history
  pub steps : steps_in history ≡ (turn_of quantum b u).ran.steps.0
  pub cycles : cycles_in history ≡ (turn_of quantum b u).ran.cycles.0

-- a history of task u that is these turns: its own as they are, each turn of another as one moment
pub data Follows (quantum u : ℕ) : (b : Between) (end : TasksAfter) → TurnsFrom quantum b end → History (world_at u b) (world_at_end u end) → Type 0 where
  at-spent : {b : Between} (e : b.left ≡ 0) → Follows quantum u b (ended_at 1 b) (spent e) here
  at-idle : {b : Between} (some : 0 < b.left) (none : next_ready b.tasks b.from ≡ nobodys) → Follows quantum u b (ended_at 0 b) (idle some none) here
  own_turn : {b : Between} {end : TasksAfter} (some : 0 < b.left) (is : next_ready b.tasks b.from ≡ of_task u)
      (rest : TurnsFrom quantum (after_turn b u (turn_of quantum b u)) end)
      (now : TurnHistory quantum u b (world_at u (after_turn b u (turn_of quantum b u))))
      (later : History (world_at u (after_turn b u (turn_of quantum b u))) (world_at_end u end)) →
      Follows quantum u (after_turn b u (turn_of quantum b u)) end rest later →
      Follows quantum u b end (turn u some is rest) (joined now.history later)
  others-turn : {b : Between} {end : TasksAfter} (t : ℕ) (some : 0 < b.left) (is : next_ready b.tasks b.from ≡ of_task t)
      (rest : TurnsFrom quantum (after_turn b t (turn_of quantum b t)) end) → (u ≡ t → ⊥) →
      (same : (world_at u (after_turn b t (turn_of quantum b t))).machine ≡ (world_at u b).machine)
      (later : History (world_at u (after_turn b t (turn_of quantum b t))) (world_at_end u end)) →
      Follows quantum u (after_turn b t (turn_of quantum b t)) end rest later →
      Follows quantum u b end (turn t some is rest) (then (others same) later)

-- the history that task u has of a run of tasks
pub record TaskHistory (quantum u : ℕ) {b : Between} {end : TasksAfter} (run : TurnsFrom quantum b end) : Type 0 where
  pub history : History (world_at u b) (world_at_end u end)
  pub follows : Follows quantum u b end run history
