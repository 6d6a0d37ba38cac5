-- Who has turns, and who waits for one.
use Rattle.std.specs.Prelude.{◌≡◌, true, List, [], ◌∷◌, ◌++◌, ℕ, suc, ◌+◌, ◌-◌, ◌%◌, ◌≤◌, eqb, length}
use Rattle.plain.specs.All.{All}
use Rattle.plain.specs.Choice.{pick}
use Rattle.machine.specs.Limits.{tasks_count}
use Rattle.machine.specs.Tasks.{Task, task_at, is_ready, following, in_order, Between, TasksAfter, TurnsFrom, spent, idle, turn}

abbrev pub ready_among : List Task → List ℕ → List ℕ
ready_among tasks [] = []
ready_among tasks (t ∷ ts) = pick (is_ready (task_at tasks t)) (t ∷ ready_among tasks ts) (ready_among tasks ts)

-- how many tasks are asked before u, from t on
abbrev pub distance : ℕ → ℕ → ℕ
distance t u = (u + tasks_count - t) % tasks_count

-- the ready tasks that are asked before u
abbrev pub ready_before : ℕ → Between → List ℕ
ready_before u b = ready_among b.tasks (in_order (distance b.from u) b.from)

-- how many of the other three are ready
abbrev pub others_ready : ℕ → List Task → ℕ
others_ready u tasks = length (ready_among tasks (in_order 3 (following u)))

-- the tasks that have turns, one after another
abbrev pub turns_in : {quantum : ℕ} {b : Between} {end : TasksAfter} → TurnsFrom quantum b end → List ℕ
turns_in (spent e) = []
turns_in (idle some none) = []
turns_in (turn t some is rest) = t ∷ turns_in rest

-- how often a task stands in a list
abbrev pub times : ℕ → List ℕ → ℕ
times u [] = 0
times u (t ∷ ts) = pick (eqb t u) (suc (times u ts)) (times u ts)

-- how u waits for its turn: these tasks have one each, in this order, and then u has its own; or the budget is spent before
pub data Waits (u : ℕ) (before turns : List ℕ) (end : TasksAfter) : Type 0 where
  served : (later : List ℕ) → turns ≡ before ++ (u ∷ later) → Waits u before turns end
  cut_short : (missing : List ℕ) → before ≡ turns ++ missing → end.answer ≡ 1 → Waits u before turns end

-- from b on u waits for the ready tasks that are asked before it. They are ready when the wait begins, each of them comes once, u is
-- not among them, and they are no more than the other ready tasks
pub record WaitsFairly (u : ℕ) (b : Between) (turns : List ℕ) (end : TasksAfter) : Type 0 where
  pub waits : Waits u (ready_before u b) turns end
  pub all-ready : All (λ (t : ℕ). is_ready (task_at b.tasks t) ≡ true) (ready_before u b)
  pub once-each : (t : ℕ) → times t (ready_before u b) ≤ 1
  pub not_itself : times u (ready_before u b) ≡ 0
  pub at-most-others : length (ready_before u b) ≤ others_ready u b.tasks
