-- The tasks after a turn.
use Rattle.std.specs.Prelude.{◌≡◌, ℕ, ◌<◌, length}
use Rattle.std.proofs.Common.{length-set, get_or-set_same, get_or-set_other}
use Rattle.machine.specs.Run.{After}
use Rattle.machine.specs.Tasks.{no_task, task_at, left_by, Between, after_turn}

module _ (b : Between) (t : ℕ) (a : After) where
  pub as_many : length (after_turn b t a).tasks ≡ length b.tasks
  as_many = length-set b.tasks t (left_by a)

  pub own-task : t < length b.tasks → task_at (after_turn b t a).tasks t ≡ left_by a
  own-task within = get_or-set_same b.tasks t (left_by a) no_task within

  pub other-task : (u : ℕ) → (u ≡ t → ⊥) → task_at (after_turn b t a).tasks u ≡ task_at b.tasks u
  other-task u other = get_or-set_other b.tasks t u (left_by a) no_task other
