-- Where a task threw: each task notes its own throws, and another task's leaves them alone.
use Rattle.std.specs.Prelude.{◌≡◌, ℕ}
use Rattle.machine.specs.Tasks.{task_at, Between, TasksAfter, TurnsFrom}
use Rattle.demands.specs.History.{History}
use Rattle.demands.specs.Thrown.{last_throw}
use Rattle.demands.proofs.Theorems.Thrown.{last-noted}
use Rattle.task_demands.specs.Histories.{world_at, world_at_end, Follows}

-- After any turns a task's machine notes the last THROW of non-zero in the task's own history of them, in which a turn of another is one
-- moment that throws nothing; or what it noted before where there was none.
pub own-noted : {quantum : ℕ} {b : Between} {end : TasksAfter} (u : ℕ) (run : TurnsFrom quantum b end) (h : History (world_at u b) (world_at_end u end)) →
    Follows quantum u b end run h → (task_at end.tasks u).machine.thrown ≡ last_throw h (task_at b.tasks u).machine.thrown
own-noted u run h follows = last-noted h
