-- The next ready task in circular order.
use Rattle.std.specs.Prelude.{◌≡◌, refl, Bool, true, false, List, [], ◌∷◌, ℕ, ◌<◌}
use Rattle.std.proofs.Common.{subst}
use native.Mathlib.Omega.{arith}
use Rattle.plain.specs.Choice.{pick}
use Rattle.plain.specs.All.{All}
use Rattle.machine.specs.Limits.{tasks_count}
use Rattle.machine.specs.Tasks.{Task, task_at, is_ready, of_task, first_ready, in_order, next_ready}
use Rattle.machine.proofs.Laws.Clash.{never}

module _ (tasks : List Task) where
  -- the first that is ready is ready, and what all candidates have in common is its own
  pub first-ready : (P : ℕ → Type 0) (ts : List ℕ) → All P ts → (w : ℕ) → first_ready tasks ts ≡ of_task w → (is_ready (task_at tasks w) ≡ true) × P w
  first-ready P [] all w e = never (cc)
  first-ready P (t ∷ ts) all w e = go (is_ready (task_at tasks t)) refl e (first-ready P ts all.1 w)
    where
      go : (b : Bool) → is_ready (task_at tasks t) ≡ b → pick b (of_task t) (first_ready tasks ts) ≡ of_task w →
          (first_ready tasks ts ≡ of_task w → (is_ready (task_at tasks w) ≡ true) × P w) → (is_ready (task_at tasks w) ≡ true) × P w
      go true is e later =
          let same : t ≡ w = cc in
          subst (λ (x : ℕ). (is_ready (task_at tasks x) ≡ true) × P x) same (is, all.0)
      go false is e later = later e

  pub next-ready : (t w : ℕ) → t < tasks_count → next_ready tasks t ≡ of_task w → (is_ready (task_at tasks w) ≡ true) × (w < tasks_count)
  unfolding next_ready
  next-ready t w within e =
      first-ready (λ x. x < tasks_count) (in_order 4 t) (within, (omega arith, (omega arith, (omega arith, tt)))) w e
