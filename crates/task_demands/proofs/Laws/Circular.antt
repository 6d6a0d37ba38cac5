-- The next ready task in circular order.
use Rattle.std.specs.Prelude.{◌≡◌, refl, Bool, true, false, List, ℕ, zero, suc, ◌+◌, ◌%◌, ◌<◌}
use Rattle.std.proofs.Math.Path.{ap}
use Rattle.std.proofs.Common.{◌∙◌, arith}
use Rattle.plain.specs.Choice.{pick}
use Rattle.machine.specs.Limits.{tasks_count}
use Rattle.machine.specs.Tasks.{Task, task_at, is_ready, nobodys, of_task, first_ready, following, in_order, next_ready}
use Rattle.machine.proofs.Laws.Clash.{never}
use Rattle.task_demands.specs.Fairness.{distance}

-- u is so many tasks after t
pub at-distance : (t u : ℕ) → t < tasks_count → u < tasks_count → u ≡ (t + distance t u) % tasks_count
at-distance t u ht hu = omega arith

module _ (tasks : List Task) where
  -- where the next is nobody's turn, none of the tasks in order is ready
  none-ready-in : (n d t : ℕ) → d < n → t < tasks_count → first_ready tasks (in_order n t) ≡ nobodys →
      is_ready (task_at tasks ((t + d) % tasks_count)) ≡ false
  none-ready-in zero d t below within e = absurd (omega arith)
  none-ready-in (suc n) d t below within e =
      go (is_ready (task_at tasks t)) refl e d below (λ d' below'. none-ready-in n d' (following t) below' (omega arith))
    where
      go : (b : Bool) → is_ready (task_at tasks t) ≡ b → pick b (of_task t) (first_ready tasks (in_order n (following t))) ≡ nobodys → (d : ℕ) → d < suc n →
          ((d : ℕ) → d < n → first_ready tasks (in_order n (following t)) ≡ nobodys → is_ready (task_at tasks ((following t + d) % tasks_count)) ≡ false) →
          is_ready (task_at tasks ((t + d) % tasks_count)) ≡ false
      go true is e d below later = never (cc)
      go false is e zero below later =
          let same : (t + 0) % tasks_count ≡ t = omega arith in
          ap (λ (x : ℕ). is_ready (task_at tasks x)) same ∙ is
      go false is e (suc d) below later =
          let same : (t + suc d) % tasks_count ≡ (following t + d) % tasks_count = omega arith in
          ap (λ (x : ℕ). is_ready (task_at tasks x)) same ∙ later d (omega arith) e

  pub none-ready : (t u : ℕ) → t < tasks_count → u < tasks_count → next_ready tasks t ≡ nobodys → is_ready (task_at tasks u) ≡ false
  unfolding next_ready
  none-ready t u ht hu e =
      ap (λ (x : ℕ). is_ready (task_at tasks x)) (at-distance t u ht hu) ∙ none-ready-in 4 (distance t u) t (omega arith) ht e
