-- The tasks that are asked before one that waits.
use Rattle.std.specs.Prelude.{◌≡◌, refl, Bool, true, false, List, [], ◌∷◌, ◌++◌, ℕ, zero, suc, ◌+◌, ◌-◌, ◌%◌, ◌≤◌, ◌<◌, eqb, length, set}
use Rattle.std.proofs.Math.Path.{sym, ap}
use Rattle.std.proofs.Common.{◌∙◌, subst, eqb-true, ne_eqb, get_or-set_other}
use native.Mathlib.Omega.{arith}
use Rattle.plain.specs.Choice.{pick}
use Rattle.plain.specs.All.{All}
use Rattle.machine.specs.Limits.{tasks_count}
use Rattle.machine.specs.Tasks.{Task, task_at, is_ready, of_task, first_ready, following, next_ready, in_order, no_task}
use Rattle.task_demands.specs.Fairness.{ready_among, times}

-- tasks in order: none of them is w, where w is no further than that
pub differ : (n t w : ℕ) → t < tasks_count → ((j : ℕ) → j < n → (t + j) % tasks_count ≡ w → ⊥) → All (λ (v : ℕ). v ≡ w → ⊥) (in_order n t)
differ zero t w within far = tt
differ (suc n) t w within far = (
  λ (e : t ≡ w). far 0 (omega arith) (omega arith),
  differ n (following t) w (omega arith) (λ j h e. far (suc j) (omega arith) (omega arith)),
)

-- so many in order, then more after them
in-order-parts : (m n t : ℕ) → t < tasks_count → in_order (m + n) t ≡ in_order m t ++ in_order n ((t + m) % tasks_count)
in-order-parts zero n t within =
    let count : zero + n ≡ n = omega arith in
    let here : t ≡ (t + zero) % tasks_count = omega arith in
    ap (λ (k : ℕ). in_order k t) count ∙ ap (in_order n) here
in-order-parts (suc m) n t within =
    let count : suc m + n ≡ suc (m + n) = omega arith in
    let there : (following t + m) % tasks_count ≡ (t + suc m) % tasks_count = omega arith in
    ap (λ (k : ℕ). in_order k t) count
    ∙ ap (λ (l : List ℕ). t ∷ l) (in-order-parts m n (following t) (omega arith) ∙ ap (λ (k : ℕ). in_order m (following t) ++ in_order n k) there)

absent : (u : ℕ) (ts : List ℕ) → All (λ (v : ℕ). v ≡ u → ⊥) ts → times u ts ≡ 0
absent u [] differ = refl
absent u (t ∷ ts) differ = rw (ne_eqb t u differ.0) (absent u ts differ.1)

-- in circular order none comes twice
once : (n t u : ℕ) → n ≤ tasks_count → t < tasks_count → times u (in_order n t) ≤ 1
once zero t u short within = omega arith
once (suc n) t u short within = go (eqb t u) refl (once n (following t) u (omega arith) (omega arith))
  where
    go : (b : Bool) → eqb t u ≡ b → times u (in_order n (following t)) ≤ 1 → pick b (suc (times u (in_order n (following t)))) (times u (in_order n (following t))) ≤ 1
    go true e later =
        let same : t ≡ u = eqb-true t u e in
        let none : times u (in_order n (following t)) ≡ 0 =
        absent u (in_order n (following t)) (differ n (following t) u (omega arith) (λ j h e. omega arith)) in
        omega arith
    go false e later = later

module _ (tasks : List Task) where
  -- the task that is asked first has the turn where it is ready
  pub first-asked : (t : ℕ) → is_ready (task_at tasks t) ≡ true → next_ready tasks t ≡ of_task t
  unfolding next_ready
  first-asked t e = ap (λ (b : Bool). pick b (of_task t) (first_ready tasks (in_order 3 (following t)))) e

  last_off : (x : ℕ) → is_ready (task_at tasks x) ≡ false → (ts : List ℕ) → first_ready tasks (ts ++ (x ∷ [])) ≡ first_ready tasks ts
  last_off x off [] = ap (λ (b : Bool). pick b (of_task x) (first_ready tasks [])) off
  last_off x off (t ∷ ts) = ap (pick (is_ready (task_at tasks t)) (of_task t)) (last_off x off ts)

  -- where it is not, the next is asked first
  pub skipped : (t : ℕ) → t < tasks_count → is_ready (task_at tasks t) ≡ false → next_ready tasks (following t) ≡ next_ready tasks t
  unfolding next_ready
  skipped t within off =
      let others = in_order 3 (following t) in
      let round : following (following (following (following t))) ≡ t = omega arith in
      ap (λ (x : ℕ). first_ready tasks (others ++ (x ∷ []))) round
      ∙ (last_off t off others ∙ sym (ap (λ (b : Bool). pick b (of_task t) (first_ready tasks others)) off))

  -- a turn of w changes nothing about the others
  pub ready-kept : (w : ℕ) (x : Task) (ts : List ℕ) → All (λ (v : ℕ). v ≡ w → ⊥) ts → ready_among (set tasks w x) ts ≡ ready_among tasks ts
  ready-kept w x [] differ = refl
  ready-kept w x (t ∷ ts) differ =
      ap (λ (y : Task). pick (is_ready y) (t ∷ ready_among (set tasks w x) ts) (ready_among (set tasks w x) ts))
      (get_or-set_other tasks w t x no_task differ.0)
      ∙ ap (λ (l : List ℕ). pick (is_ready (task_at tasks t)) (t ∷ l) l) (ready-kept w x ts differ.1)

  -- those among a list are ready, no more often there than in the list, and no fewer among more
  pub all-ready : (ts : List ℕ) → All (λ (t : ℕ). is_ready (task_at tasks t) ≡ true) (ready_among tasks ts)
  all-ready [] = tt
  all-ready (t ∷ ts) = go (is_ready (task_at tasks t)) refl (all-ready ts)
    where
      go : (b : Bool) → is_ready (task_at tasks t) ≡ b → All (λ (t : ℕ). is_ready (task_at tasks t) ≡ true) (ready_among tasks ts) →
          All (λ (t : ℕ). is_ready (task_at tasks t) ≡ true) (pick b (t ∷ ready_among tasks ts) (ready_among tasks ts))
      go true is later = (is, later)
      go false is later = later

  times-ready : (u : ℕ) (ts : List ℕ) → times u (ready_among tasks ts) ≤ times u ts
  times-ready u [] = omega arith
  times-ready u (t ∷ ts) = go (is_ready (task_at tasks t)) (times-ready u ts)
    where
      more : (c : Bool) (i j : ℕ) → i ≤ j → pick c (suc i) i ≤ pick c (suc j) j
      more true i j h = omega arith
      more false i j h = h

      skip : (c : Bool) (i j : ℕ) → i ≤ j → i ≤ pick c (suc j) j
      skip true i j h = omega arith
      skip false i j h = h

      go : (b : Bool) → times u (ready_among tasks ts) ≤ times u ts →
          times u (pick b (t ∷ ready_among tasks ts) (ready_among tasks ts)) ≤ pick (eqb t u) (suc (times u ts)) (times u ts)
      go true later = more (eqb t u) (times u (ready_among tasks ts)) (times u ts) later
      go false later = skip (eqb t u) (times u (ready_among tasks ts)) (times u ts) later

  pub fewer-ready : (ms ns : List ℕ) → length (ready_among tasks ns) ≤ length (ready_among tasks (ms ++ ns))
  fewer-ready [] ns = omega arith
  fewer-ready (t ∷ ms) ns = go (is_ready (task_at tasks t)) (fewer-ready ms ns)
    where
      go : (b : Bool) → length (ready_among tasks ns) ≤ length (ready_among tasks (ms ++ ns)) →
          length (ready_among tasks ns) ≤ length (pick b (t ∷ ready_among tasks (ms ++ ns)) (ready_among tasks (ms ++ ns)))
      go true later = omega arith
      go false later = later

  pub ready-absent : (u : ℕ) (ts : List ℕ) → All (λ (v : ℕ). v ≡ u → ⊥) ts → times u (ready_among tasks ts) ≡ 0
  ready-absent u ts differ =
      let few : times u (ready_among tasks ts) ≤ times u ts = times-ready u ts in
      let none : times u ts ≡ 0 = absent u ts differ in
      omega arith

  pub ready-once : (n t u : ℕ) → n ≤ tasks_count → t < tasks_count → times u (ready_among tasks (in_order n t)) ≤ 1
  ready-once n t u short within =
      let few : times u (ready_among tasks (in_order n t)) ≤ times u (in_order n t) = times-ready u (in_order n t) in
      omega (arith, once n t u short within)

  -- those before u are among the other three
  pub ready-others : (d t u : ℕ) → d < tasks_count → t < tasks_count → u ≡ (t + d) % tasks_count →
      length (ready_among tasks (in_order d t)) ≤ length (ready_among tasks (in_order 3 (following u)))
  ready-others d t u below within at =
      let count : 3 ≡ 3 - d + d = omega arith in
      let there : (following u + (3 - d)) % tasks_count ≡ t = omega arith in
      let parts : in_order 3 (following u) ≡ in_order (3 - d) (following u) ++ in_order d t =
      ap (λ (k : ℕ). in_order k (following u)) count
      ∙ (in-order-parts (3 - d) d (following u) (omega arith) ∙ ap (λ (k : ℕ). in_order (3 - d) (following u) ++ in_order d k) there) in
      subst (λ (l : List ℕ). length (ready_among tasks (in_order d t)) ≤ length (ready_among tasks l)) (sym parts)
      (fewer-ready (in_order (3 - d) (following u)) (in_order d t))
