-- What one turn leaves: a good machine and a number that a task can keep, within the turn's length.
use Rattle.std.specs.Prelude.{◌≡◌, Bool, false, List, [], ◌∷◌, T, ltb, eqb, length, set}
use Rattle.std.proofs.Math.Path.{refl}
use Rattle.std.proofs.Common.{sym, ap, subst, ◌∙◌, le_refl, arith, ltb-true, eqb-true}
use Rattle.std.proofs.Math.Bool.{true}
use Prim.Native.Nat.{ℕ, zero, suc, ◌+◌, ◌≤◌, ◌<◌}
use Rattle.plain.specs.Choice.{pick}
use Rattle.plain.specs.All.{All}
use Rattle.plain.specs.Laws.Choice.{both-parts, both_hold, is_true}
use Rattle.machine.specs.State.{well_formed, Whole}
use Rattle.machine.specs.Step.{Stepped, refused, done, step_of}
use Rattle.machine.specs.Lines.{let_in}
use Rattle.machine.specs.Run.{After, manner_of, passes, run_from}
use Rattle.machine.specs.Tasks.{Task, task_at, ready, is_ready, left_by, Between, turn_length, after_turn, can_keep, task_good, all_good, AllWhole}
use Rattle.machine.proofs.Laws.Along.{along}
use Rattle.machine.proofs.Laws.Kept.{Formed, formed, formed-true, Good, step_kept, let-in-good}
use Rattle.machine.proofs.Laws.Onward.{Onward, goes_on, stopped, onward}
use Rattle.machine.proofs.Laws.Refusals.{refused-leaves}
use Rattle.machine.proofs.Laws.Steps.{after_done, after_step, run-step}
use Rattle.machine.specs.declared.Machine.{Machine}
use Rattle.machine.specs.declared.Reach.{Reach}

-- a task that a run takes
pub record GoodTask (task : Task) : Type 0 where
  pub whole : Whole task.machine
  pub formed : Formed task.machine
  pub keeps : T (can_keep task.kept)

pub good-tasks : (tasks : List Task) → T (all_good tasks) → AllWhole tasks → All GoodTask tasks
good-tasks [] t w = tt
good-tasks (x ∷ xs) t w =
    let p = both-parts (task_good x) (all_good xs) t in
    let q = both-parts (well_formed x.machine) (can_keep x.kept) p.0 in (
      record { whole = w.0; formed = formed x.machine (is_true (well_formed x.machine) q.0); keeps = q.1 },
      good-tasks xs p.1 w.1,
    )

pub all-good : (tasks : List Task) → All GoodTask tasks → T (all_good tasks) × AllWhole tasks
all-good [] h = (tt, tt)
all-good (x ∷ xs) h =
    let later = all-good xs h.1 in
    let well = subst T (sym (formed-true x.machine h.0.formed)) tt in (
      both_hold (task_good x) (all_good xs) (both_hold (well_formed x.machine) (can_keep x.kept) well h.0.keeps) later.0,
      (h.0.whole, later.1),
    )

pub turn-within : (quantum left : ℕ) → turn_length quantum left ≤ left
turn-within quantum left = go (ltb quantum left) refl
  where
    go : (b : Bool) → ltb quantum left ≡ b → pick b quantum left ≤ left
    go true e = let below = ltb-true quantum left e in omega arith
    go false e = le_refl left

module _ (reach : Reach) (lined : Bool) (k : ℕ) (mem : List ℕ) (m : Machine) where
  -- a turn of at most k steps
  abbrev turn : After
  turn = run_from reach (manner_of true lined) k mem m 0 0

  ends : Onward reach lined k k 0 0 0 (run_from reach (manner_of false lined) k mem m 0 0) turn
  ends = onward reach lined k k (le_refl k) mem m 0 0 0 0

  pub turn-keeps : T (can_keep turn.ran.answer)
  turn-keeps = go _ turn ends
    where
      go : (run a : After) → Onward reach lined k k 0 0 0 run a → T (can_keep a.ran.answer)
      go run a (goes_on one rest all is) = subst (λ (n : ℕ). T (can_keep n)) (sym one) tt
      go run a (stopped e below is) = (refused-leaves reach a.memory a.ran.machine a.ran.answer e).0

  pub turn-steps : turn.ran.steps.0 ≤ k
  turn-steps = go _ turn ends
    where
      go : (run a : After) → Onward reach lined k k 0 0 0 run a → a.ran.steps.0 ≤ k
      go run a (goes_on one rest all is) = omega arith
      go run a (stopped e below is) = omega arith

  pub turn-good : Whole m → Formed m → Good mem turn.memory turn.ran.machine
  turn-good whole formed =
      along reach (manner_of true lined) (λ now m n c. Good mem now m)
      (λ now m n c mem' m' cost so_far e.
      let g = step_kept reach now m mem' m' cost so_far.whole so_far.formed e in
      record { whole = g.whole; formed = g.formed; same_length = g.same_length ∙ so_far.same_length })
      (λ now m n c so_far.
      let g = let-in-good lined now m so_far.whole so_far.formed in
      record { whole = g.whole; formed = g.formed; same_length = so_far.same_length })
      k mem m 0 0 (record { whole = whole; formed = formed; same_length = refl })

-- a turn that can go on has carried out an instruction
module _ (reach : Reach) (lined : Bool) where
  moved : (k : ℕ) (mem : List ℕ) (m : Machine) (s : Stepped) → step_of reach mem m ≡ s → (a : After) →
      a ≡ after_step reach (manner_of true lined) k mem m 0 0 s → a.ran.answer ≡ ready → 1 ≤ a.ran.steps.0
  moved k mem m (refused number) e a is on =
      absurd ((refused-leaves reach mem m number e).1 (sym (ap (λ (x : After). x.ran.answer) is) ∙ on))
  moved k mem m (done mem' m' cost) e a is on = omega (arith, ap (λ (x : After). x.ran.steps.0) is, go (passes true mem m))
    where
      go : (b : Bool) → 1 ≤ (after_done reach (manner_of true lined) b k mem' m' 1 (0 + cost)).ran.steps.0
      go true = omega arith
      go false = along reach (manner_of true lined) (λ mem m n c. 1 ≤ n) (λ mem m n c mem' m' k now e. omega arith) (λ mem m n c now. now) k mem' m' 1 (0 + cost) (omega arith)

  pub turn-moves : (k : ℕ) (mem : List ℕ) (m : Machine) → 1 ≤ k → (run_from reach (manner_of true lined) k mem m 0 0).ran.answer ≡ ready →
      1 ≤ (run_from reach (manner_of true lined) k mem m 0 0).ran.steps.0
  turn-moves zero mem m some on = absurd (omega arith)
  turn-moves (suc k) mem m some on =
      let here = let_in lined m in
      let turn = run_from reach (manner_of true lined) (suc k) mem m 0 0 in
      moved k mem here (step_of reach mem here) refl turn (run-step reach (manner_of true lined) k mem m 0 0) on

-- how many tasks are ready
abbrev pub one : Bool → ℕ
one true = 1
one false = 0

abbrev pub ready_count : List Task → ℕ
ready_count [] = 0
ready_count (x ∷ xs) = one (is_ready x) + ready_count xs

count_set : (tasks : List Task) (t : ℕ) (x : Task) → t < length tasks →
    ready_count (set tasks t x) + one (is_ready (task_at tasks t)) ≡ ready_count tasks + one (is_ready x)
count_set [] t x within = absurd (omega arith)
count_set (y ∷ ys) zero x within = omega arith
count_set (y ∷ ys) (suc t) x within = omega (arith, count_set ys t x (omega arith))

-- a turn takes something away from the steps that are left or from the tasks that are ready
abbrev pub to_go : Between → ℕ
to_go b = b.left + ready_count b.tasks

pub turn-length : (quantum left : ℕ) → 1 ≤ quantum → 0 < left → 1 ≤ turn_length quantum left
turn-length quantum left some more = go (ltb quantum left)
  where
    go : (b : Bool) → 1 ≤ pick b quantum left
    go true = some
    go false = more

pub less-to-go : (b : Between) (t : ℕ) (a : After) → a.ran.steps.0 ≤ b.left → (a.ran.answer ≡ ready → 1 ≤ a.ran.steps.0) →
    t < length b.tasks → is_ready (task_at b.tasks t) ≡ true → to_go (after_turn b t a) < to_go b
less-to-go b t a short moves within on = go (eqb a.ran.answer ready) refl
  where
    go : (x : Bool) → eqb a.ran.answer ready ≡ x → to_go (after_turn b t a) < to_go b
    go x e =
        let after = ready_count (after_turn b t a).tasks in
        let sum : after + one true ≡ ready_count b.tasks + one x =
        ap (λ (y : Bool). after + one y) (sym on)
        ∙ (count_set b.tasks t (left_by a) within ∙ ap (λ (y : Bool). ready_count b.tasks + one y) e) in
        fewer x e sum
      where
        fewer : (x : Bool) → eqb a.ran.answer ready ≡ x →
            ready_count (after_turn b t a).tasks + one true ≡ ready_count b.tasks + one x → to_go (after_turn b t a) < to_go b
        fewer true e sum =
            let step : 1 ≤ a.ran.steps.0 = moves (eqb-true a.ran.answer ready e) in
            omega arith
        fewer false e sum = omega arith
