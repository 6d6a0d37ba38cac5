-- A run without turns, after its first instructions in a turn, is the run from there on; or the turn has ended it.
use Rattle.std.specs.Prelude.{◌≡◌, Bool, true, false, List}
use Rattle.std.proofs.Math.Path.{refl}
use Rattle.std.proofs.Common.{ap, ◌∙◌, arith}
use Prim.Native.Nat.{ℕ, zero, suc, ◌+◌, ◌≤◌, ◌<◌}
use Rattle.machine.specs.Step.{Stepped, refused, done, step_of}
use Rattle.machine.specs.Lines.{let_in}
use Rattle.machine.specs.Run.{After, ended, manner_of, passes, run_from}
use Rattle.machine.proofs.Laws.Steps.{after_done, after_step, run-spent, run-step}
use Rattle.machine.specs.declared.Machine.{Machine}
use Rattle.machine.specs.declared.Reach.{Reach}

-- both with lines or both without
module _ (reach : Reach) (lined : Bool) where
  -- the run from what a turn leaves, with n steps and c cycles counted before the turn
  abbrev pub run_on : ℕ → ℕ → ℕ → After → After
  run_on left n c a = run_from reach (manner_of false lined) left a.memory a.ran.machine (n + a.ran.steps.0) (c + a.ran.cycles.0)

  -- how a turn of at most k steps ended, x of its steps counted before; the run has so many instructions left, and is the same as what follows
  pub data Onward (k left n c x : ℕ) (run a : After) : Type 0 where
    -- it can go on
    goes_on : a.ran.answer ≡ 1 → (rest : ℕ) → left + x ≡ rest + a.ran.steps.0 → run ≡ run_on rest n c a → Onward k left n c x run a
    -- the instruction that the counter is on is refused
    stopped : step_of reach a.memory a.ran.machine ≡ refused a.ran.answer → a.ran.steps.0 < k + x →
        run ≡ ended a.ran.answer a.memory a.ran.machine (n + a.ran.steps.0) (c + a.ran.cycles.0) → Onward k left n c x run a

  -- one step less
  deeper : (k left n c x : ℕ) (run other a : After) → run ≡ other → Onward k left n c (suc x) other a → Onward (suc k) (suc left) n c x run a
  deeper k left n c x run other a same (goes_on one rest all is) = goes_on one rest (omega arith) (same ∙ is)
  deeper k left n c x run other a same (stopped e below is) = stopped e (omega arith) (same ∙ is)

  abbrev OnwardFrom : ℕ → ℕ → Type 0
  OnwardFrom k left = (mem : List ℕ) (m : Machine) (x y n c : ℕ) →
      Onward k left n c x (run_from reach (manner_of false lined) left mem m (n + x) (c + y)) (run_from reach (manner_of true lined) k mem m x y)

  counts : (left : ℕ) (mem : List ℕ) (m : Machine) (n n' c c' : ℕ) → n ≡ n' → c ≡ c' → run_from reach (manner_of false lined) left mem m n c ≡ run_from reach (manner_of false lined) left mem m n' c'
  counts left mem m n n' c c' p q = ap (λ (i : ℕ). run_from reach (manner_of false lined) left mem m i c) p ∙ ap (λ (i : ℕ). run_from reach (manner_of false lined) left mem m n' i) q

  step-onward : (k left : ℕ) → OnwardFrom k left → (mem : List ℕ) (m : Machine) (x y n c : ℕ) (s : Stepped) → step_of reach mem m ≡ s →
      Onward (suc k) (suc left) n c x
      (after_step reach (manner_of false lined) left mem m (n + x) (c + y) s)
      (after_step reach (manner_of true lined) k mem m x y s)
  step-onward k left later mem m x y n c (refused number) e = stopped e (omega arith) refl
  step-onward k left later mem m x y n c (done mem' m' cost) e = go (passes true mem m)
    where
      same : run_from reach (manner_of false lined) left mem' m' (suc (n + x)) (c + y + cost) ≡ run_from reach (manner_of false lined) left mem' m' (n + suc x) (c + (y + cost))
      same = counts left mem' m' (suc (n + x)) (n + suc x) (c + y + cost) (c + (y + cost)) (omega arith) (omega arith)

      go : (b : Bool) →
          Onward (suc k) (suc left) n c x (run_from reach (manner_of false lined) left mem' m' (suc (n + x)) (c + y + cost))
          (after_done reach (manner_of true lined) b k mem' m' (suc x) (y + cost))
      go true = goes_on refl left (omega arith) same
      go false = deeper k left n c x _ _ _ same (later mem' m' (suc x) (y + cost) n c)

  pub onward : (k left : ℕ) → k ≤ left → OnwardFrom k left
  onward zero left within mem m x y n c =
      rw (run-spent reach (manner_of true lined) mem m x y) (goes_on refl left refl refl)
  onward (suc k) zero within mem m x y n c = absurd (omega arith)
  onward (suc k) (suc left) within mem m x y n c =
      let here = let_in lined m in
      rw (
        run-step reach (manner_of false lined) left mem m (n + x) (c + y),
        run-step reach (manner_of true lined) k mem m x y,
      )
      (step-onward k left (onward k left (omega arith)) mem here x y n c (step_of reach mem here) refl)
