-- A run that starts with counts is the run that starts with none, with the counts added.
use Rattle.std.specs.Prelude.{◌≡◌, Bool, true, false, List}
use Rattle.std.proofs.Common.{sym, ap, ◌∙◌, arith}
use Prim.Native.Nat.{ℕ, zero, suc, ◌+◌, ◌<◌}
use Rattle.machine.specs.Step.{Stepped, refused, done, step_of}
use Rattle.machine.specs.Lines.{let_in}
use Rattle.machine.specs.Run.{Manner, ended, passes, run_from}
use Rattle.machine.specs.Added.{added}
use Rattle.machine.proofs.Laws.Entered.{entry_free}
use Rattle.machine.proofs.Laws.Steps.{after_done, after_step, run-spent, run-step}
use Rattle.machine.specs.declared.Machine.{Machine}
use Rattle.machine.specs.declared.Reach.{Reach}

same-counts : (answer : ℕ) (mem : List ℕ) (m : Machine) (n n' c c' : ℕ) → n ≡ n' → c ≡ c' →
    ended answer mem m n c ≡ ended answer mem m n' c'
same-counts answer mem m n n' c c' p q = ap (λ (x : ℕ). ended answer mem m x c) p ∙ ap (λ (x : ℕ). ended answer mem m n' x) q

module _ (reach : Reach) (manner : Manner) where
  added-after : (b : Bool) (left n c cost : ℕ) (mem : List ℕ) (m : Machine) →
      ((n' c' : ℕ) → run_from reach manner left mem m n' c' ≡ added n' c' (run_from reach manner left mem m 0 0)) →
      after_done reach manner b left mem m (suc n) (c + cost) ≡
      added n c (after_done reach manner b left mem m 1 (0 + cost))
  added-after true left n c cost mem m more = same-counts 1 mem m (suc n) (n + 1) (c + cost) (c + (0 + cost)) (omega arith) (omega arith)
  added-after false left n c cost mem m more =
      let x = run_from reach manner left mem m 0 0 in
      more (suc n) (c + cost) ∙
      (same-counts x.ran.answer x.memory x.ran.machine
      (suc n + x.ran.steps.0) (n + (1 + x.ran.steps.0)) (c + cost + x.ran.cycles.0) (c + (0 + cost + x.ran.cycles.0))
      (omega arith) (omega arith) ∙
      sym (ap (added n c) (more 1 (0 + cost))))

  added-step : (s : Stepped) (left n c : ℕ) (mem : List ℕ) (m : Machine) →
      ((mem' : List ℕ) (m' : Machine) (n' c' : ℕ) → run_from reach manner left mem' m' n' c' ≡ added n' c' (run_from reach manner left mem' m' 0 0)) →
      after_step reach manner left mem m n c s ≡ added n c (after_step reach manner left mem m 0 0 s)
  added-step (refused number) left n c mem m more = same-counts number mem m n (n + 0) c (c + 0) (omega arith) (omega arith)
  added-step (done mem' m' cost) left n c mem m more = added-after (passes manner.in_turns mem m) left n c cost mem' m' (more mem' m')

  pub counted-on : (left : ℕ) (mem : List ℕ) (m : Machine) (n c : ℕ) →
      run_from reach manner left mem m n c ≡ added n c (run_from reach manner left mem m 0 0)
  counted-on zero mem m n c =
      run-spent reach manner mem m n c ∙
      (same-counts 1 mem m n (n + 0) c (c + 0) (omega arith) (omega arith) ∙
      sym (ap (added n c) (run-spent reach manner mem m 0 0)))
  counted-on (suc left) mem m n c =
      let here = let_in manner.lined m in
      run-step reach manner left mem m n c ∙
      (added-step (step_of reach mem here) left n c mem here (counted-on left) ∙
      sym (ap (added n c) (run-step reach manner left mem m 0 0)))

  -- and so is one that starts with counts of its own
  pub counted-later : (left : ℕ) (mem : List ℕ) (m : Machine) (n c x y : ℕ) →
      run_from reach manner left mem m (n + x) (c + y) ≡ added n c (run_from reach manner left mem m x y)
  counted-later left mem m n c x y =
      let run = run_from reach manner left mem m 0 0 in
      counted-on left mem m (n + x) (c + y) ∙
      (same-counts run.ran.answer run.memory run.ran.machine (n + x + run.ran.steps.0) (n + (x + run.ran.steps.0))
      (c + y + run.ran.cycles.0) (c + (y + run.ran.cycles.0)) (omega arith) (omega arith) ∙
      sym (ap (added n c) (counted-on left mem m x y)))

  -- the line that can enter does so before the first instruction, whether at once or before the run
  pub entered-before : (left : ℕ) (mem : List ℕ) (m : Machine) (n c : ℕ) → 0 < left →
      run_from reach manner left mem (let_in manner.lined m) n c ≡ run_from reach manner left mem m n c
  entered-before zero mem m n c some = absurd (omega arith)
  entered-before (suc left) mem m n c some = sym (entry_free reach manner left mem m n c)
