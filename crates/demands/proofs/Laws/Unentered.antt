-- A run in which no line may enter is the run without the unit, step for step.
use Rattle.std.specs.Prelude.{◌≡◌, Bool, false, List}
use Rattle.std.proofs.Math.Path.{refl, sym, ap}
use Rattle.std.proofs.Common.{◌∙◌}
use Rattle.std.proofs.Math.Bool.{true}
use Prim.Native.Nat.{ℕ, zero, suc, ◌+◌}
use Rattle.machine.specs.Lines.{Line, none, lowest_due, after_line, let_in}
use Rattle.machine.specs.Step.{Stepped, refused, done, step_of}
use Rattle.machine.specs.Run.{After, ended, manner_of, passes, run_from}
use Rattle.machine.proofs.Laws.Entered.{none-while-quiet}
use Rattle.machine.proofs.Laws.Releases.{lines_after, due-kept}
use Rattle.machine.proofs.Laws.Steps.{after_done, run-spent, run-step}
use Rattle.machine.specs.declared.Machine.{Machine}
use Rattle.machine.specs.declared.Reach.{Reach}
use Rattle.demands.specs.Lines.{Onward, NoneCouldEnter}

module _ (reach : Reach) (in_turns : Bool) where
  -- what follows a step, with the unit or without, where the step passes the turn and where it does not
  abbrev going_on : Bool → Bool → ℕ → List ℕ → Machine → ℕ → ℕ → Stepped → After
  going_on lined passed left mem m n c (refused number) = ended number mem m n c
  going_on lined passed left mem m n c (done mem' m' cost) =
      after_done reach (manner_of in_turns lined) passed left mem' m' (suc n) (c + cost)

  abbrev Same : ℕ → Type 0
  Same left = (mem : List ℕ) (m : Machine) (n c : ℕ) → NoneCouldEnter reach in_turns left mem m →
      run_from reach (manner_of in_turns true) left mem m n c ≡ run_from reach (manner_of in_turns false) left mem m n c

  same-onward : (left : ℕ) → Same left → (passed : Bool) (mem : List ℕ) (m : Machine) (n c : ℕ) (s : Stepped) →
      Onward passed (NoneCouldEnter reach in_turns left) s → going_on true passed left mem m n c s ≡ going_on false passed left mem m n c s
  same-onward left later passed mem m n c (refused number) none-could = refl
  same-onward left later true mem m n c (done mem' m' cost) none-could = refl
  same-onward left later false mem m n c (done mem' m' cost) none-could = later mem' m' (suc n) (c + cost) none-could

  pub without-entries : (left : ℕ) → Same left
  unfolding let_in
  without-entries zero mem m n c none-could =
      run-spent reach (manner_of in_turns true) mem m n c ∙ sym (run-spent reach (manner_of in_turns false) mem m n c)
  without-entries (suc left) mem m n c (now, later) =
      let first : Machine → After = λ here. going_on true (passes in_turns mem here) left mem here n c (step_of reach mem here) in
      run-step reach (manner_of in_turns true) left mem m n c ∙
      (ap (λ (x : Line). first (after_line x m)) now ∙
      (same-onward left (without-entries left) (passes in_turns mem m) mem m n c (step_of reach mem m) later ∙
      sym (run-step reach (manner_of in_turns false) left mem m n c)))

  abbrev Quiet : ℕ → Type 0
  Quiet left = (mem : List ℕ) (m : Machine) → lowest_due m.lines ≡ none → NoneCouldEnter reach in_turns left mem m

  quiet-onward : (left : ℕ) → Quiet left → (passed : Bool) (mem : List ℕ) (m : Machine) → lowest_due m.lines ≡ none → (s : Stepped) →
      step_of reach mem m ≡ s → Onward passed (NoneCouldEnter reach in_turns left) s
  quiet-onward left later passed mem m quiet (refused number) e = tt
  quiet-onward left later true mem m quiet (done mem' m' cost) e = tt
  quiet-onward left later false mem m quiet (done mem' m' cost) e =
      later mem' m' (due-kept m.lines (lines_after reach mem m mem' m' cost e) ∙ quiet)

  -- where no line is due at its start, none could enter in all of a run
  none-could : (left : ℕ) → Quiet left
  none-could zero mem m quiet = tt
  none-could (suc left) mem m quiet =
      (none-while-quiet m quiet, quiet-onward left (none-could left) (passes in_turns mem m) mem m quiet (step_of reach mem m) refl)

  pub without-lines : (left : ℕ) (mem : List ℕ) (m : Machine) (n c : ℕ) → lowest_due m.lines ≡ none →
      run_from reach (manner_of in_turns true) left mem m n c ≡ run_from reach (manner_of in_turns false) left mem m n c
  without-lines left mem m n c quiet = without-entries left mem m n c (none-could left mem m quiet)
