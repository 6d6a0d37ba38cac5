-- How a run begins. The other laws rewrite by these lemmas, and none of them unfolds a run: where a run is defined
-- otherwise, the check says so here at once, and not after comparing long terms in each law.
use Rattle.std.specs.Prelude.{◌≡◌, Bool, true, false, List}
use Rattle.std.proofs.Math.Path.{refl}
use Prim.Native.Nat.{ℕ, zero, suc, ◌+◌}
use Rattle.std.proofs.Common.{sym, ap, ◌∙◌}
use Rattle.plain.specs.Answer.{not_as_asked}
use Rattle.plain.specs.Choice.{pick}
use Rattle.machine.specs.Reach.{alone}
use Rattle.machine.specs.Step.{Stepped, refused, done, step_of}
use Rattle.machine.specs.Lines.{let_in}
use Rattle.machine.specs.Run.{After, Manner, by_itself, ended, passes, run_from, acceptable, run_of}
use Rattle.machine.specs.declared.Machine.{Machine}
use Rattle.machine.specs.declared.Reach.{Reach}

module _ (reach : Reach) (manner : Manner) where
  -- what a completed instruction leads to: the turn's end, or the rest of the run
  abbrev pub after_done : Bool → ℕ → List ℕ → Machine → ℕ → ℕ → After
  after_done b left mem m n c = pick b (ended 1 mem m n c) (run_from reach manner left mem m n c)

  -- what an instruction leads to, which is refused or carried out at this machine
  abbrev pub after_step : ℕ → List ℕ → Machine → ℕ → ℕ → Stepped → After
  after_step left mem m n c (refused number) = ended number mem m n c
  after_step left mem m n c (done mem' m' cost) =
      after_done (passes manner.in_turns mem m) left mem' m' (suc n) (c + cost)

  -- a spent budget ends the run
  pub run-spent : (mem : List ℕ) (m : Machine) (n c : ℕ) → run_from reach manner zero mem m n c ≡ ended 1 mem m n c
  unfolding run_from
  run-spent mem m n c = refl

  -- A refused instruction ends the run where it stands, with nothing counted for it; an entry before it stays. This
  -- case and the next stand by themselves, so that what the check compares is small.
  pub run-refused : (left : ℕ) (mem : List ℕ) (m : Machine) (n c number : ℕ) →
      step_of reach mem (let_in manner.lined m) ≡ refused number →
      run_from reach manner (suc left) mem m n c ≡ ended number mem (let_in manner.lined m) n c
  unfolding run_from
  run-refused left mem m n c number e = rw (e, run_from) refl

  -- a completed instruction is one step, at its cycles
  pub run-done : (left : ℕ) (mem : List ℕ) (m : Machine) (n c : ℕ) (mem' : List ℕ) (m' : Machine) (cost : ℕ) →
      step_of reach mem (let_in manner.lined m) ≡ done mem' m' cost →
      run_from reach manner (suc left) mem m n c ≡
      after_done (passes manner.in_turns mem (let_in manner.lined m)) left mem' m' (suc n) (c + cost)
  unfolding run_from
  run-done left mem m n c mem' m' cost e = rw (e, run_from) refl

  -- the line that can enter does so, and the run is what the first instruction leads to
  pub run-step : (left : ℕ) (mem : List ℕ) (m : Machine) (n c : ℕ) →
      run_from reach manner (suc left) mem m n c ≡
      after_step left mem (let_in manner.lined m) n c (step_of reach mem (let_in manner.lined m))
  run-step left mem m n c = go (step_of reach mem here) refl
    where
      here : Machine
      here = let_in manner.lined m

      go : (s : Stepped) → step_of reach mem here ≡ s →
          run_from reach manner (suc left) mem m n c ≡ after_step left mem here n c (step_of reach mem here)
      go (refused number) e =
          run-refused left mem m n c number e ∙ sym (ap (after_step left mem here n c) e)
      go (done mem' m' cost) e =
          run-done left mem m n c mem' m' cost e ∙ sym (ap (after_step left mem here n c) e)

-- a run of one machine, where its input is taken and where it is declined
module _ (mem : List ℕ) (m : Machine) (budget : ℕ) where
  pub run-taken : acceptable mem m budget ≡ true → run_of mem m budget ≡ run_from alone by_itself budget mem m 0 0
  unfolding run_of
  run-taken e = rw (e, run_of) refl

  pub run-declined : acceptable mem m budget ≡ false → run_of mem m budget ≡ ended not_as_asked mem m 0 0
  unfolding run_of
  run-declined e = rw (e, run_of) refl
