-- Where the run's loop stands: what is left of the run from here is what the whole run is.
use Rattle.std.specs.Prelude.{◌≡◌, Bool, true, false, List, ℕ, suc, ◌+◌, ◌-◌, ◌*◌, ◌≤◌, ◌<◌, leb, eqb, length}
use Rattle.std.proofs.Math.Path.{ap, sym}
use Rattle.std.proofs.Common.{◌∙◌, subst}
use native.Mathlib.Omega.{arith}
use Rattle.std.proofs.Math.Dec.{T, leb→le, eqb→eq}
use Rattle.plain.specs.Choice.{pick, both}
use Rattle.plain.specs.Laws.Choice.{both-parts, is_true}
use Rattle.machine.specs.Limits.{memory_length, most_budget}
use Rattle.machine.specs.State.{well_formed, Whole}
use Rattle.machine.specs.Fetch.{instruction_at}
use Rattle.machine.specs.Step.{Stepped, refused, done, step_of}
use Rattle.machine.specs.Lines.{let_in}
use Rattle.machine.specs.Run.{ended, passes, acceptable}
use Rattle.machine.proofs.Laws.Costs.{cost-bounded}
use Rattle.machine.proofs.Laws.Kept.{Formed, formed, step_kept}
use Rattle.machine.proofs.Laws.Passed.{step-done}
use Rattle.machine.proofs.Laws.Steps.{after_step, run-spent, run-step}
use Rattle.machine.specs.declared.Machine.{Machine}
use Rattle.machine.specs.declared.Reach.{Reach}
use Rattle.run_words.specs.Calm.{lines_enter, manner_in, run_in}

pub record Here (reach : Reach) (in_turns : Bool) (mem₀ : List ℕ) (m₀ : Machine) (budget : ℕ) (mem : List ℕ) (m : Machine) (n c : ℕ) : Type 0 where
  pub same : run_in reach in_turns budget mem₀ m₀ 0 0 ≡ run_in reach in_turns (budget - n) mem m n c
  pub within : n ≤ budget
  pub priced : c ≤ 42 * n
  pub limit : budget ≤ most_budget
  pub long₀ : length mem₀ ≡ memory_length
  pub long : length mem ≡ memory_length
  pub whole : Whole m
  pub formed : Formed m

module _ (reach : Reach) (in_turns : Bool) (mem₀ : List ℕ) (m₀ : Machine) (budget : ℕ) where
  -- it starts
  pub starts : acceptable mem₀ m₀ budget ≡ true → Whole m₀ → Here reach in_turns mem₀ m₀ budget mem₀ m₀ 0 0
  unfolding acceptable
  starts e whole =
      let t = both-parts (eqb (length mem₀) memory_length) (both (leb budget most_budget) (well_formed m₀)) (subst T (sym e) tt) in
      let u = both-parts (leb budget most_budget) (well_formed m₀) t.1 in
      let long = eqb→eq (length mem₀) memory_length t.0 in
      record {
        same = ap (λ (left : ℕ). run_in reach in_turns left mem₀ m₀ 0 0) (omega arith);
        within = omega arith;
        priced = omega arith;
        limit = leb→le budget most_budget u.0;
        long₀ = long;
        long = long;
        whole = whole;
        formed = formed m₀ (is_true (well_formed m₀) u.1);
      }

  -- what the next step makes of a run with budget left, where no line enters before it
  run_step : (left : ℕ) (mem : List ℕ) (m : Machine) (n c : ℕ) → let_in (lines_enter reach) m ≡ m → (s : Stepped) → step_of reach mem m ≡ s →
      run_in reach in_turns (suc left) mem m n c ≡ after_step reach (manner_in reach in_turns) left mem m n c s
  run_step left mem m n c still s e =
      let manner = manner_in reach in_turns in
      run-step reach manner left mem m n c ∙
      (ap (λ (x : Machine). after_step reach manner left mem x n c (step_of reach mem x)) still ∙
      ap (after_step reach manner left mem m n c) e)

  -- a step that is carried out and passes no turn
  pub advances : (mem : List ℕ) (m : Machine) (n c : ℕ) (mem' : List ℕ) (m' : Machine) (cost n' c' : ℕ) →
      Here reach in_turns mem₀ m₀ budget mem m n c → let_in (lines_enter reach) m ≡ m → n < budget → step_of reach mem m ≡ done mem' m' cost → passes in_turns mem m ≡ false →
      n' ≡ n + 1 → c' ≡ c + cost → Here reach in_turns mem₀ m₀ budget mem' m' n' c'
  advances mem m n c mem' m' cost n' c' h still less e on en ec =
      let good = step_kept reach mem m mem' m' cost h.whole h.formed e in
      let d = step-done reach mem m mem' m' cost e in
      let paid = cost-bounded (instruction_at reach mem m.counter) m in
      let left : budget - n ≡ suc (budget - n') = omega arith in
      let count : suc n ≡ n' = omega arith in
      let k = d.cost in
      record {
        same =
            h.same ∙
            (ap (λ (x : ℕ). run_in reach in_turns x mem m n c) left ∙
            (run_step (budget - n') mem m n c still (done mem' m' cost) e ∙
            (ap (λ (b : Bool). pick b (ended 1 mem' m' (suc n) (c + cost)) (run_in reach in_turns (budget - n') mem' m' (suc n) (c + cost))) on ∙
            (ap (λ (x : ℕ). run_in reach in_turns (budget - n') mem' m' x (c + cost)) count ∙
            ap (λ (x : ℕ). run_in reach in_turns (budget - n') mem' m' n' x) (sym ec)))));
        within = omega arith;
        priced = omega (arith, k, paid);
        limit = h.limit;
        long₀ = h.long₀;
        long = good.same_length ∙ h.long;
        whole = good.whole;
        formed = good.formed;
      }

  -- a step that passes the turn ends the run behind it
  pub pauses : (mem : List ℕ) (m : Machine) (n c : ℕ) (mem' : List ℕ) (m' : Machine) (cost n' c' : ℕ) →
      Here reach in_turns mem₀ m₀ budget mem m n c → let_in (lines_enter reach) m ≡ m → n < budget → step_of reach mem m ≡ done mem' m' cost → passes in_turns mem m ≡ true →
      n' ≡ n + 1 → c' ≡ c + cost → ended 1 mem' m' n' c' ≡ run_in reach in_turns budget mem₀ m₀ 0 0
  pauses mem m n c mem' m' cost n' c' h still less e over en ec =
      let left : budget - n ≡ suc (budget - n') = omega arith in
      let count : suc n ≡ n' = omega arith in
      sym
      (h.same ∙
      (ap (λ (x : ℕ). run_in reach in_turns x mem m n c) left ∙
      (run_step (budget - n') mem m n c still (done mem' m' cost) e ∙
      (ap (λ (b : Bool). pick b (ended 1 mem' m' (suc n) (c + cost)) (run_in reach in_turns (budget - n') mem' m' (suc n) (c + cost))) over ∙
      (ap (λ (x : ℕ). ended 1 mem' m' x (c + cost)) count ∙ ap (λ (x : ℕ). ended 1 mem' m' n' x) (sym ec))))))

  -- a refusal ends the run where it stands
  pub stops : (mem : List ℕ) (m : Machine) (n c number : ℕ) → Here reach in_turns mem₀ m₀ budget mem m n c → let_in (lines_enter reach) m ≡ m → n < budget →
      step_of reach mem m ≡ refused number → ended number mem m n c ≡ run_in reach in_turns budget mem₀ m₀ 0 0
  stops mem m n c number h still less e =
      let left : budget - n ≡ suc (budget - n - 1) = omega arith in
      sym
      (h.same ∙ (ap (λ (x : ℕ). run_in reach in_turns x mem m n c) left ∙ run_step (budget - n - 1) mem m n c still (refused number) e))

  -- a spent budget ends the run
  pub spends : (mem : List ℕ) (m : Machine) (n c : ℕ) → Here reach in_turns mem₀ m₀ budget mem m n c → budget ≤ n →
      ended 1 mem m n c ≡ run_in reach in_turns budget mem₀ m₀ 0 0
  spends mem m n c h over =
      let left : budget - n ≡ 0 = omega arith in
      sym
      (h.same ∙
      (ap (λ (x : ℕ). run_in reach in_turns x mem m n c) left ∙ run-spent reach (manner_in reach in_turns) mem m n c))
