-- A state that a run hands back is whole, and where its answer was not 2 the next run accepts it, with its memory and a budget within the limit.
use Rattle.std.specs.Prelude.{◌≡◌, refl, Bool, true, false, List, ℕ, ◌≤◌}
use Rattle.std.proofs.Common.{sym, ◌∙◌, subst}
use Rattle.machine.specs.Limits.{most_budget}
use Rattle.machine.specs.State.{Whole}
use Rattle.machine.specs.Run.{After, run_of, acceptable}
use Rattle.machine.specs.declared.Machine.{Machine}
use Rattle.machine.proofs.Laws.Kept.{steady}
use Rattle.machine.proofs.Laws.Accepted.{taken, accept}
use Rattle.demands.proofs.Laws.Histories.{history-kept, still_formed, same_length}
use Rattle.demands.proofs.Theorems.One.{one}
use Rattle.demands.proofs.Theorems.Two.{declines, counts}

-- what a run hands back is whole, whatever it answers
pub run-kept : (mem : List ℕ) (m : Machine) (budget : ℕ) → Whole m → Whole (run_of mem m budget).ran.machine
run-kept mem m budget whole = go (acceptable mem m budget) refl
  where
    go : (b : Bool) → acceptable mem m budget ≡ b → Whole (run_of mem m budget).ran.machine
    go true e = (history-kept (counts mem m budget e).history whole (steady m (taken mem m budget e).formed)).0
    go false e = subst (λ (a : After). Whole a.ran.machine) (sym (declines mem m budget e)) whole

-- and the next run takes it, whatever its budget within the limit
pub taken-again : (mem : List ℕ) (m : Machine) (budget again : ℕ) → Whole m → ((run_of mem m budget).ran.answer ≡ 2 → ⊥) →
    again ≤ most_budget → acceptable (run_of mem m budget).memory (run_of mem m budget).ran.machine again ≡ true
taken-again mem m budget again whole other within =
    let b = (one mem m budget).as_before other in
    let t = taken mem m budget b.0 in
    accept (run_of mem m budget).memory (run_of mem m budget).ran.machine again
    (record {
      long = same_length b.1.history b.1.unbroken ∙ t.long;
      budget-within = within;
      formed = still_formed b.1.history b.1.unbroken whole t.formed;
    })
