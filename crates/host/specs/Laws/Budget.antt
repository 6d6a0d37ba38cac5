-- A budget that 32 bits do not hold is refused as every budget above the limit is, whatever the sum.
use Rattle.std.specs.Prelude.{Bool, true, false, List, ◌≡◌, refl, ℕ, suc, ◌<◌, ltb, leb}
use Rattle.std.proofs.Common.{sym, ap, ◌∙◌, arith, ltb-true}
use Rattle.plain.specs.Answer.{not_as_asked}
use Rattle.plain.specs.Choice.{pick}
use Rattle.machine.specs.Limits.{most_budget, most_sum}
use Rattle.machine.specs.Run.{After, ended, run_of}
use Rattle.machine.specs.Sum.{sum_after, Summed, run_summed}
use Rattle.machine.proofs.Laws.Summed.{too_large}
use Rattle.machine.specs.declared.Machine.{Machine}
use Rattle.state.specs.Narrowed.{narrowed_to}

same_after : (mem : List ℕ) (m : Machine) (budget : ℕ) → run_of mem m (narrowed_to most_budget budget) ≡ run_of mem m budget
same_after mem m budget = by-test (ltb most_budget budget) refl
  where
    by-test : (t : Bool) → ltb most_budget budget ≡ t → run_of mem m (pick t (suc most_budget) budget) ≡ run_of mem m budget
    by-test true e =
        let large : most_budget < budget = ltb-true _ _ e in
        too_large mem m (suc most_budget) (omega arith) ∙ sym (too_large mem m budget large)
    by-test false e = refl

pub same-run : (mem : List ℕ) (m : Machine) (budget sum : ℕ) → run_summed mem m (narrowed_to most_budget budget) sum ≡ run_summed mem m budget sum
unfolding run_summed
same-run mem m budget sum = ap (λ (a : After). summed (leb sum most_sum) a) (same_after mem m budget)
  where
    summed : Bool → After → Summed
    summed b a =
        elim b [
          | true ↦ record { after = a; sum = sum_after sum mem a.memory }
          | false ↦ record { after = ended not_as_asked mem m 0 0; sum = sum }
        ]
