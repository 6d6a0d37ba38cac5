-- The promise to a host that hands a machine in, from what the parts ensure.
use mathlib.Core.List.{List}
use mathlib.Core.Path.{◌≡◌, sym, subst, ◌∙◌}
use Prim.Native.Nat.{ℕ}
use native.Mathlib.Omega.{arith}
use lib.ListN.{length}
use Rattle.plain.specs.Answer.{Answer, refuses, gives, not_as_asked}
use Rattle.machine.specs.Sum.{Summed, run_summed}
use Rattle.machine.specs.declared.Machine.{Machine}
use Rattle.state.specs.Layout as layout
use Rattle.state.specs.Lent.{Lent}
use Rattle.state.specs.Promise.{Takes, wrong-length, spelled, Gives, wrong_size, filled}
use Rattle.host.specs.Handed.{Hands, handed_back}
use Rattle.host.specs.Handed as handed
use Rattle.host.specs.Laws.Budget.{same-run}
use Rattle.state.specs.Narrowed.{narrowed_to}
use Rattle.machine.specs.Limits.{most_budget}

module _ (state memory : List ℕ) (budget sum : ℕ) (result : List ℕ) where
  abbrev nothing-touched : Lent
  nothing-touched = record { number = 2; state = state; memory = memory; result = result }

  pub other_result : (length result ≡ (layout.result).width → ⊥) → Hands state memory budget sum result nothing-touched
  other_result h = handed.wrong-length (λ both. h both.1)

  pub other-state : (m : Machine) (number : ℕ) (a : Answer (Unit {0})) → Takes state a m → a ≡ refuses number
      → Hands state memory budget sum result (record { number = number; state = state; memory = memory; result = result })
  other-state m number a (wrong-length h) e =
      let same : not_as_asked ≡ number = cc in
      subst (λ (n : ℕ). Hands state memory budget sum result (record { number = n; state = state; memory = memory; result = result })) same
      (handed.wrong-length (λ both. h both.0))
  other-state m number a (spelled _ long fits is) e = absurd (let z : ◌≡◌ {A = ℕ} 0 1 = cc in omega arith)

  pub handed-back : (a b c : Answer (Unit {0})) (m : Machine) (left : Summed) (given counts : List ℕ) → Takes state a m → a ≡ gives tt
      → length result ≡ (layout.result).width → left ≡ run_summed memory m (narrowed_to most_budget budget) sum → Gives layout.state left.after.ran.machine state b given
      → Gives layout.result (record { answer = left.after.ran.answer; steps = left.after.ran.steps; cycles = left.after.ran.cycles; sum = left.sum }) result c counts
      → Hands state memory budget sum result (record { number = 0; state = given; memory = left.after.memory; result = counts })
  handed-back a b c m left given counts (wrong-length h) good long ran gave counted = absurd (let z : ◌≡◌ {A = ℕ} 0 1 = cc in omega arith)
  handed-back a b c m left given counts (spelled _ all fits is) good long ran (wrong_size h) counted = absurd (h all)
  handed-back a b c m left given counts (spelled _ all fits is) good long ran (filled also carried) (wrong_size h) = absurd (h long)
  handed-back a b c m left given counts (spelled _ all fits is) good long ran (filled also carried) (filled same counted) =
      let as-run : left ≡ run_summed memory m budget sum = ran ∙ same-run memory m budget sum in
      subst (λ (x : Summed). Hands state memory budget sum result (handed_back x)) (sym as-run)
      (handed.run m all long fits is (subst (λ (x : Summed). (layout.state).Fits x.after.ran.machine) as-run carried))
