-- The promise to a host that hands four tasks in, from what the parts ensure.
use Rattle.std.specs.Prelude.{Result, Ok, Err, IsOk}
use mathlib.Core.List.{List}
use mathlib.Core.Path.{◌≡◌, refl, subst}
use Prim.Native.Nat.{ℕ}
use lib.ListN.{length}
use Rattle.plain.specs.Answer.{Answer, refuses, gives, not_as_asked}
use Rattle.machine.specs.Limits.{most_budget, most_quantum}
use Rattle.machine.specs.Sum.{RunsTasksSummed}
use Rattle.machine.specs.Tasks.{TasksAfter, tasks_in}
use Rattle.machine.proofs.Laws.Clash.{never}
use Rattle.machine.specs.declared.Tasks.{Tasks}
use Rattle.machine.specs.Refusals.{number_of, says}
use Rattle.machine.specs.declared.refusal.Refusal.{Refusal}
use Rattle.state.specs.Parts.{Part}
use Rattle.state.specs.Layout as layout
use Rattle.state.specs.Lent.{Lent}
use Rattle.state.specs.Promise.{TakesTasks, not-four, spelled-tasks, Gives, wrong_size, filled}
use Rattle.tasks.specs.Handed.{HandsTasks}
use Rattle.tasks.specs.Handed as handed
use Rattle.tasks.specs.Laws.Narrowed.{same-run}
use Rattle.state.specs.Narrowed.{narrowed_to}

-- a buffer of the right length is filled
pub is_given : {A : Type 0} (part : Part A) (x : A) (before after : List ℕ) (r : Result (Unit {0}) Refusal) → length before ≡ part.width
    → Gives part x before (says r) after → IsOk r
is_given part x before after (Ok tt) long g = refl
is_given part x before after (Err why) long g = absurd (go (says (Err why)) after refl g)
  where
    go : (a : Answer (Unit {0})) (end : List ℕ) → a ≡ refuses (number_of why) → Gives part x before a end → ⊥
    go a end e (wrong_size h) = h long
    go a end e (filled also fit) = cc

-- what is taken is as long as four tasks
pub tasks-long : (bytes : List ℕ) (t : Tasks) → TakesTasks bytes (gives tt) t → length bytes ≡ (layout.tasks).width
tasks-long bytes t (spelled-tasks _ long four fit is) = long

module _ (tasks memory : List ℕ) (quantum budget sum : ℕ) (result : List ℕ) where
  abbrev nothing-touched : Lent
  nothing-touched = record { number = 2; state = tasks; memory = memory; result = result }

  pub other_result : (length result ≡ (layout.result).width → ⊥) → HandsTasks tasks memory quantum budget sum result nothing-touched
  other_result h = handed.wrong-length (λ both. h both.1)

  pub other-tasks : (four : Tasks) (number : ℕ) (a : Answer (Unit {0})) → TakesTasks tasks a four → a ≡ refuses number
      → HandsTasks tasks memory quantum budget sum result (record { number = number; state = tasks; memory = memory; result = result })
  other-tasks four number a (not-four h) e =
      let same : not_as_asked ≡ number = cc in
      subst (λ (n : ℕ). HandsTasks tasks memory quantum budget sum result (record { number = n; state = tasks; memory = memory; result = result })) same
      (handed.wrong-length (λ both. h both.0))
  other-tasks four number a (spelled-tasks _ long each fits is) e = never (cc)

  pub handed-back : (a b c : Answer (Unit {0})) (four : Tasks) (end : TasksAfter) (left : ℕ) (given counts : List ℕ) → TakesTasks tasks a four → a ≡ gives tt
      → length result ≡ (layout.result).width → RunsTasksSummed memory (tasks_in four) (narrowed_to most_quantum quantum) (narrowed_to most_budget budget) sum end left
      → Gives layout.tasks end.tasks tasks b given
      → Gives layout.result (record { answer = end.answer; steps = record { 0 = end.steps }; cycles = record { 0 = end.cycles }; sum = left }) result c counts
      → HandsTasks tasks memory quantum budget sum result (record { number = 0; state = given; memory = end.memory; result = counts })
  handed-back a b c four end left given counts (not-four h) good long ran gave counted = never (cc)
  handed-back a b c four end left given counts (spelled-tasks _ all each fits is) good long ran (wrong_size h) counted = absurd (h all)
  handed-back a b c four end left given counts (spelled-tasks _ all each fits is) good long ran (filled also carried) (wrong_size h) = absurd (h long)
  handed-back a b c four end left given counts (spelled-tasks _ all each fits is) good long ran (filled also carried) (filled same counted) =
      handed.run (tasks_in four) end left all long fits is (same-run memory (tasks_in four) quantum budget ran) carried
