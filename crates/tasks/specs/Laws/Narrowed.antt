-- A quantum or a budget that 32 bits do not hold is refused as every one above its limit is, whatever the sum.
use Rattle.std.specs.Prelude.{Bool, true, false, List, ◌≡◌, refl, ℕ}
use Rattle.std.proofs.Common.{ap, subst, ◌∙◌}
use Rattle.machine.specs.Limits.{most_budget, most_quantum}
use Rattle.machine.specs.Tasks.{Task, TasksAfter, tasks_acceptable, RunsTasks, declined, ran}
use Rattle.machine.specs.Sum.{RunsTasksSummed, sum-declined, sum-taken}
use Rattle.machine.proofs.Laws.Clash.{clash}
use Rattle.machine.proofs.Laws.TasksTaken.{taken}
use Rattle.state.specs.Narrowed.{narrowed_to, within_same, narrowed-same}

module _ (mem : List ℕ) (tasks : List Task) (quantum budget : ℕ) where
  abbrev q : ℕ
  q = narrowed_to most_quantum quantum

  abbrev b : ℕ
  b = narrowed_to most_budget budget

  same-verdict : tasks_acceptable mem tasks q b ≡ false → tasks_acceptable mem tasks quantum budget ≡ false
  same-verdict bad = go (tasks_acceptable mem tasks quantum budget) refl
    where
      go : (x : Bool) → tasks_acceptable mem tasks quantum budget ≡ x → tasks_acceptable mem tasks quantum budget ≡ false
      go true e =
          let t = taken mem tasks quantum budget e in
          let eq = within_same most_quantum quantum t.most in
          let eb = within_same most_budget budget t.limit in
          clash (tasks_acceptable mem tasks q b) (ap (λ (n : ℕ). tasks_acceptable mem tasks n b) eq ∙ (ap (tasks_acceptable mem tasks quantum) eb ∙ e)) bad
      go false e = e

  same_end : {end : TasksAfter} → RunsTasks mem tasks q b end → RunsTasks mem tasks quantum budget end
  same_end (declined bad) = declined (same-verdict bad)
  same_end {end} (ran ok turns) =
      let t = taken mem tasks q b ok in
      subst (λ (n : ℕ). RunsTasks mem tasks quantum n end) (narrowed-same most_budget budget t.limit)
      (subst (λ (n : ℕ). RunsTasks mem tasks n b end) (narrowed-same most_quantum quantum t.most) (ran ok turns))

  pub same-run : {sum : ℕ} {end : TasksAfter} {left : ℕ} → RunsTasksSummed mem tasks q b sum end left → RunsTasksSummed mem tasks quantum budget sum end left
  same-run (sum-declined above) = sum-declined above
  same-run (sum-taken within runs) = sum-taken within (same_end runs)
