-- A run with the sum of its memory: the run itself where the sum is taken, else refused as a budget above the limit is; and what is
-- the full addition before it is so after it. The same of four tasks.
use Rattle.std.specs.Prelude.{◌≡◌, Bool, List, ℕ, suc, ◌^◌, ◌≤◌, ◌<◌, eqb, length, replicate}
use Rattle.std.proofs.Math.Path.{refl, sym, ap}
use Rattle.std.proofs.Common.{◌∙◌, arith, le-leb, leb-true, leb-false}
use Rattle.std.proofs.Math.Bool.{true, false}
use Rattle.std.proofs.lemmas.Bool.{lt-leb}
use Rattle.std.proofs.Math.Dec.{leb}
use Rattle.plain.specs.Answer.{not_as_asked}
use Rattle.plain.specs.Choice.{pick, both}
use Rattle.machine.specs.Limits.{memory_length, most_budget, most_sum}
use Rattle.machine.specs.State.{well_formed}
use Rattle.machine.specs.Run.{ended, acceptable, run_of}
use Rattle.machine.specs.Tasks.{Task, TasksAfter, RunsTasks, declined, ran}
use Rattle.machine.specs.Sum.{sum_of, sum_after, Summed, run_summed, RunsTasksSummed, sum-declined, sum-taken}
use Rattle.machine.specs.Fits.{AllBytes}
use Rattle.machine.proofs.Laws.Accepted.{taken}
use Rattle.machine.proofs.Laws.Clash.{clash}
use Rattle.machine.proofs.Laws.OnlyTasks.{only-run}
use Rattle.machine.proofs.Laws.Steps.{run-declined}
use Rattle.machine.proofs.Laws.StillBytes.{Still, run-still, tasks-still}
use Rattle.machine.proofs.Laws.Sum.{sum_alike, memory-sum, sum-stays, sum-true}
use Rattle.machine.proofs.Laws.TasksTaken as tasks
use Rattle.machine.specs.declared.Machine.{Machine}

-- the greatest sum is that of a memory whose bytes are all FF
pub most-is-full : sum_of (replicate memory_length 0xFF) ≡ most_sum
most-is-full = sum_alike memory_length 0xFF

-- it is taken, and one more is refused
pub most-taken : (mem : List ℕ) (m : Machine) (budget : ℕ) → (run_summed mem m budget 8355840).after ≡ run_of mem m budget
unfolding run_summed
most-taken mem m budget = refl

pub past-most : (mem : List ℕ) (m : Machine) (budget : ℕ) → (run_summed mem m budget 8355841).after ≡ ended not_as_asked mem m 0 0
unfolding run_summed
past-most mem m budget = refl

-- a budget above the limit is refused
both_false : (a b : Bool) → both a (both false b) ≡ false
both_false true b = refl
both_false false b = refl

not-accepted : (mem : List ℕ) (m : Machine) (budget : ℕ) → most_budget < budget → acceptable mem m budget ≡ false
unfolding acceptable
not-accepted mem m budget h =
    ap (λ (b : Bool). both (eqb (length mem) memory_length) (both b (well_formed m))) (lt-leb budget most_budget h)
    ∙ both_false (eqb (length mem) memory_length) (well_formed m)

pub too_large : (mem : List ℕ) (m : Machine) (budget : ℕ) → most_budget < budget → run_of mem m budget ≡ ended not_as_asked mem m 0 0
too_large mem m budget h = run-declined mem m budget (not-accepted mem m budget h)

-- the budget itself, or one that is refused as the sum is
abbrev pub budget_with : ℕ → ℕ → ℕ
budget_with sum budget = pick (leb sum most_sum) budget (suc most_budget)

module _ (mem : List ℕ) (m : Machine) (budget sum : ℕ) where
  pub with-taken : sum ≤ most_sum → run_summed mem m budget sum ≡ record { after = run_of mem m budget; sum = sum_after sum mem (run_of mem m budget).memory }
  unfolding run_summed
  with-taken h = rw (le-leb sum most_sum h, run_summed)

  pub with-refused : most_sum < sum → run_summed mem m budget sum ≡ record { after = ended not_as_asked mem m 0 0; sum = sum }
  unfolding run_summed
  with-refused h = rw (lt-leb sum most_sum h, run_summed)

  -- a sum of 64 bits is handed back as one
  pub sum_fits : sum < 2 ^ 64 → (run_summed mem m budget sum).sum < 2 ^ 64
  unfolding sum_after
  sum_fits h = go (leb sum most_sum) refl
    where
      go : (b : Bool) → leb sum most_sum ≡ b → (run_summed mem m budget sum).sum < 2 ^ 64
      go true e = let is = ap (λ (s : Summed). s.sum) (with-taken (leb-true sum most_sum e)) in omega (arith, is)
      go false e = let is = ap (λ (s : Summed). s.sum) (with-refused (leb-false sum most_sum e)) in omega (arith, is)

  -- so what holds of every run holds of one with a sum
  pub as-run : (run_summed mem m budget sum).after ≡ run_of mem m (budget_with sum budget)
  unfolding run_summed
  as-run = go (leb sum most_sum)
    where
      go : (b : Bool) →
          (elim b as (λ x. Summed) [
            | true ↦ record { after = run_of mem m budget; sum = sum_after sum mem (run_of mem m budget).memory }
            | false ↦ record { after = ended not_as_asked mem m 0 0; sum = sum }
          ]).after ≡ run_of mem m (pick b budget (suc most_budget))
      go true = refl
      go false = sym (too_large mem m (suc most_budget) (omega arith))

-- where one memory takes the place of another, the full addition of the one becomes that of the other
true-on : (mem after : List ℕ) → length mem ≡ memory_length → Still mem after → sum_after (sum_of mem) mem after ≡ sum_of after
true-on mem after long still =
    let most = memory-sum after still.bytes (still.same_length ∙ long) in
    sum-true mem after (omega arith)

-- a run hands back the full addition where it was given that
true-taken : (mem : List ℕ) (m : Machine) (budget : ℕ) → AllBytes mem → sum_of mem ≤ most_sum →
    sum_after (sum_of mem) mem (run_of mem m budget).memory ≡ sum_of (run_of mem m budget).memory
true-taken mem m budget bytes h = go (acceptable mem m budget) refl
  where
    go : (b : Bool) → acceptable mem m budget ≡ b → sum_after (sum_of mem) mem (run_of mem m budget).memory ≡ sum_of (run_of mem m budget).memory
    go true e = true-on mem (run_of mem m budget).memory (taken mem m budget e).long (run-still mem m budget bytes)
    go false e = rw (run-declined mem m budget e) (sum-stays (sum_of mem) mem (omega arith))

pub true-run : (mem : List ℕ) (m : Machine) (budget sum : ℕ) → AllBytes mem → sum ≡ sum_of mem →
    (run_summed mem m budget sum).sum ≡ sum_of (run_summed mem m budget sum).after.memory
true-run mem m budget sum bytes is = go (leb sum most_sum) refl
  where
    go : (b : Bool) → leb sum most_sum ≡ b → (run_summed mem m budget sum).sum ≡ sum_of (run_summed mem m budget sum).after.memory
    go true e =
        let low = leb-true sum most_sum e in
        rw (with-taken mem m budget sum low)
        (ap (λ (n : ℕ). sum_after n mem (run_of mem m budget).memory) is ∙ true-taken mem m budget bytes (omega arith))
    go false e = rw (with-refused mem m budget sum (leb-false sum most_sum e)) is

module _ {mem : List ℕ} {four : List Task} {quantum budget : ℕ} where
  -- a run of tasks too
  pub true-tasks : {sum : ℕ} {end : TasksAfter} {left : ℕ} → AllBytes mem → sum ≡ sum_of mem → RunsTasksSummed mem four quantum budget sum end left →
      left ≡ sum_of end.memory
  true-tasks bytes is (sum-declined above) = is
  true-tasks {sum} bytes is (sum-taken within (declined bad)) =
      let low = leb-true sum most_sum within in
      sum-stays sum mem (omega arith) ∙ is
  true-tasks {sum} bytes is (sum-taken {end = end} within (ran good turns)) =
      ap (λ (n : ℕ). sum_after n mem end.memory) is
      ∙ true-on mem end.memory (tasks.taken mem four quantum budget good).long (tasks-still bytes (ran good turns))

  -- a sum that is taken leaves the run as it is without one
  pub bare-tasks : {sum : ℕ} {end : TasksAfter} {left : ℕ} → RunsTasksSummed mem four quantum budget sum end left → sum ≤ most_sum → RunsTasks mem four quantum budget end
  bare-tasks {sum} (sum-declined above) low = let high = leb-false sum most_sum above in absurd (omega arith)
  bare-tasks (sum-taken within runs) low = runs

  -- no second end, nor a second sum
  pub only-summed : {sum : ℕ} {x y : TasksAfter} {left other : ℕ} → RunsTasksSummed mem four quantum budget sum x left →
      RunsTasksSummed mem four quantum budget sum y other → (x ≡ y) × (left ≡ other)
  only-summed (sum-declined above) (sum-declined also) = (refl, refl)
  only-summed {sum} (sum-declined above) (sum-taken within runs) = clash (leb sum most_sum) within above
  only-summed {sum} (sum-taken within runs) (sum-declined above) = clash (leb sum most_sum) within above
  only-summed {sum} {x = x} {y} (sum-taken within runs) (sum-taken also too) =
      let same = only-run mem four quantum budget x y runs too in
      (same, ap (λ (end : TasksAfter). sum_after sum mem end.memory) same)
