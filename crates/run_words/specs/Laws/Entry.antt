-- The door: a memory, state, budget or sum that is not as asked is answered 2, anything else is run.
use Rattle.std.specs.Prelude.{◌≡◌, refl, Bool, true, false, List, ℕ, ◌≤◌, ◌<◌, leb, T, length}
use Rattle.std.proofs.Math.Path.{ap, sym, subst⁻¹}
use Rattle.std.proofs.Common.{◌∙◌, subst, arith, leb→le}
use borrow.Author.Tests.{eq-eqb, ne_eqb, le-leb, lt-leb, leb-false}
use Rattle.plain.specs.Choice.{both}
use Rattle.plain.specs.Laws.Choice.{both-parts, is_true}
use Rattle.links.specs.Depths.{cells_depth}
use Rattle.links.specs.Fresh.{fresh_links}
use Rattle.links.specs.Linked.{linked}
use Rattle.machine.specs.Limits.{memory_length, most_budget, most_quantum, most_sum, tasks_count}
use Rattle.machine.specs.Reach.{alone}
use Rattle.machine.specs.State.{well_formed}
use Rattle.machine.specs.Run.{After, by_itself, after_of, run_from, run_of, acceptable}
use Rattle.machine.specs.Sum.{sum_after, summed_of, run_summed, RunsTasksSummed, sum-declined, sum-taken}
use Rattle.machine.specs.Tasks.{all_good, tasks_acceptable, TasksAfter, RunsTasks, declined, tasks_in, tasks_after_of}
use Rattle.machine.specs.declared.Machine.{Machine}
use Rattle.machine.specs.declared.Ran.{Ran}
use Rattle.machine.specs.declared.Tasks.{Tasks}
use Rattle.machine.specs.declared.RanTasks.{RanTasks}
use Rattle.run_words.specs.Machines.{ran_of}
use Rattle.run_words.specs.Clocks.{ran_tasks_of}
use Rattle.machine.specs.State.{fresh_with}
use Rattle.machine.proofs.Laws.Pairs.{paired-length}
use Rattle.machine.proofs.Laws.Steps as begin
use Rattle.machine.proofs.Laws.Sum.{sum-stays}

module _ (mem : List ℕ) (m : Machine) (budget : ℕ) where
  pub wrong-length : (length mem ≡ memory_length → ⊥) → acceptable mem m budget ≡ false
  unfolding acceptable
  wrong-length h = rw (ne_eqb (length mem) memory_length h)

  pub wrong-budget : length mem ≡ memory_length → most_budget < budget → acceptable mem m budget ≡ false
  unfolding acceptable
  wrong-budget h g = rw (eq-eqb (length mem) memory_length h, lt-leb budget most_budget g)

  pub judged : length mem ≡ memory_length → budget ≤ most_budget → (b : Bool) → b ≡ well_formed m → (verdict : Bool) → b ≡ verdict →
      acceptable mem m budget ≡ verdict
  unfolding acceptable
  judged h g b e verdict v = rw (eq-eqb (length mem) memory_length h, le-leb budget most_budget g) (sym e ∙ v)

  -- answer 2 alters nothing
  pub run-declined : acceptable mem m budget ≡ false → (ran : Ran) → ran ≡ ran_of 2 (record { 0 = 0 }) (record { 0 = 0 }) m →
      after_of mem ran ≡ run_of mem m budget
  run-declined bad ran e = ap (after_of mem) e ∙ sym (begin.run-declined mem m budget bad)

  pub taken : acceptable mem m budget ≡ true → (after : After) → after ≡ run_from alone by_itself budget mem m 0 0 → after ≡ run_of mem m budget
  taken good after e = e ∙ sym (begin.run-taken mem m budget good)

  -- the same with the memory sum beside it: a sum that is too great, one that a refusal hands back, and one that a run moves
  module _ (sum : ℕ) where
    pub sum-above : most_sum < sum → (ran : Ran) → ran ≡ ran_of 2 (record { 0 = 0 }) (record { 0 = 0 }) m → summed_of (after_of mem ran) sum ≡ run_summed mem m budget sum
    unfolding run_summed
    sum-above above ran e = rw (lt-leb sum most_sum above, run_summed) (ap (λ (r : Ran). summed_of (after_of mem r) sum) e)

    pub sum_moved : sum ≤ most_sum → (after : After) → after ≡ run_of mem m budget → {left : ℕ} → left ≡ sum_after sum mem after.memory →
        summed_of after left ≡ run_summed mem m budget sum
    unfolding run_summed
    sum_moved low after e el =
        rw (le-leb sum most_sum low, run_summed)
        (ap (summed_of after) (el ∙ ap (λ (a : After). sum_after sum mem a.memory) e) ∙ ap (λ (a : After). summed_of a (sum_after sum mem (run_of mem m budget).memory)) e)

    pub sum_kept : (ran : Ran) → ran ≡ ran_of 2 (record { 0 = 0 }) (record { 0 = 0 }) m → acceptable mem m budget ≡ false →
        summed_of (after_of mem ran) sum ≡ run_summed mem m budget sum
    sum_kept ran e bad = by-test (leb sum most_sum) refl
      where
        by-test : (t : Bool) → leb sum most_sum ≡ t → summed_of (after_of mem ran) sum ≡ run_summed mem m budget sum
        by-test true low =
            let within : sum ≤ most_sum = leb→le sum most_sum (subst T (sym low) tt) in
            sum_moved within (after_of mem ran) (run-declined bad ran e) (sym (sum-stays sum mem (omega (arith, within))))
        by-test false above = sum-above (leb-false sum most_sum above) ran e

-- a machine that is fresh but for its parameter cells is well formed where they are within their depth
module _ (cells : List ℕ) (p : ℕ) where
  pub fresh-formed : p ≤ cells_depth → true ≡ well_formed (fresh_with cells p)
  unfolding well_formed linked fresh_links
  fresh-formed h = rw (le-leb p cells_depth h)

  pub fresh-too-deep : cells_depth < p → false ≡ well_formed (fresh_with cells p)
  unfolding well_formed
  fresh-too-deep h = rw (lt-leb p cells_depth h)

-- a quantum is tested at both ends
module _ (quantum : ℕ) where
  pub quantum-good : 1 ≤ quantum → quantum ≤ most_quantum → true ≡ both (leb 1 quantum) (leb quantum most_quantum)
  quantum-good low high = rw (le-leb 1 quantum low, le-leb quantum most_quantum high)

  pub quantum-none : quantum < 1 → false ≡ both (leb 1 quantum) (leb quantum most_quantum)
  quantum-none h = rw (lt-leb 1 quantum h)

  pub quantum-long : most_quantum < quantum → false ≡ both (leb 1 quantum) (leb quantum most_quantum)
  quantum-long h = let some : 1 ≤ quantum = omega arith in rw (le-leb 1 quantum some, lt-leb quantum most_quantum h)

-- the same for four tasks
module _ (mem : List ℕ) (tasks : Tasks) (quantum budget : ℕ) where
  abbrev Acceptable : Bool → Type 0
  Acceptable b = tasks_acceptable mem (tasks_in tasks) quantum budget ≡ b

  pub tasks-wrong-length : (length mem ≡ memory_length → ⊥) → Acceptable false
  unfolding tasks_acceptable
  tasks-wrong-length h = rw (ne_eqb (length mem) memory_length h)

  module _ (h : length mem ≡ memory_length) where
    pub tasks-wrong-budget : most_budget < budget → Acceptable false
    unfolding tasks_acceptable
    tasks-wrong-budget g = rw (eq-eqb (length mem) memory_length h, lt-leb budget most_budget g)

    module _ (g : budget ≤ most_budget) {q : Bool} (eq : q ≡ both (leb 1 quantum) (leb quantum most_quantum)) where
      pub tasks-wrong-quantum : q ≡ false → Acceptable false
      unfolding tasks_acceptable
      tasks-wrong-quantum v = rw (eq-eqb (length mem) memory_length h, le-leb budget most_budget g, sym eq ∙ v)

      pub tasks-judged : length tasks.machines ≡ tasks_count → length tasks.kept ≡ tasks_count → q ≡ true → {b : Bool} → b ≡ all_good (tasks_in tasks) →
          {verdict : Bool} → b ≡ verdict → Acceptable verdict
      unfolding tasks_acceptable
      tasks-judged fm fk v eb e =
          rw (
            eq-eqb (length mem) memory_length h,
            le-leb budget most_budget g,
            sym eq ∙ v,
            eq-eqb (length (tasks_in tasks)) tasks_count (paired-length tasks.machines tasks.kept fm fk),
          ) (sym eb ∙ e)

  -- the sum is tested beside the rest
  module _ (sum : ℕ) where
    abbrev Summed : TasksAfter → ℕ → Type 0
    Summed end left = RunsTasksSummed mem (tasks_in tasks) quantum budget sum end left

    pub sums-parted : both (leb sum most_sum) (tasks_acceptable mem (tasks_in tasks) quantum budget) ≡ true →
        ((leb sum most_sum ≡ true) × (sum ≤ most_sum)) × Acceptable true
    sums-parted e =
        let t = both-parts (leb sum most_sum) (tasks_acceptable mem (tasks_in tasks) quantum budget) (subst T (sym e) tt) in
        ((is_true (leb sum most_sum) t.0, leb→le sum most_sum t.0), is_true (tasks_acceptable mem (tasks_in tasks) quantum budget) t.1)

    pub tasks-summed : leb sum most_sum ≡ true → {end : TasksAfter} → RunsTasks mem (tasks_in tasks) quantum budget end → {left : ℕ} → left ≡ sum_after sum mem end.memory →
        Summed end left
    tasks-summed low {end} runs e = subst⁻¹ (Summed end) e (sum-taken low runs)

    -- answer 2 alters nothing
    pub tasks-declined : both (leb sum most_sum) (tasks_acceptable mem (tasks_in tasks) quantum budget) ≡ false →
        {handed : RanTasks} → handed ≡ ran_tasks_of 2 (record { 0 = 0 }) (record { 0 = 0 }) tasks → Summed (tasks_after_of mem handed) sum
    tasks-declined bad e =
        subst⁻¹ (λ (r : RanTasks). Summed (tasks_after_of mem r) sum) e (by-test (leb sum most_sum) refl)
      where
        end : TasksAfter
        end = tasks_after_of mem (ran_tasks_of 2 (record { 0 = 0 }) (record { 0 = 0 }) tasks)

        by-test : (t : Bool) → leb sum most_sum ≡ t → Summed end sum
        by-test true low =
            let within : sum ≤ most_sum = leb→le sum most_sum (subst T (sym low) tt) in
            let refused : Acceptable false = ap (λ (b : Bool). both b (tasks_acceptable mem (tasks_in tasks) quantum budget)) (sym low) ∙ bad in
            tasks-summed low (declined refused) (sym (sum-stays sum mem (omega (arith, within))))
        by-test false above = sum-declined above
