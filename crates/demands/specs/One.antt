-- Demand 1, its words: what a run of any input leaves.
use Rattle.std.specs.Prelude.{◌≡◌, true, false, List, ℕ, ◌≤◌, T}
use Rattle.plain.specs.Answer.{not_as_asked}
use Rattle.machine.specs.Reach.{alone}
use Rattle.machine.specs.Run.{After, by_itself, ended, acceptable}
use Rattle.machine.specs.declared.Machine.{Machine}
use Rattle.demands.specs.History.{world}
use Rattle.demands.specs.Course.{Course}
use Rattle.demands.specs.Lowest.{is_answer}

-- what a run of any memory, machine and budget leaves
pub record One (mem : List ℕ) (m : Machine) (budget : ℕ) (a : After) : Type 0 where
  -- it ends, and with a number of the list: no run hangs, and none invents an answer
  pub answered : T (is_answer a.ran.answer)
  -- it counts no more steps than its budget
  pub within-budget : a.ran.steps.0 ≤ budget
  -- answer 2 is for input that is not acceptable, with zero steps and cycles and everything as it was
  pub untouched : a.ran.answer ≡ not_as_asked → (acceptable mem m budget ≡ false) × (a ≡ ended not_as_asked mem m 0 0)
  -- any other answer comes after completed instructions and entries of lines alone. Memory, machine and counters are as they left
  -- them: the budget is spent, or the instruction that the counter is on is refused with this answer and has altered nothing of the
  -- state after the last entry
  pub as_before : (a.ran.answer ≡ not_as_asked → ⊥) → (acceptable mem m budget ≡ true) × Course alone by_itself budget (world mem m) 0 0 a
