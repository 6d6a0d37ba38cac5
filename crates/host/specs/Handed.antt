-- A machine that a host hands in as bytes: it is run, and handed back as bytes.
use Rattle.std.specs.Prelude.{List, ◌≡◌, ℕ, length}
use Rattle.plain.specs.Answer.{not_as_asked}
use Rattle.numbers.specs.Bytes.{number_at}
use Rattle.machine.specs.Sum.{Summed, run_summed}
use Rattle.machine.specs.declared.Machine.{Machine}
use Rattle.state.specs.Layout as layout
use Rattle.state.specs.Lent.{Lent}

-- what a run leaves, for the host; a run that answers 2 leaves its state, memory and sum as they were
abbrev pub handed_back : Summed → Lent
handed_back summed =
    let ran = summed.after.ran in
    record {
      number = 0;
      state = (layout.state).bytes ran.machine;
      memory = summed.after.memory;
      result = (layout.result).bytes (record { answer = ran.answer; steps = ran.steps; cycles = ran.cycles; sum = summed.sum });
    }

-- `Hands state memory budget sum result handed`: another length of the state or the result is 2, and nothing is touched;
-- else the machine whose bytes the state is runs on the memory with its sum, and the bytes can carry the machine that it leaves
pub data Hands (state memory : List ℕ) (budget sum : ℕ) (result : List ℕ) : Lent → Type 0 where
  wrong-length : ((length state ≡ (layout.state).width) × (length result ≡ (layout.result).width) → ⊥)
      → Hands state memory budget sum result (record { number = not_as_asked; state = state; memory = memory; result = result })
  run : (m : Machine) → length state ≡ (layout.state).width → length result ≡ (layout.result).width
      → (layout.state).Fits m → (layout.state).bytes m ≡ state → (layout.state).Fits (run_summed memory m budget sum).after.ran.machine
      → Hands state memory budget sum result (handed_back (run_summed memory m budget sum))

-- the sum that a run's result tells, in its bytes from 24 on
abbrev pub sum_handed : Lent → ℕ
sum_handed handed = number_at 8 handed.result 24
