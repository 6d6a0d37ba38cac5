-- A run under a budget: its instructions one after another, steps and cycles counted.
use Rattle.std.specs.Prelude.{Bool, true, false, List, ℕ, zero, suc, ◌+◌, ◌*◌, ◌≤◌, leb, eqb, length}
use Rattle.plain.specs.Answer.{not_as_asked}
use Rattle.plain.specs.Choice.{pick, both}
use Rattle.numbers.specs.Bytes.{byte_at}
use Rattle.machine.specs.Limits.{memory_length, most_budget}
use Rattle.machine.specs.Reach.{alone}
use Rattle.machine.specs.State.{well_formed}
use Rattle.machine.specs.Codes.{code_pause}
use Rattle.machine.specs.Lines.{let_in}
use Rattle.machine.specs.Step.{refused, done, step_of}
use Rattle.machine.specs.declared.Machine.{Machine}
use Rattle.machine.specs.declared.Ran.{Ran}
use Rattle.machine.specs.declared.Reach.{Reach}

-- what a run leaves: the memory, and what it hands back
pub record After : Type 0 where
  pub memory : List ℕ
  pub ran : Ran

abbrev pub after_of : List ℕ → Ran → After
after_of memory ran = record { memory = memory; ran = ran }

abbrev pub ended : ℕ → List ℕ → Machine → ℕ → ℕ → After
ended answer mem m steps cycles =
    after_of mem (record { answer = answer; steps = record { 0 = steps }; cycles = record { 0 = cycles }; machine = m })

-- n steps, from n to 42n cycles
pub record CyclesBounded (a : After) : Type 0 where
  pub least : a.ran.steps.0 ≤ a.ran.cycles.0
  pub most : a.ran.cycles.0 ≤ 42 * a.ran.steps.0

-- the instruction at the program counter passes the turn: PAUSE, where turns are taken
abbrev pub passes : Bool → List ℕ → Machine → Bool
passes in_turns mem m = both in_turns (eqb (byte_at mem m.counter) code_pause)

-- how a machine is run: whether turns are taken, and whether interrupt lines may enter it
pub record Manner : Type 0 where
  pub in_turns : Bool
  pub lined : Bool

abbrev pub manner_of : Bool → Bool → Manner
manner_of in_turns lined = record { in_turns = in_turns; lined = lined }

-- a machine by itself
abbrev pub by_itself : Manner
by_itself = manner_of false true

-- the run from here: under whose reach, in which manner, instructions left in the budget, then the steps and cycles counted so far.
-- Before each instruction a spent budget ends the run with 1; then a line may enter, which is no step; a completed instruction is one
-- step; one that passes the turn ends the run as a spent budget does.
unfoldable pub run_from : Reach → Manner → ℕ → List ℕ → Machine → ℕ → ℕ → After
run_from reach manner zero mem m steps cycles = ended 1 mem m steps cycles
run_from reach manner (suc left) mem m steps cycles =
    let here = let_in manner.lined m in
    elim (step_of reach mem here) [
      | refused number ↦ ended number mem here steps cycles
      | done mem' m' cost ↦
          pick (passes manner.in_turns mem here) (ended 1 mem' m' (suc steps) (cycles + cost))
          (run_from reach manner left mem' m' (suc steps) (cycles + cost))
    ]

-- memory length, budget and state as document 01 asks
unfoldable pub acceptable : List ℕ → Machine → ℕ → Bool
acceptable mem m budget = both (eqb (length mem) memory_length) (both (leb budget most_budget) (well_formed m))

-- a run of one machine, which has all of memory and takes no turns, and which lines may enter; what is not as asked is refused before the first instruction,
-- and nothing is altered
unfoldable pub run_of : List ℕ → Machine → ℕ → After
run_of mem m budget =
    elim (acceptable mem m budget) [
      | true ↦ run_from alone by_itself budget mem m 0 0
      | false ↦ ended not_as_asked mem m 0 0
    ]
