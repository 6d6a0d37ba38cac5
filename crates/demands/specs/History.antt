-- What happens to a machine and its memory, one moment after another: kept as data, so that whatever is measured over it is a fold.
use Rattle.std.specs.Prelude.{◌≡◌, true, List, ℕ, zero, suc, ◌+◌, ◌<◌}
use Rattle.numbers.specs.Bytes.{byte_at}
use Rattle.links.specs.Fits.{CellFits}
use Rattle.machine.specs.Lines.{line, entering, entered_by}
use Rattle.machine.specs.Step.{done, step_of}
use Rattle.machine.specs.State.{well_formed, Whole}
use Rattle.machine.specs.Fits.{AllBytes}
use Rattle.machine.specs.Run.{After}
use Rattle.machine.specs.declared.Machine.{Machine}
use Rattle.machine.specs.declared.Reach.{Reach}

pub record World : Type 0 where
  pub memory : List ℕ
  pub machine : Machine

abbrev pub world : List ℕ → Machine → World
world memory machine = record { memory = memory; machine = machine }

-- what a run leaves
abbrev pub world_after : After → World
world_after a = world a.memory a.ran.machine

-- the code at the program counter, the pointer E
abbrev pub code_at : World → ℕ
code_at w = byte_at w.memory w.machine.counter

abbrev pub pointer_e : World → ℕ
pointer_e w = w.machine.links.e

-- the machine with another mask and other waiting requests, and all else of it unaltered
abbrev pub asked : ℕ → ℕ → Machine → Machine
asked mask waiting m =
    record {
      cells = m.cells;
      p = m.p;
      links = m.links;
      counter = m.counter;
      flag = m.flag;
      thrown = m.thrown;
      lines = record { mask = mask; waiting = waiting; block = m.lines.block };
    }

-- one moment of a history: an event of a new kind is one more case here
pub data Moment (w v : World) : Type 0 where
  -- an instruction is carried out under a reach, in k clock cycles
  step : (reach : Reach) (k : ℕ) → step_of reach w.memory w.machine ≡ done v.memory v.machine k → Moment w v
  -- line n enters, which leaves the memory as it was
  enters : (n : ℕ) → entering w.machine ≡ line n → v.memory ≡ w.memory → v.machine ≡ entered_by n w.machine → Moment w v
  -- the host may change the memory as it likes, the mask and the waiting requests, and nothing else of the machine
  host : (mask waiting : ℕ) → v.machine ≡ asked mask waiting w.machine → Moment w v
  -- another task has its turn, which may change the memory and leaves this machine as it was
  others : v.machine ≡ w.machine → Moment w v

pub data History : World → World → Type 0 where
  here : {w : World} → History w w
  then : {w u v : World} → Moment w u → History u v → History w v

-- one history after another
abbrev pub joined : {w u v : World} → History w u → History u v → History w v
joined here later = later
joined (then moment rest) later = then moment (joined rest later)

-- how many instructions a history carries out, and the sum of their clock cycles
abbrev pub steps_in : {w v : World} → History w v → ℕ
steps_in here = zero
steps_in (then (step reach k e) rest) = suc (steps_in rest)
steps_in (then (enters n e kept is) rest) = steps_in rest
steps_in (then (host mask waiting e) rest) = steps_in rest
steps_in (then (others e) rest) = steps_in rest

abbrev pub cycles_in : {w v : World} → History w v → ℕ
cycles_in here = zero
cycles_in (then (step reach k e) rest) = k + cycles_in rest
cycles_in (then (enters n e kept is) rest) = cycles_in rest
cycles_in (then (host mask waiting e) rest) = cycles_in rest
cycles_in (then (others e) rest) = cycles_in rest

-- instructions and entries of lines alone: nothing by the host, no turn of another task
abbrev pub Unbroken : {w v : World} → History w v → Type 0
Unbroken here = Unit {0}
Unbroken (then (step reach k e) rest) = Unbroken rest
Unbroken (then (enters n e kept is) rest) = Unbroken rest
Unbroken (then (host mask waiting e) rest) = ⊥
Unbroken (then (others e) rest) = ⊥

-- every instruction is carried out under this reach
abbrev pub Under : Reach → {w v : World} → History w v → Type 0
Under reach here = Unit {0}
Under reach (then (step own k e) rest) = (own ≡ reach) × Under reach rest
Under reach (then (enters n e kept is) rest) = Under reach rest
Under reach (then (host mask waiting e) rest) = Under reach rest
Under reach (then (others e) rest) = Under reach rest

-- what the host and the other tasks leave as memory is bytes, and what the host leaves as mask and requests fits in cells
abbrev pub LeavesBytes : {w v : World} → History w v → Type 0
LeavesBytes here = Unit {0}
LeavesBytes (then (step reach k e) rest) = LeavesBytes rest
LeavesBytes (then (enters n e kept is) rest) = LeavesBytes rest
LeavesBytes (then {u = u} (host mask waiting e) rest) = AllBytes u.memory × (CellFits mask × CellFits waiting) × LeavesBytes rest
LeavesBytes (then {u = u} (others e) rest) = AllBytes u.memory × LeavesBytes rest

-- a moment that carries out a RESETSP
abbrev pub Resets : {w v : World} → Moment w v → Type 0
Resets {w} (step reach k e) = code_at w ≡ 0x0C
Resets (enters n e kept is) = ⊥
Resets (host mask waiting e) = ⊥
Resets (others e) = ⊥

-- E is above n from the first to the last
abbrev pub StaysAbove : ℕ → {w v : World} → History w v → Type 0
StaysAbove n {w} here = n < pointer_e w
StaysAbove n {w} (then moment rest) = (n < pointer_e w) × StaysAbove n rest

-- a machine that a run accepts, with a memory of its length and a budget within the limit; its lists are as long as the arrays
-- that they stand for
pub record Accepted (m : Machine) : Type 0 where
  pub whole : Whole m
  pub formed : well_formed m ≡ true
