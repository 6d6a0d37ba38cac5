-- The first three starred lines of the bench sheet, taken apart: the step to a CATCH, the CATCH, and the steps of the caught word; and
-- one more with an RTI.
use Rattle.std.specs.Prelude.{List, [], ◌∷◌, ℕ}
use Rattle.plain.specs.Zeros.{padded}
use Rattle.machine.specs.Limits.{memory_length}
use Rattle.machine.specs.State.{fresh_machine}
use Rattle.machine.specs.declared.Machine.{Machine}
use Rattle.demands.specs.History.{World, world}
use Rattle.demands.specs.Back.{Seen}
use Rattle.demands.specs.Walk.{ahead, walk}

-- a fresh machine with the code from address 0, and the world after its first step: at a CATCH
abbrev pub start : List ℕ → World
start code = world (padded memory_length code) fresh_machine

abbrev pub at_catch : List ℕ → World
at_catch code = ahead (start code)

-- from a its first step leads to a CATCH, and the step that comes n after the CATCH, with this code, loses what the CATCH pushed, and
-- the machine is back
abbrev pub ShownFrom : World → ℕ → ℕ → Type 0
ShownFrom a n way = Seen a (ahead a) (ahead (ahead a)) (walk n (ahead (ahead a))) (ahead (walk n (ahead (ahead a)))) way

abbrev pub Shown : List ℕ → ℕ → ℕ → Type 0
Shown code n way = ShownFrom (start code) n way

-- the caught word throws FF; it exits; it takes its return cell
abbrev pub throws : List ℕ
throws = 0x36 ∷ 0x00 ∷ 0x00 ∷ 0x00 ∷ 0x08 ∷ 0x0B ∷ 0x20 ∷ 0x3D ∷ 0x34 ∷ 0xFF ∷ 0x0D ∷ []

abbrev pub exits : List ℕ
exits = 0x36 ∷ 0x00 ∷ 0x00 ∷ 0x00 ∷ 0x08 ∷ 0x0B ∷ 0x20 ∷ 0x3D ∷ 0x3D ∷ []

abbrev pub pops : List ℕ
pops = 0x36 ∷ 0x00 ∷ 0x00 ∷ 0x00 ∷ 0x08 ∷ 0x0B ∷ 0x20 ∷ 0x3D ∷ 0x09 ∷ 0x3D ∷ []

-- request P4: a routine is in progress, and the caught word ends it by RTI
abbrev pub busy : Machine → Machine
busy m =
    record {
      cells = m.cells;
      p = m.p;
      links = m.links;
      counter = m.counter;
      flag = m.flag;
      thrown = m.thrown;
      lines = record { mask = 0; waiting = 0; block = 1 };
    }

abbrev pub returns : World
returns =
    world (padded memory_length (0x36 ∷ 0x00 ∷ 0x00 ∷ 0x00 ∷ 0x08 ∷ 0x0B ∷ 0x20 ∷ 0x3D ∷ 0x3C ∷ [])) (busy fresh_machine)
