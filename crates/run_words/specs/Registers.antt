-- The run's registers: the machine that they make with its arrays, and what they become.
use Rattle.std.specs.Prelude.{Bool, true, false, List, ℕ, ◌+◌, ◌-◌}
use Rattle.plain.specs.Answer.{Answer, refuses, gives}
use Rattle.plain.specs.Choice.{pick}
use Rattle.links.specs.declared.Frame.{Frame}
use Rattle.links.specs.declared.Level.{Level}
use Rattle.machine.specs.declared.Machine.{Machine}
use Rattle.machine.specs.declared.Steps.{Steps}
use Rattle.machine.specs.declared.Cycles.{Cycles}
use Rattle.run_words.specs.Machines.{links_of}
use Rattle.run_words.specs.Notes.{Aside}
use Rattle.run_words.specs.declared.Pointers.{Pointers}
use Rattle.run_words.specs.declared.Registers.{Registers}

abbrev pub machine_in : List ℕ → List ℕ → List Frame → List Level → Aside → Registers → Machine
machine_in cells returns frames levels aside g =
    record {
      cells = cells;
      p = g.p;
      links = links_of returns g.r frames g.s levels g.e;
      counter = g.counter;
      flag = g.flag;
      thrown = aside.thrown;
      lines = aside.lines;
    }

-- P, R, S, E, the counter and the flag anew
abbrev pub moved_to : Registers → ℕ → ℕ → ℕ → ℕ → ℕ → ℕ → Registers
moved_to g p r s e counter flag =
    record {
      p = p;
      r = r;
      s = s;
      e = e;
      counter = counter;
      flag = flag;
      left = g.left;
      cycles = g.cycles;
      answer = g.answer;
      unspent = g.unspent;
      again = g.again;
    }

-- what is left, the cycles, the answer, what was not spent and whether the run goes on anew
abbrev pub tallied_to : Registers → Steps → Cycles → ℕ → Steps → Bool → Registers
tallied_to g left cycles answer unspent again =
    record {
      p = g.p;
      r = g.r;
      s = g.s;
      e = g.e;
      counter = g.counter;
      flag = g.flag;
      left = left;
      cycles = cycles;
      answer = answer;
      unspent = unspent;
      again = again;
    }

-- one more step, and its cycles
abbrev pub counted_to : Registers → ℕ → Registers
counted_to g price = tallied_to g (record { 0 = g.left.0 - 1 }) (record { 0 = g.cycles.0 + price }) g.answer g.unspent g.again

-- the run is over: nothing is left to spend, and what was not spent is kept
abbrev pub halted_at : Registers → ℕ → Registers
halted_at g answer = tallied_to g (record { 0 = 0 }) g.cycles answer g.left g.again

-- a PAUSE ends a turn as a spent budget does
abbrev pub paused_at : Registers → Bool → Registers
paused_at g in_turns = pick in_turns (halted_at g 1) g

-- a line might enter: the loop ends, and the run goes on with what is left
abbrev pub parted_at : Registers → Bool → Registers
parted_at g held = pick held (tallied_to g (record { 0 = 0 }) g.cycles 0 g.left true) g

-- nothing is spent at first
abbrev pub begun_at : Pointers → ℕ → Registers
begun_at at left =
    record {
      p = at.p;
      r = at.r;
      s = at.s;
      e = at.e;
      counter = at.counter;
      flag = at.flag;
      left = record { 0 = left };
      cycles = record { 0 = 0 };
      answer = 1;
      unspent = record { 0 = 0 };
      again = false;
    }

-- the loop has ended once more, with these registers
abbrev pub joined_to : Registers → Registers → Registers
joined_to g after =
    let cycles : Cycles = record { 0 = g.cycles.0 + after.cycles.0 } in
    pick after.again (tallied_to after after.unspent cycles 1 (record { 0 = 0 }) false) (tallied_to after after.left cycles after.answer after.unspent after.again)

-- an answer that refuses ends the run with its number
abbrev pub halted_by : {A : Type 0} → Answer A → Registers → Registers
halted_by (refuses number) g = halted_at g number
halted_by (gives values) g = g
