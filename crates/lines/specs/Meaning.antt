-- A machine with one number of its interrupt lines changed.
use Rattle.std.specs.Prelude.{ℕ}
use Rattle.machine.specs.declared.Lines.{Lines}
use Rattle.machine.specs.declared.Machine.{Machine}

abbrev pub with_lines : Lines → Machine → Machine
with_lines lines m =
    record {
      cells = m.cells;
      p = m.p;
      links = m.links;
      counter = m.counter;
      flag = m.flag;
      thrown = m.thrown;
      lines = lines;
    }

-- other waiting requests
abbrev pub with_waiting : ℕ → Machine → Machine
with_waiting waiting m = with_lines (record { mask = m.lines.mask; waiting = waiting; block = m.lines.block }) m

-- another mask
abbrev pub with_mask : ℕ → Machine → Machine
with_mask mask m = with_lines (record { mask = mask; waiting = m.lines.waiting; block = m.lines.block }) m
