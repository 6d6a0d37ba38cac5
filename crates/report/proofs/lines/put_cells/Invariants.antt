-- Before pass i the text has grown by the lines of the first i cells.
use Rattle.std.proofs.Common.{◌+◌, ◌*◌, ◌≤◌, take, flat_map}
use Rattle.numbers.specs.Putting.{Appended}
use Rattle.report.specs.Text.{cell_line}
use Rattle.report.specs.Sizes.{cell_size}
use Rattle.report.proofs.lines.put_cells.Given as goal

abbrev pub invariant-loop-cell : goal.invariant-loop-cell
invariant-loop-cell l = record {
  short : l.at ≤ l.from + l.cell-index * cell_size;
  added : Appended l.initial.text l.from (flat_map cell_line (take l.cell-index l.cells)) l.text l.at;
}
