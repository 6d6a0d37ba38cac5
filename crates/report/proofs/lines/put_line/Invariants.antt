-- Before pass i the text is the first i numbers, each with its space.
use Rattle.std.proofs.Common.{◌*◌, ◌≤◌, take, flat_map}
use Rattle.numbers.specs.Putting.{Appended}
use Rattle.report.specs.Sizes.{longest_field}
use Rattle.report.proofs.Growing.{spaced}
use Rattle.report.proofs.lines.put_line.Given as goal

abbrev pub invariant-loop-value : goal.invariant-loop-value
invariant-loop-value l = record {
  short : l.at ≤ l.value-index * longest_field;
  added : Appended l.initial.text 0 (flat_map spaced (take l.value-index l.value-items)) l.text l.at;
}
