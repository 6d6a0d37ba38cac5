-- There is room for the digits and one character more.
use Rattle.std.proofs.Common.{rules, arith}
use Rattle.report.specs.Text.{cell_line}
use Rattle.report.proofs.Ending.{of-a-cell, not-refused, short, inside, ended}
use Rattle.report.proofs.lines.put_cell.Goals as goal

pub unwrap-last-requires : goal.unwrap-last-requires
unwrap-last-requires c = search (rules, not-refused of-a-cell)

pub bounds-text-last : goal.bounds-text-last
bounds-text-last c = search (rules, inside of-a-cell)

pub overflow_add-result : goal.overflow_add-result
overflow_add-result c = omega (arith, short of-a-cell _ _ _ _ _ c.write_hexadecimal.ensures c.requires _ c.unwrap-last.ensures)

pub returns : goal.returns
unfolding cell_line
returns c = search (rules, short of-a-cell, ended of-a-cell)
