-- Before pass i the text has grown by the lines of the first i cells.
use Rattle.std.proofs.Common.{rules, arith}
use Rattle.report.proofs.Growing.{grown_more, cells_end}
use Rattle.report.proofs.lines.put_cells.Goals as goal

pub loop-cell-preserved : goal.loop-cell-preserved
loop-cell-preserved c = record { short = omega arith; added = search (rules, grown_more) }

pub returns : goal.returns
returns c = (omega arith, search (rules, cells_end))
