-- The line and the cells that were put are the text of the run.
use Rattle.std.proofs.Common.{rules}
use Rattle.report.proofs.Printing.{run_printed}
use Rattle.report.proofs.report.Goals as goal

pub returns : goal.returns
returns c = search (rules, run_printed)
