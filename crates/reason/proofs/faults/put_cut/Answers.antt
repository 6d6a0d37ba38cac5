-- The count is there, or the file ends in it.
use Rattle.std.proofs.Common.{rules}
use Rattle.reason.proofs.Making.{cut_count, cut_elements}
use Rattle.reason.proofs.faults.put_cut.Goals as goal

pub returns-in_default : goal.returns-in_default
returns-in_default c = search (rules, cut_count)

pub returns : goal.returns
returns c = search (rules, cut_elements)
