-- The count is the number that was found, the limits those of the section.
use Rattle.reason.proofs.Making.{retold, count_numbers}
use borrow.Author.Rules.{rules}
use Rattle.reason.proofs.faults.put_count.Goals as goal

pub returns : goal.returns
returns c = search (rules, retold, count_numbers)
