-- A place, and the clause after it.
use Rattle.numbers.specs.Laws.Putting.{appended_then}
use Rattle.reason.proofs.Making.{fault_put}
use borrow.Author.Rules.{rules}
use Rattle.reason.proofs.faults.put_fault.Goals as goal

pub returns-in-Cut : goal.returns-in-Cut
returns-in-Cut c = search (rules, fault_put, appended_then)

pub returns-in-Count : goal.returns-in-Count
returns-in-Count c = search (rules, fault_put, appended_then)

pub returns-in-Budget : goal.returns-in-Budget
returns-in-Budget c = search (rules, fault_put, appended_then)

pub returns-in-Surplus : goal.returns-in-Surplus
returns-in-Surplus c = search (rules, fault_put)
