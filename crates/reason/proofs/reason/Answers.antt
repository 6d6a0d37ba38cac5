-- What was put for the judgement is the line.
use Rattle.reason.proofs.Making.{bad_line, good_line}
use borrow.Author.Rules.{rules}
use Rattle.reason.proofs.reason.Goals as goal

pub returns-in-Err : goal.returns-in-Err
returns-in-Err c = search (rules, bad_line)

pub returns-in-Ok : goal.returns-in-Ok
returns-in-Ok c = search (rules, good_line)
