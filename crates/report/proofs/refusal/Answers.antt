-- The field that was put is the whole text.
use Rattle.report.proofs.Printing.{refusal_printed}
use borrow.Author.Rules.{rules}
use Rattle.report.proofs.refusal.Goals as goal

pub returns : goal.returns
returns c = search (rules, refusal_printed)
