-- The digits have room, and end where the next character goes.
use Rattle.std.proofs.Common.{rules}
use Rattle.reason.proofs.Found.{not_refused, number_short, number_added}
use Rattle.reason.proofs.words.put_number.Goals as goal

pub unwrap-requires : goal.unwrap-requires
unwrap-requires c = search (rules, not_refused)

pub returns : goal.returns
returns c = search (rules, number_short, number_added)
