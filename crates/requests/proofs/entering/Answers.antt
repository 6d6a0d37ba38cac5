-- Each answer is decided by the first test that fails, or by the lines.
use Rattle.requests.proofs.Room.{none-waits, blocked, no-return-cell, no-level, lets-in}
use borrow.Author.Rules.{rules}
use Rattle.requests.proofs.entering.Goals as goal

pub returns-then-lines-eq0 : goal.returns-then-lines-eq0
returns-then-lines-eq0 c = none-waits c.args.lines c.args.r c.args.s c.if-lines-eq0.true

pub returns-then-lines-ne0 : goal.returns-then-lines-ne0
returns-then-lines-ne0 c = blocked c.args.lines c.args.r c.args.s c.if-lines-ne0.true

pub returns-then-r-ge-RETURNS : goal.returns-then-r-ge-RETURNS
returns-then-r-ge-RETURNS c = no-return-cell c.args.lines c.args.r c.args.s c.if-r-ge-RETURNS.true

pub returns-then-s-ge-SUBROUTINES : goal.returns-then-s-ge-SUBROUTINES
returns-then-s-ge-SUBROUTINES c = no-level c.args.lines c.args.r c.args.s (search rules) c.if-s-ge-SUBROUTINES.true

pub returns : goal.returns
returns c = lets-in c.args.lines c.args.r c.args.s (search rules) (search rules) (search rules) c.lowest.ensures
