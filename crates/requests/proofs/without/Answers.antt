-- A bit past the number's own, one above it, or one within it.
use native.Mathlib.Omega.{arith}
use Rattle.requests.proofs.Powers.{above}
use borrow.Author.Rules.{rules}
use Rattle.requests.proofs.without.Goals as goal

pub returns-then-n-gt31 : goal.returns-then-n-gt31
returns-then-n-gt31 c = above c.args.n c.args.waiting c.if-n-gt31.true (search rules)

pub returns-then-waiting-power : goal.returns-then-waiting-power
returns-then-waiting-power c = omega (arith, c.bit-power.ensures)

pub returns : goal.returns
returns c = omega (arith, c.bit-power.ensures)
