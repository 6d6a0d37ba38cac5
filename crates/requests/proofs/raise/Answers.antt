-- Refused, waiting already, or waiting now.
use native.Mathlib.Omega.{arith}
use Rattle.requests.proofs.Powers.{room}
use Rattle.requests.proofs.Room.{too-low, too-high, waits-already, waits-now}
use borrow.Author.Rules.{rules}
use Rattle.requests.proofs.raise.Goals as goal

pub returns-then-line-lt1 : goal.returns-then-line-lt1
returns-then-line-lt1 c = too-low c.args.line c.args.waiting c.if-line-lt1.true

pub returns-then-line : goal.returns-then-line
returns-then-line c = too-high c.args.line c.args.waiting c.if-line.true

pub returns-then-waiting-power-eq1 : goal.returns-then-waiting-power-eq1
returns-then-waiting-power-eq1 c = waits-already c.args.line c.args.waiting c.bit-power.ensures (omega arith) (omega arith) c.if-waiting-power-eq1.true

pub overflow_add-result : goal.overflow_add-result
overflow_add-result c = record { fits = room c.args.line c.bit-power.ensures c.args.waiting (omega arith) (search rules) c.if-waiting-power-eq1.false }

pub returns : goal.returns
returns c = waits-now c.args.line c.args.waiting c.bit-power.ensures (omega arith) (omega arith) c.if-waiting-power-eq1.false
