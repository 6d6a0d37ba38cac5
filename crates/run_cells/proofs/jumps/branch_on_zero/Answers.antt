-- The cell is taken either way; a zero branches.
use mathlib.Core.Bool.{true, false}
use native.Mathlib.Omega.{arith}
use Prim.Native.Nat.{◌-◌}
use borrow.Author.Tests.{eq-eqb, ne_eqb}
use lib.ListN.{get_or}
use Rattle.run_words.specs.Laws.Goings.{beq-few, beq-went}
use borrow.Author.Rules.{rules}
use Rattle.run_cells.proofs.jumps.branch_on_zero.Goals as goal

pub returns-then-p-lt1 : goal.returns-then-p-lt1
returns-then-p-lt1 c = beq-few c.args.operand c.args.next c.args.cells.now c.args.p c.args.flag c.if-p-lt1.true

pub returns-then-x-eq0 : goal.returns-then-x-eq0
returns-then-x-eq0 c = beq-went c.args.operand c.args.next c.args.cells.now c.args.p c.args.flag true (eq-eqb (get_or c.args.cells.now (c.args.p - 1) 0) 0 c.if-x-eq0.true) (omega arith) (omega arith)

pub returns : goal.returns
returns c = beq-went c.args.operand c.args.next c.args.cells.now c.args.p c.args.flag false (ne_eqb (get_or c.args.cells.now (c.args.p - 1) 0) 0 c.if-x-eq0.false) (omega arith) (omega arith)
