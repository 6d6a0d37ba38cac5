-- Too few cells is test 5; a zero stays as it is; else the cell is pushed once more.
use native.Mathlib.Omega.{arith}
use Prim.Native.Nat.{◌-◌}
use lib.ListN.{get_or}
use borrow.Author.Tests.{eq-eqb, ne_eqb}
use Rattle.run_words.specs.Laws.Goings.{dup-nonzero-few, dup-nonzero-zero, dup-nonzero-pushed}
use borrow.Author.Rules.{rules}
use Rattle.run_cells.proofs.cells.dup_nonzero.Goals as goal

pub returns-then-p-lt1 : goal.returns-then-p-lt1
returns-then-p-lt1 c = λ operand. dup-nonzero-few operand c.args.next c.args.cells.now c.args.p c.args.flag c.if-p-lt1.true

pub returns-then-x-eq0 : goal.returns-then-x-eq0
returns-then-x-eq0 c = λ operand. dup-nonzero-zero operand c.args.next c.args.cells.now c.args.p c.args.flag (eq-eqb (get_or c.args.cells.now (c.args.p - 1) 0) 0 c.if-x-eq0.true) (omega arith) (omega arith)

pub returns : goal.returns
returns c = rw (c.push.ensures.0, c.push.ensures.1) (λ operand. dup-nonzero-pushed operand c.args.next c.args.cells.now c.args.p c.args.flag (ne_eqb (get_or c.args.cells.now (c.args.p - 1) 0) 0 c.if-x-eq0.false) (omega arith) (omega arith))
