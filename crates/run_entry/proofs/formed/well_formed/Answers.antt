-- The clauses in the definition's order.
use mathlib.Core.Path.{sym, ◌∙◌}
use borrow.Author.Tests.{le-leb, lt-leb}
use Rattle.links.specs.Depths.{cells_depth}
use Rattle.machine.specs.State.{well_formed}
use borrow.Author.Rules.{rules}
use Rattle.run_entry.proofs.formed.well_formed.Goals as goal

pub returns-then-machine-gt-CELLS : goal.returns-then-machine-gt-CELLS
unfolding well_formed
returns-then-machine-gt-CELLS c = rw (lt-leb c.args.machine.p cells_depth c.if-machine-gt-CELLS.true)

pub returns-then-machine-gt1 : goal.returns-then-machine-gt1
unfolding well_formed
returns-then-machine-gt1 c = rw (le-leb c.args.machine.p cells_depth c.if-machine-gt-CELLS.false, lt-leb c.args.machine.flag 1 c.if-machine-gt1.true)

pub returns-then-lines_formed : goal.returns-then-lines_formed
unfolding well_formed
returns-then-lines_formed c = rw (le-leb c.args.machine.p cells_depth c.if-machine-gt-CELLS.false, le-leb c.args.machine.flag 1 c.if-machine-gt1.false, (sym c.lines_formed.ensures ∙ c.if-lines_formed.true)) c.well_formed-then-lines_formed.ensures

pub returns : goal.returns
unfolding well_formed
returns c = rw (le-leb c.args.machine.p cells_depth c.if-machine-gt-CELLS.false, le-leb c.args.machine.flag 1 c.if-machine-gt1.false, (sym c.lines_formed.ensures ∙ c.if-lines_formed.false))
