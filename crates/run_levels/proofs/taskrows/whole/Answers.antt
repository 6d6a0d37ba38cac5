-- Before pass t the first t machines are read.
use Rattle.std.proofs.Common.{refl, arith, sym, ◌∙◌}
use Rattle.machine.specs.Limits.{tasks_count}
use Rattle.machine.specs.Tasks.{no_machine}
use Rattle.run_words.specs.Levels.{machines_in}
use Rattle.run_words.specs.Laws.Filled.{filled_none, filled_next}
use Rattle.run_words.specs.Laws.Tasked.{machines-long, machine-there}
use Rattle.run_levels.proofs.taskrows.whole.Goals as goal

pub loop-t-init : goal.loop-t-init
loop-t-init c = filled_none tasks_count (machines_in c.args.cells.now c.args.returns.now c.args.rows.now c.args.copies.now c.args.saved) _ (machines-long c.args.cells.now c.args.returns.now c.args.rows.now c.args.copies.now c.args.saved) refl

pub loop-t-preserved : goal.loop-t-preserved
loop-t-preserved c = filled_next tasks_count (machines_in c.args.cells.now c.args.returns.now c.args.rows.now c.args.copies.now c.args.saved) c.loop-t.machines _ c.loop-t.t no_machine c.whole.result c.loop-t.invariant (omega arith) refl (c.whole.ensures ∙ sym (machine-there c.args.cells.now c.args.returns.now c.args.rows.now c.args.copies.now c.args.saved c.loop-t.t (omega arith)))
