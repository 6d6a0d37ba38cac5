-- One after another; the last decides.
use mathlib.Core.Path.{refl}
use mathlib.Core.Bool.{false}
use Rattle.run_words.specs.Laws.Pairs.{first-bad, second-bad, third-bad, fourth-decides, four-whole}
use Rattle.run_words.specs.Laws.Filled.{length-mapped}
use Rattle.machine.proofs.Laws.Clash.{clash}
use borrow.Author.Rules.{rules}
use Rattle.run_entry.proofs.formed.tasks.Goals as goal

pub returns-then-task-3 : goal.returns-then-task-3
returns-then-task-3 c = (fourth-decides c.args.tasks.machines c.args.tasks.kept (search (rules, length-mapped)) (search (rules, length-mapped)) c.task.ensures.0 c.task-then-task.ensures.0 c.if-task.true c.task-then-task-2.ensures.0 c.if-task-2.true c.task-then-task-3.ensures.0 c.if-task-3.true, λ h. four-whole c.args.tasks.machines c.args.tasks.kept (search (rules, length-mapped)) (search (rules, length-mapped)) c.task.ensures.1 c.task-then-task.ensures.1 c.task-then-task-2.ensures.1 c.task-then-task-3.ensures.1)

pub returns-else-task-3 : goal.returns-else-task-3
returns-else-task-3 c = (third-bad c.args.tasks.machines c.args.tasks.kept (search (rules, length-mapped)) (search (rules, length-mapped)) c.task.ensures.0 c.task-then-task.ensures.0 c.if-task.true c.task-then-task-2.ensures.0 c.if-task-2.true c.if-task-3.false, λ h. clash false h refl)

pub returns-else-task-2 : goal.returns-else-task-2
returns-else-task-2 c = (second-bad c.args.tasks.machines c.args.tasks.kept (search (rules, length-mapped)) (search (rules, length-mapped)) c.task.ensures.0 c.task-then-task.ensures.0 c.if-task.true c.if-task-2.false, λ h. clash false h refl)

pub returns-else-task : goal.returns-else-task
returns-else-task c = (first-bad c.args.tasks.machines c.args.tasks.kept (search (rules, length-mapped)) (search (rules, length-mapped)) c.task.ensures.0 c.if-task.false, λ h. clash false h refl)
