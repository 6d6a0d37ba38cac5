-- Each way out hands what the called functions ensure to its law.
use mathlib.Core.Path.{refl, sym, ◌∙◌}
use Rattle.machine.specs.Limits.{most_budget, most_quantum}
use Rattle.machine.specs.Tasks.{tasks_after_of}
use Rattle.state.specs.Layout as layout
use Rattle.state.specs.Narrowed.{narrowed-min}
use Rattle.tasks.proofs.Handing.{is_given, tasks-long, other_result, other-tasks, handed-back}
use Rattle.tasks.proofs.run_tasks.Goals as goal

pub returns-then-res-ne-RESULT : goal.returns-then-res-ne-RESULT
returns-then-res-ne-RESULT c =
    other_result c.args.tasks.now c.args.memory.now c.args.quantum c.args.budget c.args.sum c.args.res.now c.if-res-ne-RESULT.true

pub returns-in-Err : goal.returns-in-Err
returns-in-Err c =
    other-tasks c.args.tasks.now c.args.memory.now c.args.quantum c.args.budget c.args.sum c.args.res.now _ _ _
    (rw c.in-Err.is at c.take_tasks-taken.ensures) refl

pub unwrap-requires : goal.unwrap-requires
unwrap-requires c =
    is_given layout.tasks _ c.args.tasks.now _ c.give_tasks.result (tasks-long _ _ (rw c.in-Ok.is at c.take_tasks-taken.ensures)) c.give_tasks.ensures

pub returns : goal.returns
returns c =
    let ran = c.run_tasks_in-ran in
    handed-back c.args.tasks.now c.args.memory.now c.args.quantum c.args.budget c.args.sum c.args.res.now _ _ _ _
    (tasks_after_of ran.new.mem (record { answer = ran.result.answer; steps = ran.result.steps; cycles = ran.result.cycles; tasks = ran.new.tasks }))
    _ _ _ (rw c.in-Ok.is at c.take_tasks-taken.ensures) refl c.if-res-ne-RESULT.false
    (rw (sym (c.min-steps.ensures ∙ narrowed-min most_quantum c.args.quantum), sym (c.min-most.ensures ∙ narrowed-min most_budget c.args.budget))
    ran.ensures)
    c.give_tasks.ensures c.give_counts.ensures
