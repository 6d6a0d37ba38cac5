-- Answer 2 is tested first; then the tasks have their turns.
use mathlib.Core.Path.{refl, sym, ap, ◌∙◌}
use Rattle.run_words.specs.Clocks.{ran_tasks_of}
use Rattle.turns.specs.declared.Counted.{Counted}
use Rattle.machine.specs.Tasks.{ran}
use Rattle.run_words.specs.Laws.Entry.{tasks-declined, sums-parted, tasks-summed}
use Rattle.turns.proofs.run_tasks_in.Goals as goal

pub turns-requires : goal.turns-requires
turns-requires c = (((sums-parted c.args.mem.now c.args.tasks.now c.args.quantum c.args.budget c.args.sum.now (sym (c.acceptable.ensures.0.0 c.args.mem.now refl) ∙ c.if-acceptable.true)).1, (c.acceptable.ensures.0.1 c.if-acceptable.true, (sums-parted c.args.mem.now c.args.tasks.now c.args.quantum c.args.budget c.args.sum.now (sym (c.acceptable.ensures.0.0 c.args.mem.now refl) ∙ c.if-acceptable.true)).0.1)), c.acceptable.ensures.1)

pub returns-then-acceptable : goal.returns-then-acceptable
returns-then-acceptable c = tasks-summed c.args.mem.now c.args.tasks.now c.args.quantum c.args.budget c.args.sum.now (sums-parted c.args.mem.now c.args.tasks.now c.args.quantum c.args.budget c.args.sum.now (sym (c.acceptable.ensures.0.0 c.args.mem.now refl) ∙ c.if-acceptable.true)).0.0 (ran (sums-parted c.args.mem.now c.args.tasks.now c.args.quantum c.args.budget c.args.sum.now (sym (c.acceptable.ensures.0.0 c.args.mem.now refl) ∙ c.if-acceptable.true)).1 c.turns.ensures.0) c.turns.ensures.1

pub returns : goal.returns
returns c = tasks-declined c.args.mem.now c.args.tasks.now c.args.quantum c.args.budget c.args.sum.now (sym (c.acceptable.ensures.0.0 c.args.mem.now refl) ∙ c.if-acceptable.false) (ap (λ (r : Counted). ran_tasks_of r.answer r.steps r.cycles c.args.tasks.now) c.refused.ensures)
