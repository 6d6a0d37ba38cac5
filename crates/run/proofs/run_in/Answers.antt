-- Answer 2 is tested first, clause by clause; then the loop runs.
use mathlib.Core.Bool.{true, false}
use mathlib.Core.Path.{ap}
use Rattle.run_words.specs.Machines.{ran_of}
use Rattle.turns.specs.declared.Counted.{Counted}
use native.Mathlib.Omega.{arith}
use Rattle.machine.specs.Run.{after_of}
use Rattle.run_words.specs.Laws.Entry.{wrong-length, wrong-budget, judged, taken, sum-above, sum_kept, sum_moved}
use Rattle.run.proofs.run_in.Goals as goal

pub returns-then-mem-ne-MEMORY : goal.returns-then-mem-ne-MEMORY
returns-then-mem-ne-MEMORY c = (sum_kept c.args.mem.now c.args.machine.now c.args.budget c.args.sum.now (ran_of c.refused.result.answer c.refused.result.steps c.refused.result.cycles c.args.machine.now) (ap (λ (r : Counted). ran_of r.answer r.steps r.cycles c.args.machine.now) c.refused.ensures) (wrong-length c.args.mem.now c.args.machine.now c.args.budget c.if-mem-ne-MEMORY.true))

pub returns-then-budget-gt-BUDGET : goal.returns-then-budget-gt-BUDGET
returns-then-budget-gt-BUDGET c = (sum_kept c.args.mem.now c.args.machine.now c.args.budget c.args.sum.now (ran_of c.refused-then-budget-gt-BUDGET.result.answer c.refused-then-budget-gt-BUDGET.result.steps c.refused-then-budget-gt-BUDGET.result.cycles c.args.machine.now) (ap (λ (r : Counted). ran_of r.answer r.steps r.cycles c.args.machine.now) c.refused-then-budget-gt-BUDGET.ensures) (wrong-budget c.args.mem.now c.args.machine.now c.args.budget (omega arith) (omega arith)))

pub returns-then-sum-gt-SUM : goal.returns-then-sum-gt-SUM
returns-then-sum-gt-SUM c = sum-above c.args.mem.now c.args.machine.now c.args.budget c.args.sum.now (omega arith) (ran_of c.refused-then-sum-gt-SUM.result.answer c.refused-then-sum-gt-SUM.result.steps c.refused-then-sum-gt-SUM.result.cycles c.args.machine.now) (ap (λ (r : Counted). ran_of r.answer r.steps r.cycles c.args.machine.now) c.refused-then-sum-gt-SUM.ensures)

pub any-requires : goal.any-requires
any-requires c = ((judged c.args.mem.now c.args.machine.now c.args.budget (omega arith) (omega arith) c.is_formed.result c.is_formed.ensures true c.if-is_formed.true), omega arith)

pub returns-then-is_formed : goal.returns-then-is_formed
returns-then-is_formed c = sum_moved c.args.mem.now c.args.machine.now c.args.budget c.args.sum.now (omega arith) (after_of c.any.new.mem (ran_of c.any.result.answer c.any.result.steps c.any.result.cycles c.any.new.machine)) (taken c.args.mem.now c.args.machine.now c.args.budget (judged c.args.mem.now c.args.machine.now c.args.budget (omega arith) (omega arith) c.is_formed.result c.is_formed.ensures true c.if-is_formed.true) (after_of c.any.new.mem (ran_of c.any.result.answer c.any.result.steps c.any.result.cycles c.any.new.machine)) c.any.ensures.0) c.any.ensures.1

pub returns : goal.returns
returns c = (sum_kept c.args.mem.now c.args.machine.now c.args.budget c.args.sum.now (ran_of c.refused-2.result.answer c.refused-2.result.steps c.refused-2.result.cycles c.args.machine.now) (ap (λ (r : Counted). ran_of r.answer r.steps r.cycles c.args.machine.now) c.refused-2.ensures) (judged c.args.mem.now c.args.machine.now c.args.budget (omega arith) (omega arith) c.is_formed.result c.is_formed.ensures false c.if-is_formed.false))
