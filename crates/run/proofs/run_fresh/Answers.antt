-- Answer 2 is tested first, clause by clause; then the loop runs.
use mathlib.Core.Bool.{true, false}
use mathlib.Core.Path.{refl}
use native.Mathlib.Omega.{arith}
use Rattle.machine.specs.Run.{after_of}
use Rattle.machine.specs.State.{fresh_with}
use Rattle.run_words.specs.Laws.Entry.{wrong-length, wrong-budget, judged, fresh-formed, fresh-too-deep, run-declined, taken}
use Rattle.run.proofs.run_fresh.Goals as goal

pub returns-then-mem-ne-MEMORY : goal.returns-then-mem-ne-MEMORY
returns-then-mem-ne-MEMORY c = run-declined c.args.mem.now (fresh_with c.args.cells c.args.p) c.args.budget (wrong-length c.args.mem.now (fresh_with c.args.cells c.args.p) c.args.budget c.if-mem-ne-MEMORY.true) c.declined.result c.declined.ensures

pub returns-then-budget-gt-BUDGET : goal.returns-then-budget-gt-BUDGET
returns-then-budget-gt-BUDGET c = run-declined c.args.mem.now (fresh_with c.args.cells c.args.p) c.args.budget (wrong-budget c.args.mem.now (fresh_with c.args.cells c.args.p) c.args.budget (omega arith) (omega arith)) c.declined-then-budget-gt-BUDGET.result c.declined-then-budget-gt-BUDGET.ensures

pub returns-then-p-gt-CELLS : goal.returns-then-p-gt-CELLS
returns-then-p-gt-CELLS c = run-declined c.args.mem.now (fresh_with c.args.cells c.args.p) c.args.budget (judged c.args.mem.now (fresh_with c.args.cells c.args.p) c.args.budget (omega arith) (omega arith) false (fresh-too-deep c.args.cells c.args.p (omega arith)) false refl) c.declined-then-p-gt-CELLS.result c.declined-then-p-gt-CELLS.ensures

pub fresh-requires : goal.fresh-requires
fresh-requires c = (judged c.args.mem.now (fresh_with c.args.cells c.args.p) c.args.budget (omega arith) (omega arith) true (fresh-formed c.args.cells c.args.p (omega arith)) true refl)

pub returns : goal.returns
returns c = taken c.args.mem.now (fresh_with c.args.cells c.args.p) c.args.budget (judged c.args.mem.now (fresh_with c.args.cells c.args.p) c.args.budget (omega arith) (omega arith) true (fresh-formed c.args.cells c.args.p (omega arith)) true refl) (after_of c.fresh.new.mem c.fresh.result) c.fresh.ensures
