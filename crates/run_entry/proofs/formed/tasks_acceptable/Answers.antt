-- Clause by clause, in order.
use mathlib.Core.Bool.{false}
use mathlib.Core.Path.{refl, ap, sym, ◌∙◌}
use borrow.Author.Tests.{le-leb, lt-leb}
use lib.Dec.{leb}
use Rattle.plain.specs.Choice.{both}
use Rattle.machine.specs.Limits.{most_sum}
use Rattle.machine.specs.Tasks.{tasks_in, tasks_acceptable}
use native.Mathlib.Omega.{arith}
use Rattle.machine.proofs.Laws.Clash.{clash}
use Rattle.run_words.specs.Laws.Entry.{quantum-good, quantum-none, quantum-long, tasks-wrong-length, tasks-wrong-budget, tasks-wrong-quantum, tasks-judged}
use Rattle.run_words.specs.Laws.Filled.{length-mapped}
use borrow.Author.Rules.{rules}
use Rattle.run_entry.proofs.formed.tasks_acceptable.Goals as goal

pub returns-then-length-ne-MEMORY : goal.returns-then-length-ne-MEMORY
returns-then-length-ne-MEMORY c = (λ mem is. sym (ap (λ b. both (leb c.args.sum most_sum) b) ((tasks-wrong-length mem c.args.four c.args.quantum c.args.budget (λ long. c.if-length-ne-MEMORY.true (sym is ∙ long)))) ∙ ap (λ b. both b false) (le-leb c.args.sum most_sum (omega arith))), λ b. clash false b refl)

pub returns-then-budget-gt-BUDGET : goal.returns-then-budget-gt-BUDGET
returns-then-budget-gt-BUDGET c = (λ mem is. sym (ap (λ b. both (leb c.args.sum most_sum) b) ((tasks-wrong-budget mem c.args.four c.args.quantum c.args.budget (is ∙ omega arith) (omega arith))) ∙ ap (λ b. both b false) (le-leb c.args.sum most_sum (omega arith))), λ b. clash false b refl)

pub returns-then-quantum-lt1 : goal.returns-then-quantum-lt1
returns-then-quantum-lt1 c = (λ mem is. sym (ap (λ b. both (leb c.args.sum most_sum) b) ((tasks-wrong-quantum mem c.args.four c.args.quantum c.args.budget (is ∙ omega arith) (omega arith) (quantum-none c.args.quantum (omega arith)) refl)) ∙ ap (λ b. both b false) (le-leb c.args.sum most_sum (omega arith))), λ b. clash false b refl)

pub returns-then-quantum-gt-QUANTUM : goal.returns-then-quantum-gt-QUANTUM
returns-then-quantum-gt-QUANTUM c = (λ mem is. sym (ap (λ b. both (leb c.args.sum most_sum) b) ((tasks-wrong-quantum mem c.args.four c.args.quantum c.args.budget (is ∙ omega arith) (omega arith) (quantum-long c.args.quantum (omega arith)) refl)) ∙ ap (λ b. both b false) (le-leb c.args.sum most_sum (omega arith))), λ b. clash false b refl)

pub returns : goal.returns
returns c = (λ mem is. sym (ap (λ b. both (leb c.args.sum most_sum) b) (tasks-judged mem c.args.four c.args.quantum c.args.budget (is ∙ omega arith) (omega arith) (quantum-good c.args.quantum (omega arith) (omega arith)) (search (rules, length-mapped)) (search (rules, length-mapped)) refl c.tasks.ensures.0 refl) ∙ ap (λ b. both b c.tasks.result) (le-leb c.args.sum most_sum (omega arith))), c.tasks.ensures.1)
