-- Before pass i the first i tasks stand in the state.
use mathlib.Core.List.{List}
use mathlib.Core.Path.{refl, sym, subst, ◌∙◌}
use Prim.Native.Nat.{◌+◌}
use native.Mathlib.Omega.{arith}
use lib.ListN.{length-set}
use Rattle.machine.specs.Limits.{tasks_count}
use Rattle.machine.specs.Tasks.{Task, task_of}
use Rattle.machine.proofs.Laws.Pairs.{paired-set}
use Rattle.state.specs.Layout.{task_fields, task}
use Rattle.state.specs.Laws.Sound.{◌and◌}
use Rattle.state.proofs.Standing.{fields-stand, Filling, filling-none, filling-more, filling-all}
use Rattle.state.proofs.tasks.read.Goals as goal

pub loop-i-init : goal.loop-i-init
loop-i-init c = (
  record { machines-long = refl; kept-long = refl },
  filling-none task c.args.state.now c.args.from tasks_count _ refl,
)

pub loop-i-preserved : goal.loop-i-preserved
loop-i-preserved c = (
  record {
    machines-long = length-set c.loop-i.machines c.loop-i.i c.read.result ∙ c.loop-i.invariant.0.machines-long;
    kept-long = length-set c.loop-i.kept c.loop-i.i c.read-in-loop-i.result ∙ c.loop-i.invariant.0.kept-long;
  },
  subst (λ (xs : List Task). Filling task c.args.state.now c.args.from tasks_count xs (c.loop-i.i + 1))
      (sym (paired-set c.loop-i.machines c.loop-i.kept c.loop-i.i c.read.result c.read-in-loop-i.result))
      (filling-more task c.args.state.now c.args.from tasks_count c.loop-i.invariant.1 (omega arith)
      (task_of c.read.result c.read-in-loop-i.result)
      (fields-stand task_fields c.args.state.now _ (task_of c.read.result c.read-in-loop-i.result) (c.read.ensures and c.read-in-loop-i.ensures and tt))),
)

pub returns : goal.returns
returns c = (c.loop-i.invariant.0, filling-all task c.args.state.now c.args.from tasks_count c.loop-i.invariant.1 (omega arith))
