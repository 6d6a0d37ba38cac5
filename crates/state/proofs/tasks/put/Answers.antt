-- Before pass i the first i tasks have been put.
use mathlib.Core.Path.{refl}
use native.Mathlib.Omega.{arith}
use Rattle.machine.specs.Limits.{tasks_count}
use Rattle.machine.specs.Tasks.{paired, no_task}
use Rattle.machine.proofs.Laws.Pairs.{paired-length}
use Rattle.state.specs.Layout.{task}
use Rattle.state.proofs.Pairs.{pair_put}
use Rattle.state.proofs.Putting.{putting-none, putting-more, putting-all}
use Rattle.state.proofs.tasks.put.Goals as goal

pub loop-i-init : goal.loop-i-init
loop-i-init c =
    putting-none task c.args.state.now c.args.from tasks_count (paired c.args.machines.now c.args.kept.now)
    (paired-length c.args.machines.now c.args.kept.now (omega arith) (omega arith))

pub loop-i-preserved : goal.loop-i-preserved
loop-i-preserved c =
    putting-more task c.args.state.now c.args.from tasks_count (paired c.args.machines.now c.args.kept.now) c.loop-i.invariant (omega arith) _ no_task refl
    (pair_put c.args.machines.now c.args.kept.now c.loop-i.i (omega arith) c.put_task.ensures)

pub returns : goal.returns
returns c = putting-all task c.args.state.now c.args.from tasks_count (paired c.args.machines.now c.args.kept.now) c.loop-i.invariant (omega arith)
