-- The kept number is put where the machine ends.
use Rattle.machine.specs.Tasks.{task_of}
use Rattle.state.specs.Layout.{task_fields}
use Rattle.state.proofs.Putting.{none, ◌then◌, ◌first◌, fields-put}
use Rattle.state.proofs.tasks.put_task.Goals as goal

pub returns : goal.returns
returns c =
    fields-put task_fields (task_of c.args.machine.now c.args.kept) c.args.state.now c.args.at _
    (c.put.ensures first c.put-2.ensures then none)
