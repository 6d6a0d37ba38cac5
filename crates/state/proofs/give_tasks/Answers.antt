-- The tasks fill the buffer.
use Rattle.machine.specs.Tasks.{tasks_in}
use Rattle.state.specs.Layout.{tasks}
use Rattle.state.specs.Promise.{wrong_size}
use Rattle.state.proofs.Putting.{put_whole}
use Rattle.state.proofs.give_tasks.Goals as goal

pub returns-then-bytes-ne-TASKS : goal.returns-then-bytes-ne-TASKS
returns-then-bytes-ne-TASKS c = wrong_size c.if-bytes-ne-TASKS.true

pub returns : goal.returns
returns c = put_whole tasks (tasks_in c.args.tasks) c.args.bytes.now _ c.if-bytes-ne-TASKS.false c.put.ensures
