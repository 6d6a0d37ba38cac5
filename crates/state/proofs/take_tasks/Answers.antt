-- Another length is refused; else the tasks that stand at the front are the whole buffer.
use mathlib.Core.Path.{◌≡◌, ◌∙◌}
use native.Mathlib.Omega.{arith}
use lib.ListN.{length}
use lib.Seq.{take_all}
use Rattle.state.specs.Layout.{tasks}
use Rattle.state.specs.Promise.{not-four, spelled-tasks}
use Rattle.state.proofs.take_tasks.Goals as goal

pub returns-then-bytes-ne-TASKS : goal.returns-then-bytes-ne-TASKS
returns-then-bytes-ne-TASKS c = not-four c.if-bytes-ne-TASKS.true

pub returns : goal.returns
returns c =
    let all = c.read.ensures.1 in
    let long : length c.args.bytes.now ≡ tasks.width = c.if-bytes-ne-TASKS.false in
    spelled-tasks _ long c.read.ensures.0 all.fit (all.spelled ∙ take_all tasks.width c.args.bytes.now (omega arith))
