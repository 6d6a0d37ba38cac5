-- The machine fills the buffer.
use Rattle.state.specs.Layout.{state}
use Rattle.state.specs.Promise.{wrong_size}
use Rattle.state.proofs.Putting.{put_whole}
use Rattle.state.proofs.give.Goals as goal

pub returns-then-state-ne-SIZE : goal.returns-then-state-ne-SIZE
returns-then-state-ne-SIZE c = wrong_size c.if-state-ne-SIZE.true

pub returns : goal.returns
returns c = put_whole state c.args.machine c.args.state.now _ c.if-state-ne-SIZE.false c.put.ensures
