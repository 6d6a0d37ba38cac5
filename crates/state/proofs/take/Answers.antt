-- Another length is refused; else the machine that stands at the front is the whole state.
use mathlib.Core.Path.{◌≡◌, ◌∙◌}
use native.Mathlib.Omega.{arith}
use lib.ListN.{length}
use lib.Seq.{take_all}
use Rattle.state.specs.Layout.{state}
use Rattle.state.specs.Promise.{wrong-length, spelled}
use Rattle.state.proofs.take.Goals as goal

pub returns-then-state-ne-SIZE : goal.returns-then-state-ne-SIZE
returns-then-state-ne-SIZE c = wrong-length c.if-state-ne-SIZE.true

pub returns : goal.returns
returns c =
    let all = c.read.ensures in
    let long : length c.args.state.now ≡ state.width = c.if-state-ne-SIZE.false in
    spelled _ long all.fit (all.spelled ∙ take_all state.width c.args.state.now (omega arith))
