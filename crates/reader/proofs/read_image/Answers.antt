-- Each way out hands what the called functions ensure to its law.
use native.Mathlib.Omega.{arith}
use Rattle.state.proofs.Putting.{is_written}
use Rattle.state.proofs.Telling.{answered_err}
use Rattle.reader.proofs.HandingOut.{other-state, other_result, not-read, handed_out_lem}
use Rattle.reader.proofs.read_image.Goals as goal

pub returns-then-state-ne-SIZE : goal.returns-then-state-ne-SIZE
returns-then-state-ne-SIZE c =
    other-state c.args.image.now c.args.memory.now c.args.state.now c.args.res.now c.if-state-ne-SIZE.true

pub returns-then-res-ne-RESULT : goal.returns-then-res-ne-RESULT
returns-then-res-ne-RESULT c =
    other_result c.args.image.now c.args.memory.now c.args.state.now c.args.res.now c.if-res-ne-RESULT.true

pub returns-in_err-loaded : goal.returns-in_err-loaded
returns-in_err-loaded c =
    rw (answered_err _ _ c.from_residual.ensures.1)
    (not-read c.args.image.now c.args.memory.now c.args.state.now c.args.res.now _ c.read-loaded.result c.if-state-ne-SIZE.false
    c.if-res-ne-RESULT.false c.read-loaded.ensures _ c.in_err-loaded.was)

pub unwrap-requires-2 : goal.unwrap-requires-2
unwrap-requires-2 c = is_written 8 c.read-loaded.result.budget c.args.res.now 0 _ _ (omega arith) c.write.ensures

pub unwrap-requires-3 : goal.unwrap-requires-3
unwrap-requires-3 c = is_written 8 c.read-loaded.result.sum c.write.new.bytes 8 _ _ (omega arith) c.write-2.ensures

pub returns : goal.returns
returns c =
    handed_out_lem c.args.image.now c.args.memory.now c.args.state.now c.args.res.now _ c.read-loaded.result c.if-state-ne-SIZE.false
    c.if-res-ne-RESULT.false c.read-loaded.ensures _ _ _ _ c.in_ok-loaded.was c.give.ensures c.write.ensures c.write-2.ensures
