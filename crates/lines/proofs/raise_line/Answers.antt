-- Another length, no line's number, or the requests written.
use mathlib.Core.Path.{sym, ap, ◌∙◌}
use native.Mathlib.Omega.{arith}
use Rattle.machine.specs.Refusals.{says}
use Rattle.state.proofs.Telling.{answered_err}
use Rattle.state.proofs.Standing.{there-is, unwrapped}
use Rattle.state.proofs.Putting.{is_written}
use Rattle.lines.specs.Bytes.{waiting_place}
use Rattle.lines.proofs.Changing.{raise-no-state, raise-no-line, line-raised}
use Rattle.lines.proofs.raise_line.Goals as goal

pub returns-then-state-ne-SIZE : goal.returns-then-state-ne-SIZE
returns-then-state-ne-SIZE c = raise-no-state c.args.line c.args.state.now c.if-state-ne-SIZE.true

pub unwrap-waiting-requires : goal.unwrap-waiting-requires
unwrap-waiting-requires c = there-is 4 c.args.state.now waiting_place (omega arith) _ c.read.ensures

pub returns-in_err-after : goal.returns-in_err-after
returns-in_err-after c =
    rw (answered_err _ _ c.from_residual.ensures.1)
    (raise-no-line c.args.line c.args.state.now c.if-state-ne-SIZE.false (unwrapped 4 c.args.state.now waiting_place (omega arith) _ _ c.unwrap-waiting.ensures c.read.ensures)
    (ap says (sym c.in_err-after.was) ∙ c.raise.ensures))

pub unwrap-requires : goal.unwrap-requires
unwrap-requires c = is_written 4 c.in_ok-after.after c.args.state.now waiting_place _ _ (omega arith) c.write.ensures

pub returns : goal.returns
returns c =
    line-raised c.args.line c.args.state.now c.if-state-ne-SIZE.false (unwrapped 4 c.args.state.now waiting_place (omega arith) _ _ c.unwrap-waiting.ensures c.read.ensures)
    c.in_ok-after.ensures c.write.ensures
