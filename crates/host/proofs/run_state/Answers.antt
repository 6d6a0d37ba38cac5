-- Each way out hands what the called functions ensure to its law.
use mathlib.Core.Path.{refl}
use Rattle.host.proofs.Handing.{other_result, other-state}
use Rattle.host.proofs.run_state.Goals as goal

pub returns-then-res-ne-RESULT : goal.returns-then-res-ne-RESULT
returns-then-res-ne-RESULT c = other_result c.args.state.now c.args.memory.now c.args.budget c.args.sum c.args.res.now c.if-res-ne-RESULT.true

pub returns-in-Err : goal.returns-in-Err
returns-in-Err c = other-state c.args.state.now c.args.memory.now c.args.budget c.args.sum c.args.res.now _ _ _ (rw c.in-Err.is at c.take-taken.ensures) refl

pub run_taken-requires : goal.run_taken-requires
run_taken-requires c = (rw c.in-Ok.is at c.take-taken.ensures, c.if-res-ne-RESULT.false)
