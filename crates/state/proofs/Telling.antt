-- What a call that stands on this crate makes of its answers.
use Rattle.std.specs.Prelude.{Result, Ok, Err, IsErrAnd}
use mathlib.Core.Path.{◌≡◌, ap}
use Rattle.machine.specs.Refusals.{number_of}
use Rattle.machine.specs.declared.refusal.Refusal.{Refusal}
use Rattle.state.specs.Answered.{answered}

-- the number that a host is told of a refusal that was handed on
pub answered_err : (r : Result (Unit {0}) Refusal) (why : Refusal) → IsErrAnd r (λ w. w ≡ why) → answered r ≡ number_of why
answered_err (Ok done) why is = elim is [ ]
answered_err (Err w) why is = ap number_of is
