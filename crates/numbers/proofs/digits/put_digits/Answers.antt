-- The digits that are left, then those that are put, are all.
use Rattle.std.proofs.Common.{◌∙◌, arith}
use Rattle.numbers.proofs.Filling.{digit-put, none-left}
use Rattle.numbers.proofs.digits.put_digits.Goals as goal

pub loop-place-preserved : goal.loop-place-preserved
loop-place-preserved g c =
    c.loop-place.invariant
    ∙ digit-put g.row.BASE c.loop-place.place c.loop-place.rest c.digit_of.result c.loop-place.digits
    (omega arith) (omega arith) c.digit_of.ensures

pub returns : goal.returns
returns g c =
    none-left g.row.BASE c.loop-place.place c.loop-place.rest c.loop-place.digits _ (omega arith) c.loop-place.invariant
