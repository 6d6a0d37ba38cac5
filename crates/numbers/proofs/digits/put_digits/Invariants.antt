-- The digits that are left, then those that are put, are all.
use Rattle.std.proofs.Common.{◌≡◌, ◌++◌, length, drop}
use Rattle.numbers.specs.Laws.Base.{in_base}
use Rattle.numbers.proofs.digits.put_digits.Given as goal

abbrev pub invariant-loop-place : goal.invariant-loop-place
invariant-loop-place g l =
    in_base g.row.BASE (length l.initial.digits) l.fn.value ≡ in_base g.row.BASE l.place l.rest ++ drop l.place l.digits
