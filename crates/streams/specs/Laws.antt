-- What was read is a part of the buffer that can be lent on.
use Rattle.std.specs.Prelude.{List, ◌≡◌, ℕ, ◌≤◌, length, take, Option, Some}
use Rattle.std.proofs.Common.{sym, subst, length-take-le}
use Rattle.streams.specs.Input.{Within}

module _ (buffer : List ℕ) (r : Option ℕ) (count : ℕ) (within : Within buffer r) (is : r ≡ Some count) where
  pub read-inside : count ≤ length buffer
  read-inside = subst (Within buffer) is within

  pub read-counted : count ≡ length (take count buffer)
  read-counted = sym (length-take-le count buffer read-inside)
