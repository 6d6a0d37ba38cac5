-- How much was read: no more than the buffer holds.
use Rattle.std.specs.Prelude.{List, ℕ, ◌≤◌, length, Option, Some, None}

abbrev pub Within : List ℕ → Option ℕ → Type 0
Within buffer (Some count) = count ≤ length buffer
Within buffer None = Unit {0}
