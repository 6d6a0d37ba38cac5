-- How a test becomes a cell, and how it becomes a flag.
use Rattle.std.specs.Prelude.{ℕ, ◌-◌, ◌^◌, Bool, true, false}

-- true is all ones
abbrev pub truth_of : Bool → ℕ
truth_of true = 2 ^ 32 - 1
truth_of false = 0

-- a carry or a borrow in the flag
abbrev pub bit_of : Bool → ℕ
bit_of true = 1
bit_of false = 0
