-- Products of 64 bits: the low cell under, the high cell on top; the flag stays as it came.
use Rattle.std.specs.Prelude.{ℕ, ◌+◌, ◌-◌, ◌*◌, ◌/◌, ◌%◌, ◌^◌}
use Rattle.word.specs.declared.Outcome.{Outcome}
use Rattle.word.specs.declared.Outcome.TheVariants.{Double}

-- a number of 64 bits as two cells
abbrev pub cells_of : ℕ → ℕ → Outcome
cells_of product flag = Double (product % 2 ^ 32) (product / 2 ^ 32) flag

-- a cell with its sign carried on to 64 bits
abbrev pub wide : ℕ → ℕ
wide x = x + x / 2 ^ 31 * (2 ^ 64 - 2 ^ 32)

-- MULTS
abbrev pub multiply_signed_of : ℕ → ℕ → ℕ → Outcome
multiply_signed_of x y flag = cells_of (wide x * wide y % 2 ^ 64) flag

-- MULTU
abbrev pub multiply_unsigned_of : ℕ → ℕ → ℕ → Outcome
multiply_unsigned_of x y flag = cells_of (x * y) flag
