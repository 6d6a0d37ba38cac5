-- Operations on the bits of cells, each bit for itself; the flag stays as it came.
use Rattle.std.specs.Prelude.{ℕ, ◌-◌, ◌^◌, bit_and, bit_or, bit_xor}
use Rattle.word.specs.declared.Changed.{Changed}
use Rattle.word.specs.declared.Outcome.{Outcome}
use Rattle.word.specs.declared.Outcome.TheVariants.{Single}

-- AND
abbrev pub and_bits_of : ℕ → ℕ → ℕ → Outcome
and_bits_of x y flag = Single (bit_and x y) flag

-- OR
abbrev pub or_bits_of : ℕ → ℕ → ℕ → Outcome
or_bits_of x y flag = Single (bit_or x y) flag

-- INVERT
abbrev pub invert_of : ℕ → ℕ → Changed
invert_of x flag = record { value = 2 ^ 32 - 1 - x; flag = flag }

-- XOR
abbrev pub xor_bits_of : ℕ → ℕ → ℕ → Outcome
xor_bits_of x y flag = Single (bit_xor x y) flag
