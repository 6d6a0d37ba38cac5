-- Shifts by one place, and sign extension; the flag stays as it came.
use Rattle.std.specs.Prelude.{ℕ, ◌+◌, ◌-◌, ◌*◌, ◌/◌, ◌%◌, ◌^◌}
use Rattle.word.specs.declared.Changed.{Changed}

-- 2/: bits 31 to 1 go to bits 30 to 0, and bit 31 stays
abbrev pub halve_of : ℕ → ℕ → Changed
halve_of x flag = record { value = x / 2 + x / 2 ^ 31 * 2 ^ 31; flag = flag }

-- LSL: bit 0 becomes 0
abbrev pub shift_left_of : ℕ → ℕ → Changed
shift_left_of x flag = record { value = x * 2 % 2 ^ 32; flag = flag }

-- LSR: bit 31 becomes 0
abbrev pub shift_right_of : ℕ → ℕ → Changed
shift_right_of x flag = record { value = x / 2; flag = flag }

-- XBYTE: the low byte, and bit 7 in each bit above it
abbrev pub extend_byte_of : ℕ → ℕ → Changed
extend_byte_of x flag = record { value = x % 2 ^ 8 + x / 2 ^ 7 % 2 * (2 ^ 32 - 2 ^ 8); flag = flag }

-- XWORD: the low two bytes, and bit 15 in each bit above it
abbrev pub extend_word_of : ℕ → ℕ → Changed
extend_word_of x flag = record { value = x % 2 ^ 16 + x / 2 ^ 15 % 2 * (2 ^ 32 - 2 ^ 16); flag = flag }
