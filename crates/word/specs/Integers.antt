-- The integer that a number stands for in two's complement.
use Rattle.std.specs.Prelude.{ℕ, ◌+◌, ◌^◌, cond, ℤ, pos, ◌-ℤ◌, nat_lt}

-- a number of a range whose upper half stands for the negative ones: x, or x less the range
abbrev pub signed_at : ℕ → ℕ → ℤ
signed_at half x = cond (nat_lt x half) (pos x) (pos x -ℤ pos (half + half))

-- the integer that a cell holds
abbrev pub signed : ℕ → ℤ
signed x = signed_at (2 ^ 31) x
