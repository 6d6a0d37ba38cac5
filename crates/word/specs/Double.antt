-- A number of 64 bits, as its low and its high cell.
use Rattle.std.specs.Prelude.{ℕ, ◌+◌, ◌*◌, ◌^◌}

abbrev pub double : ℕ → ℕ → ℕ
double low high = low + high * 2 ^ 32
