-- Numbers as ASCII characters, the highest digit first.
use Rattle.std.specs.Prelude.{List, [], ◌∷◌, ◌++◌, ℕ, zero, suc, ◌+◌, ◌-◌, ◌/◌, ◌%◌, ltb}
use Rattle.plain.specs.Choice.{pick}

-- the character of a digit: 0 to 9, then A to F
abbrev pub digit : ℕ → ℕ
digit d = pick (ltb d 10) (0x30 + d) (0x41 + (d - 10))

-- a number with at most so many decimal digits, and no zero in front but for 0 itself
unfoldable pub digits : ℕ → ℕ → List ℕ
digits zero n = []
digits (suc most) n = pick (ltb n 10) (digit n ∷ []) (digits most (n / 10) ++ (digit (n % 10) ∷ []))

-- so many digits hold every number below 2 ^ 64
abbrev pub most_decimal : ℕ
most_decimal = 20

unfoldable pub decimal : ℕ → List ℕ
decimal n = digits most_decimal n

-- the lowest digits of a number to the base 16, zeros in front kept
unfoldable pub hexadecimal : ℕ → ℕ → List ℕ
hexadecimal zero v = []
hexadecimal (suc count) v = hexadecimal count (v / 16) ++ (digit (v % 16) ∷ [])
