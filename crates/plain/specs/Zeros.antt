-- Numbers, and then zeros.
use Rattle.std.specs.Prelude.{List, ◌++◌, ℕ, ◌-◌, length, replicate}

-- these numbers, then zeros up to this length
unfoldable pub padded : ℕ → List ℕ → List ℕ
padded size numbers = numbers ++ replicate (size - length numbers) 0
