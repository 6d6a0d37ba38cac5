-- Digits to a base, by which the code makes both decimal and hexadecimal ones.
use Rattle.std.specs.Prelude.{List, [], ◌∷◌, ◌++◌, ℕ, zero, suc, ◌/◌, ◌%◌}
use Rattle.numbers.specs.Digits.{digit}

-- the same to any base of at most 16
unfoldable pub in_base : ℕ → ℕ → ℕ → List ℕ
in_base base zero v = []
in_base base (suc count) v = in_base base count (v / base) ++ (digit (v % base) ∷ [])
