-- Numbers of n bytes each, one after the other.
use Rattle.std.specs.Prelude.{List, [], ◌∷◌, ◌++◌, ℕ, zero, suc, ◌+◌, ◌<◌}
use Rattle.numbers.specs.Bytes.{number_at, bytes_of}

-- so many of them from a place on
unfoldable pub list_at : ℕ → ℕ → List ℕ → ℕ → List ℕ
list_at n zero bytes a = []
list_at n (suc count) bytes a = number_at n bytes a ∷ list_at n count bytes (a + n)

-- the bytes of each
unfoldable pub bytes_of_list : ℕ → List ℕ → List ℕ
bytes_of_list n [] = []
bytes_of_list n (v ∷ vs) = bytes_of n v ++ bytes_of_list n vs

-- every number is below a limit
abbrev pub AllBelow : ℕ → List ℕ → Type 0
AllBelow limit [] = Unit {0}
AllBelow limit (v ∷ vs) = (v < limit) × AllBelow limit vs
