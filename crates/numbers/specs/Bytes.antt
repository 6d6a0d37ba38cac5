-- Numbers as bytes, the highest byte first.
use Rattle.std.specs.Prelude.{List, [], ◌∷◌, ℕ, zero, suc, ◌+◌, ◌*◌, ◌/◌, ◌%◌, ◌^◌, get_or}

-- the byte at a place
abbrev pub byte_at : List ℕ → ℕ → ℕ
byte_at bytes a = get_or bytes a 0

-- the number that n bytes spell from a place on: the bytes before the last, then the last
abbrev pub number_at : ℕ → List ℕ → ℕ → ℕ
number_at zero bytes a = 0
number_at (suc zero) bytes a = byte_at bytes a
number_at (suc (suc n)) bytes a = number_at (suc n) bytes a * 2 ^ 8 + byte_at bytes (a + suc n)

-- the n lowest bytes of a number
abbrev pub bytes_of : ℕ → ℕ → List ℕ
bytes_of zero v = []
bytes_of (suc zero) v = v % 2 ^ 8 ∷ []
bytes_of (suc (suc n)) v = v / 2 ^ (8 * suc n) % 2 ^ 8 ∷ bytes_of (suc n) v
