-- A line of text as ASCII bytes, with numbers in decimal in it.
use Rattle.std.specs.Prelude.{List, [], ◌∷◌, ◌++◌, ℕ, eqb}
use Prim.Native.Char.{code}
use Prim.Native.String.{String, [] as none, ◌∷◌ as ◌then◌}
use Rattle.plain.specs.Choice.{pick}
use Rattle.numbers.specs.Digits.{decimal}

-- the characters of a text
abbrev pub characters : String → List ℕ
characters none = []
characters (c then rest) = code c ∷ characters rest

-- the character that a number takes the place of: #
abbrev pub mark : ℕ
mark = 0x23

-- words with a number in place of each mark, in their order
unfoldable pub filled : List ℕ → List ℕ → List ℕ
filled [] numbers = []
filled (c ∷ words) [] = c ∷ filled words []
filled (c ∷ words) (n ∷ numbers) = pick (eqb c mark) (decimal n ++ filled words numbers) (c ∷ filled words (n ∷ numbers))

abbrev pub told : String → List ℕ → List ℕ
told words numbers = filled (characters words) numbers
