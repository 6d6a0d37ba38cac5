-- The text that the bench program prints, as ASCII bytes: document 01, "Image file".
use Rattle.std.specs.Prelude.{List, [], ◌∷◌, ◌++◌, ℕ, take}
use Rattle.numbers.specs.Digits.{decimal, hexadecimal}
use Rattle.machine.specs.declared.Ran.{Ran}

abbrev pub space : ℕ
space = 0x20

abbrev pub line_feed : ℕ
line_feed = 0x0A

-- a number in decimal and the character after it
unfoldable pub field : ℕ → ℕ → List ℕ
field n end = decimal n ++ (end ∷ [])

-- numbers with single spaces between them, and a line feed
unfoldable pub line : List ℕ → List ℕ
line [] = []
line (n ∷ []) = field n line_feed
line (n ∷ m ∷ ns) = field n space ++ line (m ∷ ns)

-- the hexadecimal digits of a cell
abbrev pub cell_digits : ℕ
cell_digits = 8

-- a parameter cell: its digits and a line feed
unfoldable pub cell_line : ℕ → List ℕ
cell_line v = hexadecimal cell_digits v ++ (line_feed ∷ [])

unfoldable pub cell_lines : List ℕ → List ℕ
cell_lines [] = []
cell_lines (v ∷ vs) = cell_line v ++ cell_lines vs

-- answer, steps, cycles, program counter, P, R, S, E; with request P6 the address and the code of the last THROW of non-zero
abbrev pub numbers_of : Ran → List ℕ
numbers_of ran =
    ran.answer ∷ ran.steps.0 ∷ ran.cycles.0 ∷ ran.machine.counter ∷
    ran.machine.p ∷ ran.machine.links.r ∷ ran.machine.links.s ∷ ran.machine.links.e ∷
    ran.machine.thrown.address ∷ ran.machine.thrown.code ∷ []

-- the text of a run: its numbers, then each parameter cell, deepest first
unfoldable pub text_of : Ran → List ℕ
text_of ran = line (numbers_of ran) ++ cell_lines (take ran.machine.p ran.machine.cells)

-- the text of a refused image: only the number
unfoldable pub refusal_text : ℕ → List ℕ
refusal_text number = field number line_feed
