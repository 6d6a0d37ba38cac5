-- The sample double-sum-counted: + and ADDX, with a 1+ between them, on 1FFFFFFFF and 200000001; and the same with - and SUBX.
use Rattle.std.specs.Prelude.{List, [], ◌∷◌, ℕ}
use Rattle.plain.specs.Zeros.{padded}
use Rattle.machine.specs.Limits.{memory_length}
use Rattle.machine.specs.State.{machine_with}
use Rattle.demands.specs.History.{World, world}
use Rattle.demands.specs.Walk.{ahead, walk}

-- its code, with one code for the low cells and one for the high cells, and its cells
abbrev pub code : ℕ → ℕ → List ℕ
code low high =
    0x38 ∷ 0x00 ∷ 0x00 ∷ 0x05 ∷ 0x3D ∷
    0x07 ∷ 0x03 ∷ 0x07 ∷ low ∷ 0x03 ∷ 0x11 ∷ 0x03 ∷ 0x09 ∷ 0x09 ∷ high ∷ 0x3D ∷ []

abbrev pub cells : List ℕ
cells = 6 ∷ 0xFFFFFFFF ∷ 1 ∷ 1 ∷ 2 ∷ []

abbrev pub start : ℕ → ℕ → World
start low high = world (padded memory_length (code low high)) (machine_with cells)

-- where it comes to the code for the low cells, and to the one for the high cells
abbrev pub at_low : ℕ → ℕ → World
at_low low high = walk 4 (start low high)

abbrev pub at_high : ℕ → ℕ → World
at_high low high = walk 5 (ahead (at_low low high))
