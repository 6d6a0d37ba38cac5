-- The state's well-formedness, and the fresh machine: document 01, "The machine".
use Rattle.std.specs.Prelude.{Bool, List, [], ◌≡◌, ℕ, leb, length}
use Rattle.plain.specs.Choice.{both}
use Rattle.plain.specs.Zeros.{padded}
use Rattle.links.specs.Depths.{cells_depth}
use Rattle.links.specs.Linked.{linked, Shaped}
use Rattle.links.specs.Fresh.{fresh_links}
use Rattle.machine.specs.Lines.{lines_formed, no_lines}
use Rattle.machine.specs.declared.LastThrow.{LastThrow}
use Rattle.machine.specs.declared.Machine.{Machine}

-- P within its depth, the flag 0 or 1, the interrupt lines and the linked stacks well formed
unfoldable pub well_formed : Machine → Bool
well_formed m = both (leb m.p cells_depth) (both (leb m.flag 1) (both (lines_formed m.lines) (linked m.links)))

-- the lists are as long as the arrays that they stand for
pub record Whole (m : Machine) : Type 0 where
  pub cells-long : length m.cells ≡ cells_depth
  pub shaped : Shaped m.links

-- request P6: no THROW of non-zero was carried out yet
abbrev pub no_throw : LastThrow
no_throw = record { address = 0; code = 0 }

-- a fresh machine but for its parameter cells and their depth
abbrev pub fresh_with : List ℕ → ℕ → Machine
fresh_with cells p = record { cells = cells; p = p; links = fresh_links; counter = 0; flag = 0; thrown = no_throw; lines = no_lines }

-- a fresh machine but for these parameter cells, deepest first
unfoldable pub machine_with : List ℕ → Machine
machine_with cells = fresh_with (padded cells_depth cells) (length cells)

-- every number zero
unfoldable pub fresh_machine : Machine
fresh_machine = machine_with []
