-- How deep each stack may grow, and what a level holds: document 01, "The machine".
use Rattle.std.specs.Prelude.{ℕ, suc, ◌-◌}

-- the parameter stack, the return stack, the subroutine stack, the exception stack
abbrev pub cells_depth : ℕ
cells_depth = 64

abbrev pub returns_depth : ℕ
returns_depth = 64

abbrev pub subroutines_depth : ℕ
subroutines_depth = 32

abbrev pub exceptions_depth : ℕ
exceptions_depth = 8

-- a copy of P leaves room for the code that a THROW pushes
abbrev pub most_copy_of_p : ℕ
most_copy_of_p = cells_depth - 1

-- level 0 is there too: one more than the depths
abbrev pub frames_count : ℕ
frames_count = suc subroutines_depth

abbrev pub levels_count : ℕ
levels_count = suc exceptions_depth

-- the local cells of a subroutine level, the cells of an exception level
abbrev pub locals_count : ℕ
locals_count = 16

abbrev pub level_cells : ℕ
level_cells = 8
