-- How long a text can be, from its parts.
use Rattle.std.specs.Prelude.{ℕ, ◌+◌, ◌*◌}
use Rattle.numbers.specs.Digits.{most_decimal}
use Rattle.report.specs.Text.{cell_digits}
use Rattle.links.specs.Depths.{cells_depth}

-- a number, and the character after it
abbrev pub longest_field : ℕ
longest_field = most_decimal + 1

-- so many numbers stand on the line of a run
abbrev pub fields_count : ℕ
fields_count = 10

abbrev pub longest_line : ℕ
longest_line = fields_count * longest_field

-- a cell, and the line feed after it
abbrev pub cell_size : ℕ
cell_size = cell_digits + 1

abbrev pub longest : ℕ
longest = longest_line + cells_depth * cell_size
