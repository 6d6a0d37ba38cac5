-- The line that enters, by the numbers that decide it, and a line that is raised.
use Rattle.std.specs.Prelude.{Option, Some, None, Bool, ℕ, ltb, leb, eqb}
use Rattle.plain.specs.Answer.{Answer, refuses, gives, not_as_asked}
use Rattle.plain.specs.Choice.{pick, both}
use Rattle.links.specs.Depths.{returns_depth, subroutines_depth}
use Rattle.machine.specs.Lines.{Line, none, line, lowest_due, raised}
use Rattle.machine.specs.declared.Lines.{Lines}

abbrev pub says_due : Option ℕ → Line
says_due None = none
says_due (Some n) = line n

-- with these lines, at these depths R and S
unfoldable pub entering_with : Lines → ℕ → ℕ → Line
entering_with lines r s =
    pick (both (eqb lines.block 0) (both (ltb r returns_depth) (ltb s subroutines_depth))) (lowest_due lines) none

-- lines are numbered from 1 to 15
abbrev pub is_line : ℕ → Bool
is_line n = both (leb 1 n) (leb n 15)

-- the requests that wait once this line is raised
unfoldable pub raised_by : ℕ → ℕ → Answer ℕ
raised_by n waiting = pick (is_line n) (gives (raised n waiting)) (refuses not_as_asked)
