-- Interrupt lines: request P4. Line n from 1 to 15 calls address 4n.
use Rattle.std.specs.Prelude.{Bool, true, false, List, [], ◌∷◌, ℕ, ◌+◌, ◌-◌, ◌*◌, ◌/◌, ◌%◌, ◌^◌, ltb, leb, eqb}
use Rattle.plain.specs.Choice.{pick, both}
use Rattle.links.specs.Depths.{returns_depth, subroutines_depth}
use Rattle.links.specs.Actions.{call, act}
use Rattle.links.specs.declared.Links.{Links}
use Rattle.machine.specs.declared.Lines.{Lines}
use Rattle.machine.specs.declared.Machine.{Machine}

-- bit n of a number is set
abbrev pub has_bit : ℕ → ℕ → Bool
has_bit n x = eqb (x / 2 ^ n % 2) 1

-- mask and waiting requests are of 16 bits, nothing waits on line 0, and the block is 0 or 1
abbrev pub lines_formed : Lines → Bool
lines_formed l =
    both (ltb l.mask (2 ^ 16)) (both (both (ltb l.waiting (2 ^ 16)) (eqb (l.waiting % 2) 0)) (leb l.block 1))

-- nothing is let in, nothing waits, no routine is in progress
abbrev pub no_lines : Lines
no_lines = record { mask = 0; waiting = 0; block = 0 }

-- the lines, the lowest number first
abbrev pub all_lines : List ℕ
all_lines = 1 ∷ 2 ∷ 3 ∷ 4 ∷ 5 ∷ 6 ∷ 7 ∷ 8 ∷ 9 ∷ 10 ∷ 11 ∷ 12 ∷ 13 ∷ 14 ∷ 15 ∷ []

-- line n waits, and its mask bit is set
abbrev pub is_due : Lines → ℕ → Bool
is_due l n = both (has_bit n l.waiting) (has_bit n l.mask)

-- a line, or none
pub data Line : Type 0 where
  none : Line
  line : ℕ → Line

abbrev pub first_due : Lines → List ℕ → Line
first_due l [] = none
first_due l (n ∷ ns) = pick (is_due l n) (line n) (first_due l ns)

-- the lowest line that waits and is let in
unfoldable pub lowest_due : Lines → Line
lowest_due l = first_due l all_lines

-- R below 64 and S below 32
abbrev pub has_room : Links → Bool
has_room l = both (ltb l.r returns_depth) (ltb l.s subroutines_depth)

-- the line that enters now: none while a routine is in progress, and none without room
unfoldable pub entering : Machine → Line
entering m = pick (both (eqb m.lines.block 0) (has_room m.links)) (lowest_due m.lines) none

-- line n's request, which waits, is cleared, and the block set
abbrev pub serving : ℕ → Lines → Lines
serving n l = record { mask = l.mask; waiting = l.waiting - 2 ^ n; block = 1 }

-- line n enters: what a JSL to 4n does, with the counter itself as return address
abbrev pub entered_by : ℕ → Machine → Machine
entered_by n m =
    record {
      cells = m.cells;
      p = m.p;
      links = act (call m.counter) m.links;
      counter = 4 * n;
      flag = m.flag;
      thrown = m.thrown;
      lines = serving n m.lines;
    }

abbrev pub after_line : Line → Machine → Machine
after_line none m = m
after_line (line n) m = entered_by n m

-- the machine before its next instruction, where lines may enter it and where not
unfoldable pub let_in : Bool → Machine → Machine
let_in true m = after_line (entering m) m
let_in false m = m

-- RTI releases the block
abbrev pub released : Lines → Lines
released l = record { mask = l.mask; waiting = l.waiting; block = 0 }

-- a host raises line n: its request waits, and twice is once
abbrev pub raised : ℕ → ℕ → ℕ
raised n waiting = pick (has_bit n waiting) waiting (waiting + 2 ^ n)
