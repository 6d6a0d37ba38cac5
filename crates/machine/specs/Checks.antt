-- The tests before an instruction is carried out, in document 01's order, with request P1's number 17 for bytes of another's part and
-- request P4's number 16 for RTI: the first that holds gives the answer.
use Rattle.std.specs.Prelude.{Bool, true, false, List, [], ◌∷◌, ℕ, ◌+◌, ltb, leb, eqb, length}
use Rattle.plain.specs.Choice.{pick, both, not, decided}
use Rattle.links.specs.Depths.{cells_depth, returns_depth, subroutines_depth, exceptions_depth}
use Rattle.links.specs.Actions.{Act, still, push, call, catch, exit, pop, throw, keep, reset}
use Rattle.machine.specs.Reach.{bar_of, is_outside, is_foreign}
use Rattle.machine.specs.Codes.{entry_at}
use Rattle.machine.specs.Fetch.{Instruction}
use Rattle.machine.specs.Rows.{Row, Lack, a_return_cell, a_place, a_divisor, a_routine, Lack-discrete}
use Rattle.machine.specs.declared.Machine.{Machine}

-- what an action needs of the linked stacks
pub data Need : Type 0 where
  -- a subroutine level to leave, an exception level to throw to
  a_frame a_level : Need
  -- room for a return cell, for a subroutine level, for an exception level
  return_room frame_room level_room : Need
  deriving Discrete as Need-discrete

abbrev pub needs : Act → List Need
needs still = []
needs (push x) = return_room ∷ []
needs (call address) = return_room ∷ frame_room ∷ []
needs (catch address p) = return_room ∷ frame_room ∷ level_room ∷ []
needs exit = a_frame ∷ []
needs pop = []  -- its return cell is what the row lacks, as with R@
needs throw = a_level ∷ []
needs (keep locals cells) = []
needs reset = []

abbrev pub among : Need → List Need → Bool
among x [] = false
among x (y ∷ ys) = pick (decided (Need-discrete x y)) true (among x ys)

-- what the row's action needs, what the row lacks
abbrev pub wants : Row → Need → Bool
wants row need = among need (needs row.link)

abbrev pub lacks : Row → Lack → Bool
lacks row lack = decided (Lack-discrete row.lack lack)

-- a test that answers with its number where it holds
pub record Test : Type 0 where
  pub number : ℕ
  pub holds : Bool

abbrev pub test : ℕ → Bool → Test
test number holds = record { number = number; holds = holds }

abbrev pub tests : Instruction → Machine → Row → List Test
tests i m row =
    -- the first byte of the instruction that may not be read is outside memory, is in another's part
    test 3 (is_outside i.bar) ∷
    test 17 (is_foreign i.bar) ∷
    -- EXIT with S = 0: the end of the program
    test 0 (both (wants row a_frame) (eqb m.links.s 0)) ∷
    -- unknown code
    test 4 (not (entry_at i.code).known) ∷
    -- RTI with no routine in progress, or with S = 0
    test 16 (lacks row a_routine) ∷
    -- fewer parameter cells than the code takes
    test 5 (ltb m.p (entry_at i.code).takes) ∷
    -- R> or R@ with R = 0
    test 6 (lacks row a_return_cell) ∷
    -- THROW of non-zero with E = 0
    test 7 (both (wants row a_level) (eqb m.links.e 0)) ∷
    -- P would pass 64
    test 8 (ltb cells_depth (row.keeps + length row.puts)) ∷
    -- R would pass 64
    test 9 (both (wants row return_room) (leb returns_depth m.links.r)) ∷
    -- S would pass 32
    test 10 (both (wants row frame_room) (leb subroutines_depth m.links.s)) ∷
    -- E would pass 8
    test 11 (both (wants row level_room) (leb exceptions_depth m.links.e)) ∷
    -- address neither in memory nor in view
    test 12 (lacks row a_place) ∷
    -- divisor zero
    test 13 (lacks row a_divisor) ∷
    -- an access touches another's part
    test 17 (is_foreign (bar_of i.reach row.from row.touches)) ∷ []
