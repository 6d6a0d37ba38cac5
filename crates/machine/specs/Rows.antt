-- What each instruction does, a row for each: document 01, "Codes" and "Linked stacks". Stack comments read top last.
use Rattle.std.specs.Prelude.{Bool, true, false, List, [], ◌∷◌, ◌++◌, ℕ, ◌-◌, eqb, get_or, take, drop}
use Rattle.std.proofs.lemmas.List.Edits.{sets}
use Rattle.plain.specs.Choice.{pick}
use Rattle.numbers.specs.Bytes.{number_at, bytes_of}
use Rattle.links.specs.Depths.{locals_count}
use Rattle.links.specs.Linked.{frame_at, level_at, copy_of_p}
use Rattle.links.specs.Actions.{Act, still, push, call, catch, exit, pop, throw, keep, reset}
use Rattle.word.specs.Dispatch.{one_cell_of, two_cells_of}
use Rattle.word.specs.declared.Changed.{Changed}
use Rattle.word.specs.declared.Outcome.{Outcome}
use Rattle.word.specs.declared.Outcome.TheVariants.{Single, Double, DivisorZero}
use Rattle.machine.specs.Codes.{Shuffle, NOP, DROP, DUP, SWAP, OVER, NIP, ROT, PSP-AT, ZERO, DUP-NONZERO, PAUSE, Jump, JMP, BEQ, BRA, Link, >R, R-AT, R>, CATCH, RESETSP, THROW, JSL, JSR, EXIT, RTI, Op, SHUFFLE, JUMP, LINK, ONE, TWO, FETCH, STORE, LITERAL, entry_at}
use Rattle.machine.specs.Memory.{size, place_of}
use Rattle.machine.specs.View.{bytes_of_cells, overwritten}
use Rattle.machine.specs.Fetch.{Instruction}
use Rattle.machine.specs.declared.Machine.{Machine}
use Rattle.machine.specs.declared.Width.{Width}
use Rattle.machine.specs.declared.Place.{Place}
use Rattle.machine.specs.declared.Place.TheVariants.{Memory, View, Nowhere}

-- what an instruction finds missing, besides parameter cells and what its action needs (Checks.antt)
pub data Lack : Type 0 where
  nothing : Lack
  -- a return cell to read; a place in memory or in view at its address; a divisor that is not zero; a routine in progress to return from
  a_return_cell a_place a_divisor a_routine : Lack
  deriving Discrete as Lack-discrete

pub record Row : Type 0 where
  -- the depth under the cells that are put, and those cells, deepest first
  pub keeps : ℕ
  pub puts : List ℕ
  -- what it does to the linked stacks
  pub link : Act
  -- the program counter, the flag and the memory afterwards
  pub goes : ℕ
  pub flag : ℕ
  pub memory : List ℕ
  pub lack : Lack
  -- it releases the block
  pub releases : Bool
  -- the bytes of memory that it reads or writes: so many from an address
  pub from : ℕ
  pub touches : ℕ

abbrev pub make : ℕ → List ℕ → Act → ℕ → ℕ → List ℕ → Lack → Row
make keeps puts link goes flag memory lack =
    record { keeps = keeps; puts = puts; link = link; goes = goes; flag = flag; memory = memory; lack = lack; releases = false; from = 0; touches = 0 }

-- the same row, by an access to so many bytes from an address
abbrev pub touching : ℕ → ℕ → Row → Row
touching from touches row =
    record {
      keeps = row.keeps;
      puts = row.puts;
      link = row.link;
      goes = row.goes;
      flag = row.flag;
      memory = row.memory;
      lack = row.lack;
      releases = row.releases;
      from = from;
      touches = touches;
    }

-- the same row, which releases the block
abbrev pub releasing : Row → Row
releasing row =
    record {
      keeps = row.keeps;
      puts = row.puts;
      link = row.link;
      goes = row.goes;
      flag = row.flag;
      memory = row.memory;
      lack = row.lack;
      releases = true;
      from = row.from;
      touches = row.touches;
    }

-- no routine is in progress, or there is no level to leave
abbrev pub no_return : Machine → Bool
no_return m = pick (eqb m.lines.block 0) true (eqb m.links.s 0)

-- the top cell, the one under it and the third
abbrev pub top : Machine → ℕ
top m = get_or m.cells (m.p - 1) 0

abbrev pub second : Machine → ℕ
second m = get_or m.cells (m.p - 2) 0

abbrev pub third : Machine → ℕ
third m = get_or m.cells (m.p - 3) 0

-- the top return cell
abbrev pub top_return : Machine → ℕ
top_return m = get_or m.links.returns (m.links.r - 1) 0

-- the cells in view: the locals of level S, then the cells of level E
abbrev pub locals_in_view : Machine → List ℕ
locals_in_view m = (frame_at m.links m.links.s).locals

abbrev pub cells_in_view : Machine → List ℕ
cells_in_view m = (level_at m.links m.links.e).cells

abbrev pub in_view : Machine → List ℕ
in_view m = locals_in_view m ++ cells_in_view m

-- a store to them
abbrev pub keep_in_view : List ℕ → Act
keep_in_view cells = keep (take locals_count cells) (drop locals_count cells)

module _ (i : Instruction) (mem : List ℕ) (m : Machine) where
  -- the depth under the cells that the code takes
  abbrev pub under : ℕ
  under = m.p - (entry_at i.code).takes

  -- puts cells and goes on; the links, the flag and the memory stay
  abbrev pub cells_row : List ℕ → Row
  cells_row puts = make under puts still i.next m.flag mem nothing

  -- goes somewhere, with an action on the links
  abbrev pub jump : Act → ℕ → Row
  jump link goes = make under [] link goes m.flag mem nothing

  -- refused for what is missing
  abbrev pub lacking : Lack → Row
  lacking lack = make under [] still i.next m.flag mem lack

  -- puts cells and leaves a flag
  abbrev pub calculated : List ℕ → ℕ → Row
  calculated puts flag = make under puts still i.next flag mem nothing

  abbrev pub one_row : Changed → Row
  one_row c = calculated (c.value ∷ []) c.flag

  abbrev pub two_row : Outcome → Row
  two_row (Single value flag) = calculated (value ∷ []) flag
  two_row (Double lower upper flag) = calculated (lower ∷ upper ∷ []) flag
  two_row DivisorZero = lacking a_divisor

  abbrev pub fetch_row : Width → Place → Row
  fetch_row w (Memory a) = touching a (size w) (cells_row (number_at (size w) mem a ∷ []))
  fetch_row w (View a) = cells_row (number_at (size w) (bytes_of_cells (in_view m)) a ∷ [])
  fetch_row w Nowhere = lacking a_place

  abbrev pub store_row : Width → Place → Row
  store_row w (Memory a) =
      touching a (size w) (make under [] still i.next m.flag (sets mem a (bytes_of (size w) (second m))) nothing)
  store_row w (View a) = jump (keep_in_view (overwritten (in_view m) a (bytes_of (size w) (second m)))) i.next
  store_row w Nowhere = lacking a_place

  -- the cells that a shuffle puts
  abbrev pub shuffled : Shuffle → List ℕ
  shuffled NOP = []
  shuffled DROP = []
  shuffled DUP = top m ∷ top m ∷ []
  shuffled SWAP = top m ∷ second m ∷ []
  shuffled OVER = second m ∷ top m ∷ second m ∷ []
  shuffled NIP = top m ∷ []
  shuffled ROT = second m ∷ top m ∷ third m ∷ []
  shuffled PSP-AT = m.p ∷ []
  shuffled ZERO = 0 ∷ []
  shuffled DUP-NONZERO = pick (eqb (top m) 0) (top m ∷ []) (top m ∷ top m ∷ [])
  shuffled PAUSE = []

  -- where a jump goes
  abbrev pub target : Jump → ℕ
  target JMP = top m
  target BEQ = pick (eqb (top m) 0) i.operand i.next
  target BRA = i.operand

  -- R@ and R> put the top return cell
  abbrev pub return_row : Act → Row
  return_row link =
      make under (top_return m ∷ []) link i.next m.flag mem (pick (eqb m.links.r 0) a_return_cell nothing)

  -- THROW of non-zero: P to its copy with the code pushed, and on at the throw address
  abbrev pub throw_row : Row
  throw_row =
      make (copy_of_p m.links.levels m.links.e) (top m ∷ []) throw
      (level_at m.links m.links.e).address m.flag mem nothing

  abbrev pub exit_row : Row
  exit_row = jump exit (frame_at m.links m.links.s).address

  -- request P4: RTI does all that EXIT does, and releases the block
  abbrev pub rti_row : Row
  rti_row = pick (no_return m) (lacking a_routine) (releasing exit_row)

  abbrev pub link_row : Link → Row
  link_row >R = jump (push (top m)) i.next
  link_row R-AT = return_row still
  link_row R> = return_row pop
  link_row CATCH = jump (catch i.next under) (top m)
  link_row RESETSP = make 0 [] reset i.next m.flag mem nothing
  link_row THROW = pick (eqb (top m) 0) (cells_row []) throw_row
  link_row JSL = jump (call i.next) i.operand
  link_row JSR = jump (call i.next) (top m)
  link_row EXIT = exit_row
  link_row RTI = rti_row

  unfoldable pub row_of : Op → Row
  row_of (SHUFFLE o) = cells_row (shuffled o)
  row_of (JUMP o) = jump still (target o)
  row_of (LINK o) = link_row o
  row_of (ONE o) = one_row (one_cell_of o (top m) m.flag)
  row_of (TWO o) = two_row (two_cells_of o (second m) (top m) m.flag)
  row_of (FETCH w) = fetch_row w (place_of w (top m))
  row_of (STORE w) = store_row w (place_of w (top m))
  row_of LITERAL = cells_row (i.operand ∷ [])
