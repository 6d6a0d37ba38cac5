-- What an instruction can do to the linked stacks, as data, and what each action does: document 01, "Linked stacks".
-- Dropping a level moves only its pointer: what the level and the cells above the pointers held stays there.
use Rattle.std.specs.Prelude.{Bool, List, ℕ, suc, ◌+◌, ◌-◌, ◌%◌, ◌^◌, ltb, leb, set, replicate}
use Rattle.plain.specs.Choice.{pick, both}
use Rattle.links.specs.Depths.{locals_count}
use Rattle.links.specs.Linked.{frame_at, level_at, copy_of_r, copy_of_s}
use Rattle.links.specs.declared.Frame.{Frame}
use Rattle.links.specs.declared.Level.{Level}
use Rattle.links.specs.declared.Links.{Links}

pub data Act : Type 0 where
  -- nothing is touched
  still : Act
  -- >R: a return cell is pushed
  push : ℕ → Act
  -- JSR, JSL: a call with this return address
  call : ℕ → Act
  -- CATCH: a call with this return address, and P after the CATCH's own address was taken
  catch : ℕ → ℕ → Act
  exit : Act
  -- R>: a return cell is popped
  pop : Act
  -- THROW of non-zero
  throw : Act
  -- a store: what the locals of level S and the cells of level E then hold
  keep : List ℕ → List ℕ → Act
  reset : Act

-- the locals of a new level
unfoldable pub no_locals : List ℕ
no_locals = replicate locals_count 0

-- the level that a call makes: its locals zero, R as it was before, the return address
abbrev pub called_frame : ℕ → ℕ → Frame
called_frame r address = record { locals = no_locals; r = r; address = address }

-- the level that a CATCH makes: the cells of the level below it, S as it was before, P after the address was taken,
-- and a throw address one above the return address
abbrev pub caught_level : List ℕ → ℕ → ℕ → ℕ → Level
caught_level cells s p address = record { cells = cells; s = s; p = p; address = (address + 1) % 2 ^ 32 }

-- the same links with other return cells, subroutine levels or exception levels, each stack with its pointer
abbrev pub with_returns : List ℕ → ℕ → Links → Links
with_returns returns r l =
    record { returns = returns; r = r; frames = l.frames; s = l.s; levels = l.levels; e = l.e }

abbrev pub with_frames : List Frame → ℕ → Links → Links
with_frames frames s l =
    record { returns = l.returns; r = l.r; frames = frames; s = s; levels = l.levels; e = l.e }

abbrev pub with_levels : List Level → ℕ → Links → Links
with_levels levels e l =
    record { returns = l.returns; r = l.r; frames = l.frames; s = l.s; levels = levels; e = e }

-- a return cell is pushed
abbrev pub pushed : ℕ → Links → Links
pushed x l = with_returns (set l.returns l.r x) (suc l.r) l

-- a call writes the return address to the return stack and to a new subroutine level
abbrev pub called : ℕ → Links → Links
called address l =
    with_frames (set l.frames (suc l.s) (called_frame l.r address)) (suc l.s) (pushed address l)

-- a CATCH does all that a call does, and pushes an exception level
abbrev pub caught : ℕ → ℕ → Links → Links
caught address p l =
    with_levels (set l.levels (suc l.e) (caught_level (level_at l l.e).cells l.s p address)) (suc l.e)
    (called address l)

-- the same links with other pointers: how levels and cells are dropped
abbrev pub lowered : ℕ → ℕ → ℕ → Links → Links
lowered r s e l = with_returns l.returns r (with_frames l.frames s (with_levels l.levels e l))

-- a level with other locals, a level with other cells
abbrev pub with_locals : List ℕ → Frame → Frame
with_locals locals frame = record { locals = locals; r = frame.r; address = frame.address }

abbrev pub with_cells : List ℕ → Level → Level
with_cells cells level = record { cells = cells; s = level.s; p = level.p; address = level.address }

-- the locals of level S and the cells of level E are written
abbrev pub stored : List ℕ → List ℕ → Links → Links
stored locals cells l =
    with_frames (set l.frames l.s (with_locals locals (frame_at l l.s))) l.s
    (with_levels (set l.levels l.e (with_cells cells (level_at l l.e))) l.e l)

-- R> drops the top subroutine level too if R is then not greater than the copy that the level holds
abbrev pub drops_frame : Links → Bool
drops_frame l = both (ltb 0 l.s) (leb (l.r - 1) (copy_of_r l.frames l.s))

-- E after a subroutine level was dropped: the top exception level goes too if S is then not greater than the copy that it holds
abbrev pub e_after_drop : Links → ℕ
e_after_drop l = pick (both (ltb 0 l.e) (leb (l.s - 1) (copy_of_s l.levels l.e))) (l.e - 1) l.e

-- S after a THROW: the copy in the top exception level
abbrev pub thrown_s : Links → ℕ
thrown_s l = copy_of_s l.levels l.e

-- R after a THROW: the copy in the subroutine level above that S
abbrev pub thrown_r : Links → ℕ
thrown_r l = copy_of_r l.frames (suc (thrown_s l))

abbrev pub act : Act → Links → Links
act still l = l
act (push x) l = pushed x l
act (call address) l = called address l
act (catch address p) l = caught address p l
act exit l = lowered (copy_of_r l.frames l.s) (l.s - 1) (e_after_drop l) l
act pop l =
    lowered (l.r - 1) (pick (drops_frame l) (l.s - 1) l.s) (pick (drops_frame l) (e_after_drop l) l.e) l
act throw l = lowered (thrown_r l) (thrown_s l) (l.e - 1) l
act (keep locals cells) l = stored locals cells l
act reset l = lowered 0 0 0 l
