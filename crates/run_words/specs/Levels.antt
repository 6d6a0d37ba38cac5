-- A machine as the loop has it: a row of numbers for each level.
use Rattle.std.specs.Prelude.{◌≡◌, false, List, [], ◌∷◌, ◌++◌, ℕ, zero, suc, ◌+◌, ◌<◌, get_or, set, take, drop, length}
use Rattle.plain.specs.All.{All}
use Rattle.links.specs.Actions.{with_locals, with_cells}
use Rattle.links.specs.Depths.{frames_count, levels_count, locals_count, level_cells}
use Rattle.links.specs.Fits.{CellFits}
use Rattle.links.specs.Linked.{no_frame, no_level}
use Rattle.links.specs.declared.Frame.{Frame}
use Rattle.links.specs.declared.Level.{Level}
use Rattle.machine.specs.Limits.{tasks_count}
use Rattle.machine.specs.declared.Machine.{Machine}
use Rattle.run_words.specs.Machines.{links_of}
use Rattle.run_words.specs.Notes.{Note, aside_of, note_of}
use Rattle.run_words.specs.declared.Pointers.{Pointers}
use Rattle.run_words.specs.declared.Registers.{Registers}

-- so many elements, each by its place
unfoldable pub tabulated : {A : Type 0} → ℕ → (ℕ → A) → List A
tabulated zero at = []
tabulated (suc n) at = at 0 ∷ tabulated n (λ i. at (suc i))

-- the copies of R, S and P are 51; there is room for more
abbrev pub copies_room : ℕ
copies_room = 64

-- subroutine level s: its locals and its return address are a row, and the copy of R stands beside
abbrev pub frame_of : List (List ℕ) → List ℕ → ℕ → Frame
frame_of rows copies s =
    record { locals = take locals_count (get_or rows s []); r = get_or copies s 0; address = get_or (get_or rows s []) locals_count 0 }

-- exception level e: its cells and its throw address are a row behind those, and so are the copies of S and of P
abbrev pub level_of : List (List ℕ) → List ℕ → ℕ → Level
level_of rows copies e =
    record {
      cells = take level_cells (get_or rows (frames_count + e) []);
      s = get_or copies (frames_count + e) 0;
      p = get_or copies (frames_count + levels_count + e) 0;
      address = get_or (get_or rows (frames_count + e) []) locals_count 0;
    }

unfoldable pub frames_in : List (List ℕ) → List ℕ → List Frame
frames_in rows copies = tabulated frames_count (frame_of rows copies)

unfoldable pub levels_in : List (List ℕ) → List ℕ → List Level
levels_in rows copies = tabulated levels_count (level_of rows copies)

-- the note stands in a row behind those of the levels
abbrev pub note_row : ℕ
note_row = frames_count + levels_count

abbrev pub rows_count : ℕ
rows_count = note_row + 1

unfoldable pub note_in : List (List ℕ) → Note
note_in rows =
    let row = get_or rows note_row [] in
    note_of
    (aside_of (record { address = get_or row 0 0; code = get_or row 1 0 }) (record { mask = get_or row 3 0; waiting = get_or row 4 0; block = get_or row 5 0 }))
    (get_or row 2 0) (get_or row 6 0)

-- the lists are as long as the arrays that they stand for, and the cells of every level are numbers of 32 bits
pub record Laid (rows : List (List ℕ)) (copies : List ℕ) : Type 0 where
  pub rows_long : length rows ≡ rows_count
  pub rows-wide : All (λ (row : List ℕ). length row ≡ suc locals_count) rows
  pub copies-long : length copies ≡ copies_room
  pub locals-fit : (s : ℕ) → s < frames_count → All CellFits (take locals_count (get_or rows s []))
  pub cells_fit : (e : ℕ) → e < levels_count → All CellFits (take level_cells (get_or rows (frames_count + e) []))

-- rows and copies that hold these levels and this note
pub record Hold (rows : List (List ℕ)) (copies : List ℕ) (frames : List Frame) (levels : List Level) (note : Note) : Type 0 where
  pub laid : Laid rows copies
  pub frames-are : frames_in rows copies ≡ frames
  pub levels-are : levels_in rows copies ≡ levels
  pub note-is : note_in rows ≡ note

-- the registers between two stretches of a run: numbers of the note's row, and pointers behind the copies
unfoldable pub parked_in : List (List ℕ) → List ℕ → Registers
parked_in rows copies =
    let row = get_or rows note_row [] in
    record {
      p = get_or copies 60 0;
      r = get_or copies 61 0;
      s = get_or copies 62 0;
      e = get_or copies 63 0;
      counter = get_or row 7 0;
      flag = get_or row 8 0;
      left = record { 0 = get_or row 9 0 };
      cycles = record { 0 = get_or row 10 0 };
      answer = get_or row 11 0;
      unspent = record { 0 = get_or row 12 0 };
      again = false;
    }

-- they are parked, and nothing else is altered
pub record Parks (rows : List (List ℕ)) (copies : List ℕ) (g : Registers) (rows' : List (List ℕ)) (copies' : List ℕ) : Type 0 where
  pub held : Hold rows' copies' (frames_in rows copies) (levels_in rows copies) (note_in rows)
  pub parked : g.again ≡ false → parked_in rows' copies' ≡ g

-- how many cells are in view
abbrev pub view_cells : ℕ
view_cells = locals_count + level_cells

-- the cells in view where S and E are these, and levels with others in view
abbrev pub seen : List Frame → List Level → ℕ → ℕ → List ℕ
seen frames levels s e = (get_or frames s no_frame).locals ++ (get_or levels e no_level).cells

abbrev pub HoldSeen : List (List ℕ) → List ℕ → List Frame → List Level → Note → ℕ → ℕ → List ℕ → Type 0
HoldSeen rows copies frames levels note s e cells =
    Hold rows copies (set frames s (with_locals (take locals_count cells) (get_or frames s no_frame)))
    (set levels e (with_cells (drop locals_count cells) (get_or levels e no_level))) note

-- the same of rows, and of rows that come after them
abbrev pub seen_in : List (List ℕ) → List ℕ → ℕ → ℕ → List ℕ
seen_in rows copies s e = seen (frames_in rows copies) (levels_in rows copies) s e

abbrev pub Keep : List (List ℕ) → List (List ℕ) → List ℕ → ℕ → ℕ → List ℕ → Type 0
Keep rows rows' copies s e cells = HoldSeen rows' copies (frames_in rows copies) (levels_in rows copies) (note_in rows) s e cells

-- what a machine has beside its arrays
abbrev pub pointers_of : Machine → Pointers
pointers_of m =
    record { p = m.p; r = m.links.r; s = m.links.s; e = m.links.e; counter = m.counter; flag = m.flag }

abbrev pub pointers_in : Registers → Pointers
pointers_in g = record { p = g.p; r = g.r; s = g.s; e = g.e; counter = g.counter; flag = g.flag }

abbrev pub in_rows : List ℕ → List ℕ → List (List ℕ) → List ℕ → Pointers → Machine
in_rows cells returns rows copies at =
    record {
      cells = cells;
      p = at.p;
      links = links_of returns at.r (frames_in rows copies) at.s (levels_in rows copies) at.e;
      counter = at.counter;
      flag = at.flag;
      thrown = (note_in rows).aside.thrown;
      lines = (note_in rows).aside.lines;
    }

-- what the memory lost by the stores of each of four machines
unfoldable pub losses_in : List (List (List ℕ)) → List ℕ
losses_in rows = tabulated tasks_count (λ t. (note_in (get_or rows t [])).lost)

-- whether a line might enter each of them is noted as it was
abbrev pub HeedsSame : List (List (List ℕ)) → List (List (List ℕ)) → Type 0
HeedsSame rows rows' = (t : ℕ) → t < tasks_count → (note_in (get_or rows' t [])).heeds ≡ (note_in (get_or rows t [])).heeds

-- what a read past an array's end gives: every number zero
abbrev pub no_pointers : Pointers
no_pointers = record { p = 0; r = 0; s = 0; e = 0; counter = 0; flag = 0 }

-- four machines, each in its own place of such arrays
abbrev pub task_in : List (List ℕ) → List (List ℕ) → List (List (List ℕ)) → List (List ℕ) → List Pointers → ℕ → Machine
task_in cells returns rows copies saved t =
    in_rows (get_or cells t []) (get_or returns t []) (get_or rows t []) (get_or copies t []) (get_or saved t no_pointers)

unfoldable pub machines_in : List (List ℕ) → List (List ℕ) → List (List (List ℕ)) → List (List ℕ) → List Pointers → List Machine
machines_in cells returns rows copies saved = tabulated tasks_count (task_in cells returns rows copies saved)

abbrev pub AllLaid : List (List (List ℕ)) → List (List ℕ) → Type 0
AllLaid rows copies = (t : ℕ) → t < tasks_count → Laid (get_or rows t []) (get_or copies t [])

-- the arrays of four machines are as long as they should be
pub record Seats (cells returns : List (List ℕ)) (rows : List (List (List ℕ))) (copies : List (List ℕ)) (saved : List Pointers) : Type 0 where
  pub cells-long : length cells ≡ tasks_count
  pub returns-long : length returns ≡ tasks_count
  pub saved-long : length saved ≡ tasks_count
  pub laid : AllLaid rows copies
