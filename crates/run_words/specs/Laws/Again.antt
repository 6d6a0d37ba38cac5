-- A machine whose levels, last THROW and lines stand in rows is that machine again.
use Rattle.std.specs.Prelude.{◌≡◌, refl, List, [], ℕ, suc, ◌+◌, ◌<◌, get_or, replicate, length, take}
use Rattle.std.proofs.Common.{ap, ◌∙◌, arith}
use Rattle.std.proofs.lemmas.List.{get_or-replicate}
use Rattle.plain.specs.All.{All}
use Rattle.plain.specs.Laws.All.{all_replicate, all_take}
use Rattle.links.specs.Actions.{no_locals}
use Rattle.links.specs.Depths.{frames_count, locals_count, level_cells}
use Rattle.links.specs.Fits.{CellFits}
use Rattle.links.specs.Fresh.{fresh_frame, fresh_level, fresh_links}
use Rattle.links.specs.declared.Frame.{Frame}
use Rattle.links.specs.declared.Level.{Level}
use Rattle.machine.specs.Limits.{tasks_count}
use Rattle.machine.specs.Lines.{no_lines, none, lowest_due}
use Rattle.machine.specs.State.{no_throw}
use Rattle.machine.specs.Sum.{sum_of}
use Rattle.machine.specs.declared.Machine.{Machine}
use Rattle.run_words.specs.Machines.{links_of}
use Rattle.run_words.specs.Levels.{tabulated, copies_room, rows_count, frames_in, levels_in, note_in, Laid, Hold, losses_in, AllLaid, pointers_of, in_rows}
use Rattle.run_words.specs.Notes.{Note, aside_of, note_of}
use Rattle.run_words.specs.declared.Pointers.{Pointers}

pub whole_again : (m : Machine) {rows : List (List ℕ)} {copies : List ℕ} {lost heeds : ℕ} → Hold rows copies m.links.frames m.links.levels (note_of (aside_of m.thrown m.lines) lost heeds) → {at : Pointers} → at ≡ pointers_of m →
    in_rows m.cells m.links.returns rows copies at ≡ m
whole_again m {rows} {copies} held e =
    ap (λ (at : Pointers). in_rows m.cells m.links.returns rows copies at) e ∙
    (ap (λ (frames : List Frame). with-levels frames (levels_in rows copies) (note_in rows)) held.frames-are ∙
    (ap (λ (levels : List Level). with-levels m.links.frames levels (note_in rows)) held.levels-are ∙
    ap (with-levels m.links.frames m.links.levels) held.note-is))
  where
    with-levels : List Frame → List Level → Note → Machine
    with-levels frames levels n =
        record { cells = m.cells; p = m.p; links = links_of m.links.returns m.links.r frames m.links.s levels m.links.e; counter = m.counter; flag = m.flag; thrown = n.aside.thrown; lines = n.aside.lines }

-- rows of zeros
abbrev pub zero_rows : List (List ℕ)
zero_rows = replicate rows_count (replicate (suc locals_count) 0)

abbrev pub zero_copies : List ℕ
zero_copies = replicate copies_room 0

zeros-fit : (n : ℕ) → All CellFits (take n (replicate (suc locals_count) 0))
zeros-fit n = all_take CellFits n (replicate (suc locals_count) 0) (all_replicate CellFits (suc locals_count) 0 (omega arith))

pub zeros-laid : Laid zero_rows zero_copies
zeros-laid =
    record {
      rows_long = refl;
      rows-wide = all_replicate (λ (row : List ℕ). length row ≡ suc locals_count) rows_count (replicate (suc locals_count) 0) refl;
      copies-long = refl;
      locals-fit = λ s h. rw (get_or-replicate rows_count s (replicate {A = ℕ} (suc locals_count) 0) [] (omega arith)) (zeros-fit locals_count);
      cells_fit = λ e h. rw (get_or-replicate rows_count (frames_count + e) (replicate {A = ℕ} (suc locals_count) 0) [] (omega arith)) (zeros-fit level_cells);
    }

pub zeros-fresh : Hold zero_rows zero_copies fresh_links.frames fresh_links.levels (note_of (aside_of no_throw no_lines) 0 0)
unfolding frames_in levels_in note_in tabulated fresh_links fresh_frame fresh_level no_locals
zeros-fresh = record { laid = zeros-laid; frames-are = refl; levels-are = refl; note-is = refl }

pub no-loss : (note_in zero_rows).lost ≡ 0
unfolding note_in
no-loss = refl

pub no_due : lowest_due (note_in zero_rows).aside.lines ≡ none
unfolding note_in lowest_due
no_due = refl

pub no-heed : (note_in zero_rows).heeds ≡ 0
unfolding note_in
no-heed = refl

-- and rows of zeros for each of four
pub all-zeros-laid : AllLaid (replicate tasks_count zero_rows) (replicate tasks_count zero_copies)
all-zeros-laid t h = rw (get_or-replicate tasks_count t zero_rows [] h, get_or-replicate tasks_count t zero_copies [] h) zeros-laid

pub no-heeds : (t : ℕ) → t < tasks_count → (note_in (get_or (replicate tasks_count zero_rows) t [])).heeds ≡ 0
no-heeds t h = ap (λ (rows : List (List ℕ)). (note_in rows).heeds) (get_or-replicate tasks_count t zero_rows [] h) ∙ no-heed

-- and nothing is lost
pub no-losses : sum_of (losses_in (replicate tasks_count zero_rows)) ≡ 0
unfolding sum_of losses_in tabulated note_in
no-losses = refl
