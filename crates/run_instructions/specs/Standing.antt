-- How the loop stands again after an arm.
use Rattle.std.specs.Prelude.{◌≡◌, ℕ, ◌-◌, ◌%◌, ◌^◌, ◌<◌, ◌≤◌, Bool, true, false, List, nat_lt, slice_index, refl}
use Rattle.std.proofs.Common.{ap, ◌∙◌, ltb-false}
use Rattle.plain.specs.Answer.{Answer, refuses, gives}
use Rattle.plain.specs.Choice.{pick}
use Rattle.links.specs.declared.Frame.{Frame}
use Rattle.links.specs.declared.Level.{Level}
use Rattle.machine.specs.Fetch.{instruction_at}
use Rattle.machine.specs.Lines.{lowest_due}
use Rattle.machine.specs.declared.Place.{Place}
use Rattle.machine.specs.declared.Reach.{Reach}
use Rattle.machine.specs.declared.Width.{Width}
use Rattle.reach.specs.Spots.{spot_of}
use Rattle.run_words.specs.Accesses.{reach_of}
use Rattle.run_instructions.specs.Arms.{Course, Stood}
use Rattle.run_words.specs.Calm.{lines_enter, Quiet}
use Rattle.run_words.specs.Levels.{frames_in, levels_in, note_in, Hold}
use Rattle.run_words.specs.Machines.{in_reach}
use Rattle.run_words.specs.Notes.{Note}
use Rattle.run_words.specs.Promises.{fetched_of}
use Rattle.run_words.specs.Laws.Answered.{apart}
use Rattle.run_words.specs.Laws.Calms.{unheeded-now}
use Rattle.run_words.specs.Laws.Rounds.{Round, Found}
use Rattle.run_words.specs.declared.Registers.{Registers}

module _ {reach : Reach} {c : Course} {lines : Bool} {mem cells returns : List ℕ} {rows : List (List ℕ)} {copies : List ℕ} {g : Registers}
    (stood : Stood reach c lines mem cells returns rows copies g)
  where
    pub found_here : {code operand next : ℕ} → 0 < g.left.0 → fetched_of (instruction_at reach mem g.counter) ≡ gives (in_reach reach code operand next) →
        Found reach c.in_turns c.memory c.machine c.budget c.note.heeds mem cells returns (frames_in rows copies) (levels_in rows copies) (note_in rows).aside g code operand next
    found_here less fetched = record { round = stood.round; less = less; fetched = fetched }

    -- memory and rows are as they were
    pub stays : {cells' returns' : List ℕ} {g' : Registers} →
        Round reach c.in_turns c.memory c.machine c.budget c.note.heeds mem cells' returns' (frames_in rows copies) (levels_in rows copies) (note_in rows).aside g' →
        Stood reach c lines mem cells' returns' rows copies g'
    stays round =
        record {
          round = round;
          laid = stood.laid;
          loses = stood.loses;
          heeds-same = stood.heeds-same;
          due-same = stood.due-same;
          unasked = stood.unasked;
          unheeded = stood.unheeded;
        }

    -- other rows hold what the run keeps, and lines of which as many are due
    pub holds : {cells' returns' : List ℕ} {rows' : List (List ℕ)} {copies' : List ℕ} {frames : List Frame} {levels : List Level} {note : Note} {g' : Registers} →
        Hold rows' copies' frames levels note → note.lost ≡ (note_in rows).lost → note.heeds ≡ (note_in rows).heeds → lowest_due note.aside.lines ≡ lowest_due (note_in rows).aside.lines →
        Round reach c.in_turns c.memory c.machine c.budget c.note.heeds mem cells' returns' (frames_in rows' copies') (levels_in rows' copies') (note_in rows').aside g' →
        Stood reach c lines mem cells' returns' rows' copies' g'
    holds held lost heeds due round =
        record {
          round = round;
          laid = held.laid;
          loses = ap (λ (n : Note). n.lost % 2 ^ 32) held.note-is ∙ (ap (λ n. n % 2 ^ 32) lost ∙ stood.loses);
          heeds-same = ap (λ (n : Note). n.heeds) held.note-is ∙ (heeds ∙ stood.heeds-same);
          due-same = ap (λ (n : Note). lowest_due n.aside.lines) held.note-is ∙ (due ∙ stood.due-same);
          unasked = stood.unasked;
          unheeded = stood.unheeded;
        }

    -- what is said of the lines at first still holds of those in rows
    pub unheeded-here : (rows' : List (List ℕ)) → (note_in rows').heeds ≡ (note_in rows).heeds → lowest_due (note_in rows').aside.lines ≡ lowest_due (note_in rows).aside.lines →
        (note_in rows').heeds ≡ 0 → Quiet (lines_enter reach) (note_in rows').aside.lines
    unheeded-here rows' heeds due =
        unheeded-now (note_in rows').aside.lines c.note.aside.lines stood.unheeded (heeds ∙ stood.heeds-same) (due ∙ stood.due-same)

-- what is reached has its cells
pub reach-room : (reach : Reach) (w : Width) (cells : List ℕ) {takes p : ℕ} {at : Place} → reach_of reach takes w cells p ≡ gives at → takes ≤ p
unfolding reach_of
reach-room reach w cells {takes} {p} {at} e = ltb-false p takes (go (nat_lt p takes) (spot_of reach w (slice_index cells (p - 1))) e)
  where
    go : (b : Bool) (rest : Answer Place) → pick b (refuses 5) rest ≡ gives at → b ≡ false
    go true rest e = apart cc
    go false rest e = refl
