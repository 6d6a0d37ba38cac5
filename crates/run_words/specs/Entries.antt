-- What a line that enters makes of a machine in its arrays, and whether one might enter in a run.
use Rattle.std.specs.Prelude.{◌≡◌, Bool, true, false, List, ℕ}
use Rattle.machine.specs.Lines.{none, lowest_due, let_in}
use Rattle.run_words.specs.Notes.{heeding}
use Rattle.run_words.specs.Calm.{Calm}
use Rattle.run_words.specs.Levels.{frames_in, levels_in, note_in, in_rows, Laid, Hold}
use Rattle.run_words.specs.declared.Pointers.{Pointers}

-- the line that can enter has entered, and then none can
pub record LetsIn (returns : List ℕ) (rows : List (List ℕ)) (copies : List ℕ) (at : Pointers)
    (returns' : List ℕ) (rows' : List (List ℕ)) (copies' : List ℕ) (to : Pointers) : Type 0 where
  pub entered : (cells : List ℕ) → in_rows cells returns' rows' copies' to ≡ let_in true (in_rows cells returns rows copies at)
  pub calm : Calm true (note_in rows').aside.lines to.r to.s
  pub laid : Laid rows' copies'
  pub lost-same : (note_in rows').lost ≡ (note_in rows).lost
  pub heeds-same : (note_in rows').heeds ≡ (note_in rows).heeds
  pub quiet-kept : lowest_due (note_in rows).aside.lines ≡ none → lowest_due (note_in rows').aside.lines ≡ none

-- where none is due, none enters in the whole run; else it is noted that one might
pub record Attends (rows rows' : List (List ℕ)) (some : Bool) : Type 0 where
  pub quiet : some ≡ false → (rows' ≡ rows) × (lowest_due (note_in rows).aside.lines ≡ none)
  pub heeded : some ≡ true → (copies : List ℕ) → Laid rows copies → Hold rows' copies (frames_in rows copies) (levels_in rows copies) (heeding (note_in rows))
