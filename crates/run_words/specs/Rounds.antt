-- What the loop asks, and what it promises.
use Rattle.std.specs.Prelude.{◌≡◌, Bool, true, false, List, length, ℕ, ◌-◌, ◌*◌, ◌%◌, ◌^◌, ◌<◌, ◌≤◌}
use Rattle.machine.specs.Limits.{memory_length}
use Rattle.machine.specs.Lines.{lowest_due}
use Rattle.machine.specs.Run.{acceptable, ended}
use Rattle.machine.specs.State.{Whole}
use Rattle.machine.specs.Sum.{sum_after}
use Rattle.machine.proofs.Laws.Kept.{Formed}
use Rattle.machine.specs.declared.Machine.{Machine}
use Rattle.machine.specs.declared.Reach.{Reach}
use Rattle.run_words.specs.Calm.{lines_enter, run_in, Quiet, Calm}
use Rattle.run_words.specs.Notes.{Note}
use Rattle.run_words.specs.Promises.{Bounded}
use Rattle.run_words.specs.Registers.{machine_in}
use Rattle.run_words.specs.Levels.{frames_in, levels_in, note_in, Laid}
use Rattle.run_words.specs.declared.Registers.{Registers}

-- a machine that a run takes, in arrays of their lengths; no line enters first, or in the whole run unless it is heeded
pub record Starts (reach : Reach) (mem : List ℕ) (m : Machine) (rows : List (List ℕ)) (copies : List ℕ) (left : ℕ) (lines : Bool) : Type 0 where
  pub accepted : acceptable mem m left ≡ true
  pub whole : Whole m
  pub laid : Laid rows copies
  pub bounded : Bounded reach
  pub calm : Calm (lines_enter reach) m.lines m.links.r m.links.s
  pub unheeded : (note_in rows).heeds ≡ 0 → Quiet (lines_enter reach) m.lines
  pub unasked : lines ≡ false → (note_in rows).heeds ≡ 0

-- the same of a run that lines may enter
pub record Takes (reach : Reach) (mem : List ℕ) (m : Machine) (rows : List (List ℕ)) (copies : List ℕ) (left : ℕ) : Type 0 where
  pub accepted : acceptable mem m left ≡ true
  pub whole : Whole m
  pub laid : Laid rows copies
  pub bounded : Bounded reach
  pub lined : lines_enter reach ≡ true

-- the run goes on from here: what is left of it is what it was at first
pub record Goes (reach : Reach) (in_turns : Bool) (mem : List ℕ) (m : Machine) (left : ℕ) (mem' : List ℕ) (m' : Machine) (unspent cycles : ℕ) : Type 0 where
  pub less : unspent < left
  pub rest : run_in reach in_turns left mem m 0 0 ≡ run_in reach in_turns unspent mem' m' (left - unspent) cycles
  pub priced : cycles ≤ 42 * (left - unspent)
  pub long : length mem' ≡ memory_length
  pub whole : Whole m'
  pub formed : Formed m'

-- what every run leaves of its arrays; and what was lost before has grown by what the memory lost
pub record Leaves (mem : List ℕ) (left lost : ℕ) (mem' : List ℕ) (rows : List (List ℕ)) (copies : List ℕ) (g : Registers) : Type 0 where
  pub nothing_left : g.left.0 ≡ 0
  pub unspent-within : g.unspent.0 ≤ left
  pub priced : g.cycles.0 ≤ 42 * left
  pub long : length mem' ≡ memory_length
  pub laid : Laid rows copies
  pub loses : (note_in rows).lost % 2 ^ 32 ≡ sum_after lost mem' mem

-- the loop's run is the definition's, by what the arrays and the registers say of it, or goes on
pub record Ends (reach : Reach) (in_turns : Bool) (mem : List ℕ) (m : Machine) (left : ℕ) (note : Note)
    (mem' cells returns : List ℕ) (rows : List (List ℕ)) (copies : List ℕ) (g : Registers) : Type 0 where
  pub leaves : Leaves mem left note.lost mem' rows copies g
  pub heeds-same : (note_in rows).heeds ≡ note.heeds
  pub due-same : lowest_due (note_in rows).aside.lines ≡ lowest_due note.aside.lines
  -- where no line might enter, it never goes on
  pub unmarked : note.heeds ≡ 0 → g.again ≡ false
  pub same : g.again ≡ false →
      ended g.answer mem' (machine_in cells returns (frames_in rows copies) (levels_in rows copies) (note_in rows).aside g) (left - g.unspent.0) g.cycles.0 ≡
      run_in reach in_turns left mem m 0 0
  pub answered : g.again ≡ true → g.answer ≡ 0
  pub goes : g.again ≡ true →
      Goes reach in_turns mem m left mem' (machine_in cells returns (frames_in rows copies) (levels_in rows copies) (note_in rows).aside g) g.unspent.0 g.cycles.0

-- a run that lines may enter
pub record Served (reach : Reach) (mem : List ℕ) (m : Machine) (left lost : ℕ)
    (mem' cells returns : List ℕ) (rows : List (List ℕ)) (copies : List ℕ) (g : Registers) : Type 0 where
  pub leaves : Leaves mem left lost mem' rows copies g
  pub same :
      ended g.answer mem' (machine_in cells returns (frames_in rows copies) (levels_in rows copies) (note_in rows).aside g) (left - g.unspent.0) g.cycles.0 ≡
      run_in reach false left mem m 0 0
