-- Where the loop stands in its run, and what an arm of it makes of that.
use Rattle.std.specs.Prelude.{◌≡◌, ℕ, ◌*◌, ◌%◌, ◌^◌, ◌<◌, ◌≤◌, Bool, false, List}
use Rattle.plain.specs.Answer.{gives}
use Rattle.links.specs.Depths.{cells_depth, returns_depth, subroutines_depth, exceptions_depth, most_copy_of_p}
use Rattle.links.specs.Linked.{copy_of_s, copy_of_p}
use Rattle.machine.specs.Fetch.{instruction_at}
use Rattle.machine.specs.Limits.{most_budget}
use Rattle.machine.specs.Lines.{lowest_due}
use Rattle.machine.specs.Sum.{sum_after}
use Rattle.machine.specs.declared.Machine.{Machine}
use Rattle.machine.specs.declared.Reach.{Reach}
use Rattle.run_words.specs.Calm.{lines_enter, Quiet}
use Rattle.run_words.specs.Levels.{frames_in, levels_in, note_in, Laid}
use Rattle.run_words.specs.Machines.{in_reach}
use Rattle.run_words.specs.Notes.{Note}
use Rattle.run_words.specs.Promises.{fetched_of}
use Rattle.run_words.specs.Laws.Rounds.{Round}
use Rattle.run_words.specs.declared.Registers.{Registers}

-- pointers within the stacks, and a budget that is not spent
pub record Within (g : Registers) : Type 0 where
  pub p-within : g.p ≤ cells_depth
  pub r-within : g.r ≤ returns_depth
  pub s-within : g.s ≤ subroutines_depth
  pub e-within : g.e ≤ exceptions_depth
  pub less : 0 < g.left.0
  pub paid : g.cycles.0 < 42 * most_budget

-- the top exception level can be thrown to
abbrev pub Catches : List (List ℕ) → List ℕ → Registers → Type 0
Catches rows copies g = 1 ≤ g.e → (copy_of_p (levels_in rows copies) g.e ≤ most_copy_of_p) × (copy_of_s (levels_in rows copies) g.e < g.s)

-- a run of the loop: whether turns are taken, and what it began with
pub record Course : Type 0 where
  pub in_turns : Bool
  pub memory : List ℕ
  pub machine : Machine
  pub budget : ℕ
  pub note : Note

-- what holds at the loop's head
pub record Stood (reach : Reach) (c : Course) (lines : Bool) (mem cells returns : List ℕ) (rows : List (List ℕ)) (copies : List ℕ) (g : Registers) : Type 0 where
  pub round :
      Round reach c.in_turns c.memory c.machine c.budget c.note.heeds mem cells returns (frames_in rows copies) (levels_in rows copies) (note_in rows).aside g
  pub laid : Laid rows copies
  pub loses : (note_in rows).lost % 2 ^ 32 ≡ sum_after c.note.lost mem c.memory
  pub heeds-same : (note_in rows).heeds ≡ c.note.heeds
  pub due-same : lowest_due (note_in rows).aside.lines ≡ lowest_due c.note.aside.lines
  pub unasked : lines ≡ false → c.note.heeds ≡ 0
  pub unheeded : c.note.heeds ≡ 0 → Quiet (lines_enter reach) c.note.aside.lines

-- where the loop stood and this instruction was fetched, it stands again
abbrev pub Follows : Reach → Course → Bool → ℕ → ℕ → ℕ → List ℕ → List ℕ → List ℕ → List (List ℕ) → List ℕ → Registers → List ℕ → List ℕ → List ℕ → List (List ℕ) → List ℕ → Registers → Type 0
Follows reach c lines code operand next mem cells returns rows copies g mem' cells' returns' rows' copies' g' =
    Stood reach c lines mem cells returns rows copies g → fetched_of (instruction_at reach mem g.counter) ≡ gives (in_reach reach code operand next) →
    Stood reach c lines mem' cells' returns' rows' copies' g'
