-- When no line can enter: the loop tests for lines no more often than it must.
use Rattle.std.specs.Prelude.{◌≡◌, Bool, false, List, ◌⊎◌, ℕ, ◌≤◌, leb, eqb}
use Rattle.plain.specs.Choice.{pick}
use Rattle.links.specs.Depths.{returns_depth, subroutines_depth}
use Rattle.machine.specs.Limits.{shared_length}
use Rattle.machine.specs.Lines.{none, lowest_due}
use Rattle.machine.specs.Run.{After, Manner, manner_of, run_from}
use Rattle.machine.specs.declared.Lines.{Lines}
use Rattle.machine.specs.declared.Machine.{Machine}
use Rattle.machine.specs.declared.Reach.{Reach}

-- whose lines enter, by what it may touch: a machine alone, and task 0, whose part is the first
abbrev pub lines_enter : Reach → Bool
lines_enter reach = leb reach.own shared_length

abbrev pub manner_in : Reach → Bool → Manner
manner_in reach in_turns = manner_of in_turns (lines_enter reach)

abbrev pub run_in : Reach → Bool → ℕ → List ℕ → Machine → ℕ → ℕ → After
run_in reach in_turns left mem m n c = run_from reach (manner_in reach in_turns) left mem m n c

-- no line enters in the whole run
abbrev pub Quiet : Bool → Lines → Type 0
Quiet lined l = (lined ≡ false) ⊎ (lowest_due l ≡ none)

-- none enters before the next instruction, where R and S are these
pub data Calm (lined : Bool) (l : Lines) (r s : ℕ) : Type 0 where
  quiet : Quiet lined l → Calm lined l r s
  blocked : (l.block ≡ 0 → ⊥) → Calm lined l r s
  no-return-room : returns_depth ≤ r → Calm lined l r s
  no-frame-room : subroutines_depth ≤ s → Calm lined l r s

-- a line might enter: lines are asked for at all, one might in this run, and no routine is in progress
abbrev pub held_in : Bool → ℕ → Lines → Bool
held_in lines heeds l = pick lines (pick (eqb heeds 0) false (eqb l.block 0)) false
