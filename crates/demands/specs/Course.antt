-- The course of a run, or of a task's turn: completed instructions, and the reason why it ends.
use Rattle.std.specs.Prelude.{◌≡◌, Bool, true, false, ℕ, ◌+◌, ◌≤◌, ◌<◌}
use Rattle.machine.specs.Step.{refused, step_of}
use Rattle.machine.specs.Run.{After, Manner, passes}
use Rattle.machine.specs.declared.Reach.{Reach}
use Rattle.demands.specs.History.{World, world_after, Moment, step, enters, host, others, History, here, then, steps_in, cycles_in, Unbroken, Under}
use Rattle.demands.specs.Lines.{NoneEnters, NoneHeldBack}

-- the instruction that is carried out passes the turn: a PAUSE, where turns are taken
abbrev pub passes_at : Bool → {w v : World} → Moment w v → Bool
passes_at in_turns {w} (step reach k e) = passes in_turns w.memory w.machine
passes_at in_turns (enters n e kept is) = false
passes_at in_turns (host mask waiting e) = false
passes_at in_turns (others e) = false

-- none of the instructions passes the turn
abbrev pub NonePasses : Bool → {w v : World} → History w v → Type 0
NonePasses in_turns here = Unit {0}
NonePasses in_turns (then moment rest) = (passes_at in_turns moment ≡ false) × NonePasses in_turns rest

-- the last of them does, and none before it
abbrev pub LastPasses : Bool → {w v : World} → History w v → Type 0
LastPasses in_turns here = ⊥
LastPasses in_turns (then moment here) = passes_at in_turns moment ≡ true
LastPasses in_turns (then moment (then next rest)) = (passes_at in_turns moment ≡ false) × LastPasses in_turns (then next rest)

-- where lines may enter, they do; where they may not, none does
abbrev pub EntersAsItMay : Bool → {w v : World} → History w v → Type 0
EntersAsItMay true h = NoneHeldBack h
EntersAsItMay false h = NoneEnters h

-- why a run ends that had so many instructions left in its budget
pub data Reason (reach : Reach) (in_turns : Bool) (budget : ℕ) {w : World} (a : After) (h : History w (world_after a)) : Type 0 where
  -- all of them are completed
  spent : a.ran.answer ≡ 1 → steps_in h ≡ budget → NonePasses in_turns h → Reason reach in_turns budget a h
  -- the last one that is completed passed the turn
  passed : a.ran.answer ≡ 1 → steps_in h ≤ budget → LastPasses in_turns h → Reason reach in_turns budget a h
  -- the instruction that the counter is on, after a line has entered where one could, is the end of the program or is refused
  stopped : step_of reach a.memory a.ran.machine ≡ refused a.ran.answer → steps_in h < budget → NonePasses in_turns h →
      Reason reach in_turns budget a h

-- a run from w under a reach and in a manner, with n steps and c cycles counted before
pub record Course (reach : Reach) (manner : Manner) (budget : ℕ) (w : World) (n c : ℕ) (a : After) : Type 0 where
  pub history : History w (world_after a)
  pub unbroken : Unbroken history
  pub under : Under reach history
  pub lines : EntersAsItMay manner.lined history
  pub steps : a.ran.steps.0 ≡ n + steps_in history
  pub cycles : a.ran.cycles.0 ≡ c + cycles_in history
  pub reason : Reason reach manner.in_turns budget a history
