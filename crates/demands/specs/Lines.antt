-- Interrupt lines in a history: request P4.
use Rattle.std.specs.Prelude.{◌≡◌, Bool, true, false, List, ℕ, zero, suc, ◌<◌, ◌≤◌, eqb}
use Rattle.plain.specs.Choice.{pick}
use Rattle.machine.specs.Lines.{has_bit, is_due, none, entering}
use Rattle.machine.specs.Step.{Stepped, refused, done, step_of}
use Rattle.machine.specs.Run.{passes}
use Rattle.machine.specs.declared.Lines.{Lines}
use Rattle.machine.specs.declared.Machine.{Machine}
use Rattle.machine.specs.declared.Reach.{Reach}
use Rattle.demands.specs.History.{World, code_at, Moment, step, enters, host, others, History, here, then}

-- whether a routine is in progress, and whether line n waits
abbrev pub block_of : World → ℕ
block_of w = w.machine.lines.block

abbrev pub waits_at : ℕ → World → Bool
waits_at n w = has_bit n w.machine.lines.waiting

-- mask and requests are carried
abbrev pub Carried : Machine → Machine → Type 0
Carried m m' = (m'.lines.mask ≡ m.lines.mask) × (m'.lines.waiting ≡ m.lines.waiting)

-- no line enters
abbrev pub NoneEnters : {w v : World} → History w v → Type 0
NoneEnters here = Unit {0}
NoneEnters (then (step reach k e) rest) = NoneEnters rest
NoneEnters (then (enters n e kept is) rest) = ⊥
NoneEnters (then (host mask waiting e) rest) = NoneEnters rest
NoneEnters (then (others e) rest) = NoneEnters rest

-- no instruction is carried out while a line could enter before it
abbrev pub NoneHeldBack : {w v : World} → History w v → Type 0
NoneHeldBack here = Unit {0}
NoneHeldBack {w} (then (step reach k e) rest) = (entering w.machine ≡ none) × NoneHeldBack rest
NoneHeldBack (then (enters n e kept is) rest) = NoneHeldBack rest
NoneHeldBack (then (host mask waiting e) rest) = NoneHeldBack rest
NoneHeldBack (then (others e) rest) = NoneHeldBack rest

-- how often line n enters
abbrev pub times_entered : ℕ → {w v : World} → History w v → ℕ
times_entered n here = zero
times_entered n (then (step reach k e) rest) = times_entered n rest
times_entered n (then (enters i e kept is) rest) = pick (eqb i n) (suc (times_entered n rest)) (times_entered n rest)
times_entered n (then (host mask waiting e) rest) = times_entered n rest
times_entered n (then (others e) rest) = times_entered n rest

-- the host never raises line n: after each of its moves the line's request waits only where it did before
abbrev pub NeverRaised : ℕ → {w v : World} → History w v → Type 0
NeverRaised n here = Unit {0}
NeverRaised n (then (step reach k e) rest) = NeverRaised n rest
NeverRaised n (then (enters i e kept is) rest) = NeverRaised n rest
NeverRaised n {w} (then (host mask waiting e) rest) =
    (has_bit n waiting ≡ true → has_bit n w.machine.lines.waiting ≡ true) × NeverRaised n rest
NeverRaised n (then (others e) rest) = NeverRaised n rest

-- a moment that carries out an RTI
abbrev pub Returns : {w v : World} → Moment w v → Type 0
Returns {w} (step reach k e) = code_at w ≡ 0x3C
Returns (enters n e kept is) = ⊥
Returns (host mask waiting e) = ⊥
Returns (others e) = ⊥

-- none is carried out
abbrev pub NoneReturns : {w v : World} → History w v → Type 0
NoneReturns here = Unit {0}
NoneReturns (then moment rest) = (Returns moment → ⊥) × NoneReturns rest

-- line n, of 1 to 15, waits and is let in, and every lower line does not wait or is not let in
pub record LowestDue (l : Lines) (n : ℕ) : Type 0 where
  pub a-line : (1 ≤ n) × (n ≤ 15)
  pub waits : has_bit n l.waiting ≡ true
  pub let-in : has_bit n l.mask ≡ true
  pub lowest : (k : ℕ) → 1 ≤ k → k < n → is_due l k ≡ false

-- a step ends the run, as refused or by passing the turn; or the run goes on, and this holds of what the step leaves
abbrev pub Onward : Bool → (List ℕ → Machine → Type 0) → Stepped → Type 0
Onward passed Holds (refused number) = Unit {0}
Onward true Holds (done mem m cost) = Unit {0}
Onward false Holds (done mem m cost) = Holds mem m

-- among the instructions that a run without lines carries out there is none before which a line could enter
abbrev pub NoneCouldEnter : Reach → Bool → ℕ → List ℕ → Machine → Type 0
NoneCouldEnter reach in_turns zero mem m = Unit {0}
NoneCouldEnter reach in_turns (suc left) mem m =
    (entering m ≡ none) × Onward (passes in_turns mem m) (NoneCouldEnter reach in_turns left) (step_of reach mem m)
