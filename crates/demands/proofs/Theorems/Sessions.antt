-- Every run is a history, and so is any number of runs with the host's changes of memory, mask and requests between them; demand 3 holds over them.
use Rattle.std.specs.Prelude.{◌⊎◌, ◌≡◌, refl, Bool, true, false, List, [], ◌∷◌, ℕ}
use Rattle.std.proofs.Common.{sym, ap, ◌∙◌, subst, arith}
use Rattle.machine.specs.Reach.{alone}
use Rattle.machine.specs.State.{well_formed, Whole}
use Rattle.machine.specs.Run.{After, by_itself, ended, run_of, acceptable}
use Rattle.machine.specs.Sum.{run_summed}
use Rattle.machine.proofs.Laws.Kept.{Formed, formed, formed-true, Steady, steady}
use Rattle.machine.proofs.Laws.Accepted.{taken}
use Rattle.machine.proofs.Laws.Steps.{run-taken, run-declined}
use Rattle.machine.proofs.Laws.Summed.{budget_with, as-run}
use Rattle.machine.specs.declared.Machine.{Machine}
use Rattle.demands.specs.History.{World, world, world_after, asked, step, host, History, here, then, joined, steps_in, Resets}
use Rattle.demands.specs.Back.{Loses, through, Back}
use Rattle.demands.specs.Sessions.{Given, begun, ran_by, RunHistory, Follows, none, next, SessionHistory}
use Rattle.demands.proofs.Laws.Course.{course}
use Rattle.demands.proofs.Laws.Joined.{steps-joined}
use Rattle.demands.proofs.Laws.Lowest.{clash}
use Rattle.demands.proofs.Theorems.Two.{declines}
use Rattle.demands.proofs.Theorems.Three.{three-from}

bare-history : (memory : List ℕ) (m : Machine) (budget : ℕ) → RunHistory (world memory m) (run_of memory m budget)
bare-history memory m budget = go (acceptable memory m budget) refl
  where
    go : (b : Bool) → acceptable memory m budget ≡ b → RunHistory (world memory m) (run_of memory m budget)
    go true e =
        let c = course alone by_itself budget memory m 0 0 in
        subst (RunHistory (world memory m)) (sym (run-taken memory m budget e))
        (record {
          history = c.history;
          unbroken = c.unbroken;
          under = c.under;
          steps = omega (arith, c.steps);
          cycles = omega (arith, c.cycles);
        })
    go false e =
        subst (RunHistory (world memory m)) (sym (run-declined memory m budget e))
        (record { history = here; unbroken = tt; under = tt; steps = refl; cycles = refl })

-- A run is a history of completed instructions and entries of lines, with the steps and the cycles that it reports.
pub run-history : (memory : List ℕ) (m : Machine) (budget sum : ℕ) → RunHistory (world memory m) (run_summed memory m budget sum).after
run-history memory m budget sum =
    subst (RunHistory (world memory m)) (sym (as-run memory m budget sum)) (bare-history memory m (budget_with sum budget))

-- Any number of runs is one history, from the machine that the first was given to what the last one left.
pub session-history : (w : World) (runs : List Given) → SessionHistory w runs
session-history w [] = record { history = here; follows = none }
session-history w (g ∷ gs) =
    let now = run-history g.memory (begun w g).machine g.budget g.sum in
    let later = session-history (world_after (ran_by w g)) gs in
    record { history = then (host g.mask g.waiting refl) (joined now.history later.history); follows = next now later.follows }

-- the machine with no mask and no requests: whether it is well formed goes by all else
abbrev bare : Machine → Machine
bare m = asked 0 0 m

bare-formed : (m : Machine) → Steady m → Formed (bare m)
bare-formed m h =
    record {
      p-within = h.p-within;
      flag-within = h.flag-within;
      lines-good = record { mask-within = omega arith; waiting-within = omega arith; waiting-even = refl; block_within = h.block_within };
      sound = h.sound;
    }

bare-steady : (m : Machine) → Steady (bare m) → Steady m
bare-steady m h = record { p-within = h.p-within; flag-within = h.flag-within; block_within = h.block_within; sound = h.sound }

-- a machine that is not well formed, whatever its mask and requests, is handed back by every run, with no step
unformed-declined : (w : World) (g : Given) → well_formed (bare w.machine) ≡ false → ran_by w g ≡ ended 2 g.memory (begun w g).machine 0 0
unformed-declined w g unformed =
    as-run g.memory (begun w g).machine g.budget g.sum
    ∙ declines g.memory (begun w g).machine budget (go (acceptable g.memory (begun w g).machine budget) refl)
  where
    budget : ℕ
    budget = budget_with g.sum g.budget

    go : (b : Bool) → acceptable g.memory (begun w g).machine budget ≡ b → acceptable g.memory (begun w g).machine budget ≡ false
    go true e =
        let t = taken g.memory (begun w g).machine budget e in
        absurd (clash _ (formed-true (bare w.machine) (bare-formed (begun w g).machine (steady (begun w g).machine t.formed))) unformed)
    go false e = e

unformed-still : {v w : World} {runs : List Given} {h : History w v} → well_formed (bare w.machine) ≡ false → Follows w runs h → steps_in h ≡ 0
unformed-still unformed none = refl
unformed-still {w} unformed (next {g = g} {later = later} now rest) =
    let is = unformed-declined w g unformed in
    let none_here : (ran_by w g).ran.steps.0 ≡ 0 = ap (λ (a : After). a.ran.steps.0) is in
    let none-later = unformed-still (ap (λ (a : After). well_formed (bare a.ran.machine)) is ∙ unformed) rest in
    omega (arith, steps-joined now.history later, now.steps, none_here, none-later)

-- Demand 3 over any number of runs: where their history loses what a CATCH pushed, in the same run or in a later one, that was a
-- RESETSP, or the machine is back. A machine that no run accepts, whatever its mask and requests, never comes to a CATCH.
pub three-by-runs : {a o w v z b : World} → Whole a.machine → (runs : List Given) (l : Loses a o w v z) (after : History z b)
    → Follows a runs (through l after) → Resets l.last ⊎ Back o v z
three-by-runs {a} {o} {w} {v} {z} whole runs l after follows = go (well_formed (bare a.machine)) refl
  where
    go : (b : Bool) → well_formed (bare a.machine) ≡ b → Resets l.last ⊎ Back o v z
    go true e = three-from whole (bare-steady a.machine (steady (bare a.machine) (formed (bare a.machine) e))) l
    go false e =
        absurd (omega (arith, unformed-still e follows, steps-joined l.before (then (step l.reach l.cost l.carried) (joined l.between (then l.last after)))))
