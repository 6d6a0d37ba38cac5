-- Runs one after another: what a host does that holds a machine.
use Rattle.std.specs.Prelude.{List, [], ◌∷◌, ◌≡◌, refl, ℕ}
use Rattle.machine.specs.Reach.{alone}
use Rattle.machine.specs.Run.{After}
use Rattle.machine.specs.Sum.{run_summed}
use Rattle.demands.specs.History.{World, world, world_after, asked, host, History, here, then, joined, steps_in, cycles_in, Unbroken, Under}

-- what the host hands in for a run, beside the machine: any memory, any mask and any waiting requests, any budget and any sum
pub record Given : Type 0 where
  pub memory : List ℕ
  pub mask : ℕ
  pub waiting : ℕ
  pub budget : ℕ
  pub sum : ℕ

-- where the run begins, with the machine of w unaltered but for mask and requests, and what it leaves
abbrev pub begun : World → Given → World
begun w g = world g.memory (asked g.mask g.waiting w.machine)

abbrev pub ran_by : World → Given → After
ran_by w g = (run_summed g.memory (begun w g).machine g.budget g.sum).after

-- what these runs leave, one after another
abbrev pub world_after_runs : World → List Given → World
world_after_runs w [] = w
world_after_runs w (g ∷ gs) = world_after_runs (world_after (ran_by w g)) gs

-- a history of completed instructions and entries of lines alone, with all of memory in reach, from w to what a run left; as many
-- instructions as the run reports and in as many cycles
pub record RunHistory (w : World) (a : After) : Type 0 where
  pub history : History w (world_after a)
  pub unbroken : Unbroken history
  pub under : Under alone history
  pub steps : steps_in history ≡ a.ran.steps.0
  pub cycles : cycles_in history ≡ a.ran.cycles.0

-- a history from w to v that is these runs: for each of them the host's change of memory, mask and requests, then the history of the run
pub data Follows {v : World} : (w : World) → List Given → History w v → Type 0 where
  none : Follows v [] here
  next : {w : World} {g : Given} {gs : List Given} {later : History (world_after (ran_by w g)) v} (now : RunHistory (begun w g) (ran_by w g))
      → Follows (world_after (ran_by w g)) gs later → Follows w (g ∷ gs) (then (host g.mask g.waiting refl) (joined now.history later))

-- one history of all of them
pub record SessionHistory (w : World) (runs : List Given) : Type 0 where
  pub history : History w (world_after_runs w runs)
  pub follows : Follows w runs history
