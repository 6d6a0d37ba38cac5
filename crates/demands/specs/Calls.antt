-- Calls of the exported run on the same state bytes, one after another, with lines raised and masks set between them: what a host does
-- that holds a machine as bytes.
use Rattle.std.specs.Prelude.{List, [], ◌∷◌, ◌≡◌, ℕ, ◌+◌}
use Rattle.machine.specs.Sum.{run_summed}
use Rattle.machine.specs.declared.Machine.{Machine}
use Rattle.state.specs.Layout as layout
use Rattle.state.specs.Lent.{Lent}
use Rattle.host.specs.Handed.{Hands, wrong-length, run, handed_back}
use Rattle.demands.specs.History.{World, asked, History, steps_in, cycles_in}
use Rattle.demands.specs.Sessions.{Given, world_after_runs, Follows}

-- the bytes of a state carry a machine
pub record Carries (state : List ℕ) (m : Machine) : Type 0 where
  pub fit : (layout.state).Fits m
  pub spelled : (layout.state).bytes m ≡ state

-- a call ran the machine, and the bytes that it handed back carry the machine that the run left
pub record Handled (memory : List ℕ) (budget sum : ℕ) (m : Machine) (handed : Lent) : Type 0 where
  pub as-run : handed ≡ handed_back (run_summed memory m budget sum)
  pub bytes-carry : Carries handed.state (run_summed memory m budget sum).after.ran.machine

-- each call meets the exported function's promise; the host hands the state's bytes on, with any memory, any budget, any sum and any
-- buffer for the counts. Between calls it may write other numbers for mask and waiting requests, and leaves the rest of the bytes
pub data Calls : List ℕ → List ℕ → Type 0 where
  over : {state : List ℕ} → Calls state state
  host-call : {state end : List ℕ} (memory : List ℕ) (budget sum : ℕ) (result : List ℕ) {handed : Lent} → Hands state memory budget sum result handed
      → Calls handed.state end → Calls state end
  host-asks : {state asking end : List ℕ} (m : Machine) (mask waiting : ℕ) → Carries state m → Carries asking (asked mask waiting m)
      → Calls asking end → Calls state end

-- the runs of the calls, with the steps and the cycles that they report, added up; a call with a buffer of another length runs nothing
abbrev pub runs_of : {state end : List ℕ} → Calls state end → List Given
runs_of over = []
runs_of (host-call memory budget sum result (wrong-length other) rest) = runs_of rest
runs_of (host-call memory budget sum result (run m all long fits is kept) rest) =
    record { memory = memory; mask = m.lines.mask; waiting = m.lines.waiting; budget = budget; sum = sum } ∷ runs_of rest
runs_of (host-asks m mask waiting before after rest) = runs_of rest

abbrev pub steps_reported : {state end : List ℕ} → Calls state end → ℕ
steps_reported over = 0
steps_reported (host-call memory budget sum result (wrong-length other) rest) = steps_reported rest
steps_reported (host-call memory budget sum result (run m all long fits is kept) rest) = (run_summed memory m budget sum).after.ran.steps.0 + steps_reported rest
steps_reported (host-asks m mask waiting before after rest) = steps_reported rest

abbrev pub cycles_reported : {state end : List ℕ} → Calls state end → ℕ
cycles_reported over = 0
cycles_reported (host-call memory budget sum result (wrong-length other) rest) = cycles_reported rest
cycles_reported (host-call memory budget sum result (run m all long fits is kept) rest) = (run_summed memory m budget sum).after.ran.cycles.0 + cycles_reported rest
cycles_reported (host-asks m mask waiting before after rest) = cycles_reported rest

-- the history of these runs, with as many steps and cycles as the calls report; the last bytes carry the machine to which it leads, with
-- the mask and the requests that the host wrote last
pub record OneHistory {state end : List ℕ} (calls : Calls state end) (w : World) : Type 0 where
  pub history : History w (world_after_runs w (runs_of calls))
  pub follows : Follows w (runs_of calls) history
  pub mask : ℕ
  pub waiting : ℕ
  pub bytes-carry : Carries end (asked mask waiting (world_after_runs w (runs_of calls)).machine)
  pub steps : steps_in history ≡ steps_reported calls
  pub cycles : cycles_in history ≡ cycles_reported calls
