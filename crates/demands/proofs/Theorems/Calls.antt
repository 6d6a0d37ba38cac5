-- Demand 3 for hosts that hold a machine as bytes: any number of calls on the same bytes is one history.
use Rattle.std.specs.Prelude.{List, ◌⊎◌, ◌≡◌, refl, ℕ, length}
use Rattle.std.proofs.Common.{sym, ap, ◌∙◌, subst, arith}
use Rattle.machine.specs.Fits.{AllBytes, Exist}
use Rattle.machine.proofs.Laws.Carries.{run-carries}
use Rattle.machine.proofs.Laws.Summed.{budget_with, as-run}
use Rattle.machine.specs.Run.{After, run_of}
use Rattle.machine.specs.Sum.{run_summed}
use Rattle.machine.specs.declared.Machine.{Machine}
use Rattle.state.specs.Layout as layout
use Rattle.state.specs.Lent.{Lent}
use Rattle.state.specs.Laws.Spelling.{state-sound}
use Rattle.state.specs.Laws.Fits.{machine-carried, machine-exists, machine-whole}
use Rattle.host.specs.Handed.{Hands, wrong-length, run, handed_back}
use Rattle.demands.specs.History.{World, world_after, asked, host, History, here, then, joined, Resets}
use Rattle.demands.specs.Back.{Loses, through, Back}
use Rattle.demands.specs.Sessions.{Follows, none, next}
use Rattle.demands.specs.Calls.{Carries, Handled, Calls, over, host-call, host-asks, runs_of, OneHistory}
use Rattle.demands.proofs.Laws.Joined.{steps-joined, cycles-joined}
use Rattle.demands.proofs.Theorems.Sessions.{run-history, three-by-runs}

-- no two machines are carried by the same bytes
one-machine : (state : List ℕ) (m n : Machine) → Carries state m → Carries state n → m ≡ n
one-machine state m n a b = state-sound.only m n a.fit b.fit (a.spelled ∙ sym b.spelled)

as_long : (state : List ℕ) (m : Machine) → Carries state m → length state ≡ (layout.state).width
as_long state m carries = ap length (sym carries.spelled) ∙ state-sound.long m carries.fit

-- A call runs the machine that the bytes carry, and hands back bytes that carry the machine that the run leaves.
pub handled : (state memory : List ℕ) (budget sum : ℕ) (result : List ℕ) (handed : Lent) (m : Machine) → Carries state m → length result ≡ (layout.result).width
    → Hands state memory budget sum result handed → Handled memory budget sum m handed
handled state memory budget sum result handed m carries long (wrong-length h) =
    absurd (h (as_long state m carries, long))
handled state memory budget sum result handed m carries long (run n all also fit is kept) =
    subst (λ (x : Machine). Handled memory budget sum x handed) (one-machine state n m (record { fit = fit; spelled = is }) carries)
    (record { as-run = refl; bytes-carry = record { fit = kept; spelled = refl } })

-- And such a call there is, whatever memory of bytes, whatever budget and whatever sum the host hands in: what the promise says of the
-- machine that is left holds of every run.
pub answered : (state memory : List ℕ) (budget sum : ℕ) (result : List ℕ) (m : Machine) → Carries state m → AllBytes memory → length result ≡ (layout.result).width
    → Hands state memory budget sum result (handed_back (run_summed memory m budget sum))
answered state memory budget sum result m carries bytes long =
    let exist : Exist memory m = record { whole = machine-whole m carries.fit; fits = machine-exists m carries.fit; bytes = bytes } in
    let a = run_of memory m (budget_with sum budget) in
    let still = run-carries memory m (budget_with sum budget) exist in
    run m (as_long state m carries) long carries.fit carries.spelled
    (subst (λ (x : After). (layout.state).Fits x.ran.machine) (sym (as-run memory m budget sum)) (machine-carried a.ran.machine still.whole still.fits))

-- So the next call takes the very machine that was left: two calls are the two runs, one after the other.
pub handled-again : (state memory later : List ℕ) (budget sum again another : ℕ) (result other : List ℕ) (handed back : Lent) (m : Machine) → Carries state m
    → length result ≡ (layout.result).width → length other ≡ (layout.result).width
    → Hands state memory budget sum result handed → Hands handed.state later again another other back
    → Handled later again another (run_summed memory m budget sum).after.ran.machine back
handled-again state memory later budget sum again another result other handed back m carries long also first second =
    let left = (run_summed memory m budget sum).after.ran.machine in
    handled handed.state later again another other back left (handled state memory budget sum result handed m carries long first).bytes-carry also second

-- by what the host wrote for mask and requests since the last run
history-from : {state end : List ℕ} (calls : Calls state end) (w : World) (mask waiting : ℕ) → Carries state (asked mask waiting w.machine) → OneHistory calls w
history-from over w mask waiting carries =
    record { history = here; follows = none; mask = mask; waiting = waiting; bytes-carry = carries; steps = refl; cycles = refl }
history-from (host-call memory budget sum result (wrong-length other) rest) w mask waiting carries =
    let later = history-from rest w mask waiting carries in
    record {
      history = later.history;
      follows = later.follows;
      mask = later.mask;
      waiting = later.waiting;
      bytes-carry = later.bytes-carry;
      steps = later.steps;
      cycles = later.cycles;
    }
history-from (host-call {state = state} memory budget sum result (run m all long fits is kept) rest) w mask waiting carries =
    let same : m ≡ asked mask waiting w.machine =
    one-machine state m (asked mask waiting w.machine) (record { fit = fits; spelled = is }) carries in
    let begins : Machine = asked m.lines.mask m.lines.waiting w.machine in
    let as-begun : begins ≡ m = ap (λ (x : Machine). asked x.lines.mask x.lines.waiting w.machine) same ∙ sym same in
    let a = (run_summed memory begins budget sum).after in
    let told = (run_summed memory m budget sum).after in
    let as-told : a ≡ told = ap (λ (x : Machine). (run_summed memory x budget sum).after) as-begun in
    let now = run-history memory begins budget sum in
    let carries-on = subst (λ (x : After). Carries ((layout.state).bytes told.ran.machine) x.ran.machine) (sym as-told) (record { fit = kept; spelled = refl }) in
    let later = history-from rest (world_after a) a.ran.machine.lines.mask a.ran.machine.lines.waiting carries-on in
    let same-steps : a.ran.steps.0 ≡ told.ran.steps.0 = ap (λ (x : After). x.ran.steps.0) as-told in
    let same-cycles : a.ran.cycles.0 ≡ told.ran.cycles.0 = ap (λ (x : After). x.ran.cycles.0) as-told in
    record {
      history = then (host m.lines.mask m.lines.waiting refl) (joined now.history later.history);
      follows = next now later.follows;
      mask = later.mask;
      waiting = later.waiting;
      bytes-carry = later.bytes-carry;
      steps = omega (arith, steps-joined now.history later.history, now.steps, later.steps, same-steps);
      cycles = omega (arith, cycles-joined now.history later.history, now.cycles, later.cycles, same-cycles);
    }
history-from (host-asks {state = state} {asking = asking} m mask waiting before after rest) w old-mask old-waiting carries =
    let same = one-machine state m (asked old-mask old-waiting w.machine) before carries in
    let later = history-from rest w mask waiting (subst (λ (x : Machine). Carries asking (asked mask waiting x)) same after) in
    record {
      history = later.history;
      follows = later.follows;
      mask = later.mask;
      waiting = later.waiting;
      bytes-carry = later.bytes-carry;
      steps = later.steps;
      cycles = later.cycles;
    }

-- Any number of calls is one history, from the machine that the first bytes carry to the machine that the last ones carry: run after
-- run, each with the very machine that the one before it left, but for what the host wrote for mask and requests. It carries out as
-- many instructions as the calls report, in as many cycles.
pub one-history : {state end : List ℕ} (calls : Calls state end) (w : World) → Carries state w.machine → OneHistory calls w
one-history calls w carries = history-from calls w w.machine.lines.mask w.machine.lines.waiting carries

-- Demand 3 over any number of calls, with any memory, mask and requests from the host between them: where their history loses what a CATCH pushed, in
-- the same call or in a later one, that was a RESETSP, or the machine is back.
pub three-by-calls : {state end : List ℕ} (calls : Calls state end) {a o w v z b : World} → Carries state a.machine
    → (l : Loses a o w v z) (after : History z b) → Follows a (runs_of calls) (through l after) → Resets l.last ⊎ Back o v z
three-by-calls calls {a} carries l after follows = three-by-runs (machine-whole a.machine carries.fit) (runs_of calls) l after follows
