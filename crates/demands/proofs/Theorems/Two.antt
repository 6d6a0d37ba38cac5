-- Demand 2: a run is its instructions one after another, each counted once and at its price, and refused by the lowest number that applies.
-- A task's turn is one too, by the first test that holds.
use Rattle.std.specs.Prelude.{◌≡◌, Bool, true, false, List, [], ◌∷◌, map, ℕ, zero, suc, ◌+◌, ◌≤◌, ◌<◌, length, get_or}
use Rattle.std.proofs.Math.Path.{refl, ap}
use Rattle.std.proofs.Common.{sym, ◌∙◌, subst, arith}
use Rattle.machine.specs.Limits.{memory_length, most_budget}
use Rattle.machine.specs.Reach.{alone, task}
use Rattle.machine.specs.State.{Whole}
use Rattle.machine.specs.Codes.{cycles_end, code_pause, cycles_of, cycle_table}
use Rattle.machine.specs.Fetch.{instruction_at}
use Rattle.machine.specs.Rows.{top}
use Rattle.machine.specs.Checks.{Test}
use Rattle.machine.specs.Lines.{let_in}
use Rattle.machine.specs.Step.{refused, done, put, cost_of, row_at, tests_at, step_of}
use Rattle.machine.specs.Run.{After, Manner, by_itself, ended, passes, run_from, run_of, acceptable, CyclesBounded}
use Rattle.machine.specs.Tasks.{task_at, Between, turn_length, as_task, turn_of}
use Rattle.machine.proofs.Laws.Passed.{step-done}
use Rattle.machine.proofs.Laws.Costs.{run-bounded, cycle-at, cycle-past, cycle-branch}
use Rattle.machine.proofs.Laws.Prices.{by_code, zero-thrown}
use Rattle.machine.proofs.Laws.Kept.{step_kept, let-in-good}
use Rattle.machine.proofs.Laws.Accepted.{taken, accept}
use Rattle.machine.proofs.Laws.Steps.{after_done, run-spent, run-refused, run-done, run-taken, run-declined}
use Rattle.machine.specs.declared.Machine.{Machine}
use Rattle.machine.specs.declared.Reach.{Reach}
use Rattle.demands.specs.History.{World, world, code_at}
use Rattle.demands.specs.Course.{Reason, spent, passed, stopped, Course}
use Rattle.demands.proofs.Laws.Course.{course}
use Rattle.demands.proofs.Laws.Histories.{same_length}
use Rattle.machine.specs.Added.{added}
use Rattle.demands.specs.Lowest.{Applies, First, Lowest}
use Rattle.demands.proofs.Laws.Lowest.{none-applies}
use Rattle.demands.proofs.Laws.Refused.{refused-first, refused-lowest}
use Rattle.demands.proofs.Laws.Carried.{unrefused}
use Rattle.machine.proofs.Laws.Counted.{counted-on}

-- A run of acceptable input starts with nothing counted; any other input is answered 2.
pub starts : (mem : List ℕ) (m : Machine) (budget : ℕ) → acceptable mem m budget ≡ true → run_of mem m budget ≡ run_from alone by_itself budget mem m 0 0
starts mem m budget e = run-taken mem m budget e

pub declines : (mem : List ℕ) (m : Machine) (budget : ℕ) → acceptable mem m budget ≡ false → run_of mem m budget ≡ ended 2 mem m 0 0
declines mem m budget e = run-declined mem m budget e

module _ (reach : Reach) (manner : Manner) (mem : List ℕ) (m : Machine) (n c : ℕ) where
  -- The run of no instructions answers 1, whatever stands at the counter.
  pub spends : run_from reach manner zero mem m n c ≡ ended 1 mem m n c
  spends = run-spent reach manner mem m n c

  -- The run of budget + 1 is one step and the run of budget: no instruction is skipped, feigned or carried out twice.
  pub goes_on : (budget : ℕ) (mem' : List ℕ) (m' : Machine) (k : ℕ) → passes manner.in_turns mem (let_in manner.lined m) ≡ false → step_of reach mem (let_in manner.lined m) ≡ done mem' m' k →
      run_from reach manner (suc budget) mem m n c ≡ run_from reach manner budget mem' m' (suc n) (c + k)
  goes_on budget mem' m' k keeps e =
      run-done reach manner budget mem m n c mem' m' k e ∙
      ap (λ (b : Bool). after_done reach manner b budget mem' m' (suc n) (c + k)) keeps

  -- An instruction that passes the turn is counted as any other, and ends it.
  pub passes_on : (budget : ℕ) (mem' : List ℕ) (m' : Machine) (k : ℕ) → passes manner.in_turns mem (let_in manner.lined m) ≡ true → step_of reach mem (let_in manner.lined m) ≡ done mem' m' k →
      run_from reach manner (suc budget) mem m n c ≡ ended 1 mem' m' (suc n) (c + k)
  passes_on budget mem' m' k over e =
      run-done reach manner budget mem m n c mem' m' k e ∙
      ap (λ (b : Bool). after_done reach manner b budget mem' m' (suc n) (c + k)) over

  -- A refused instruction ends it there, with nothing counted for it; an entry before it stays.
  pub stops : (budget k : ℕ) → step_of reach mem (let_in manner.lined m) ≡ refused k → run_from reach manner (suc budget) mem m n c ≡ ended k mem (let_in manner.lined m) n c
  stops budget k e = run-refused reach manner budget mem m n c k e

-- The same between whole runs: what a run of budget + 1 leaves is what the run of budget leaves after the first step and an entry before it, one step and
-- that step's cycles added. So runs can be cut anywhere.
pub run-goes-on : (mem : List ℕ) (m : Machine) (budget : ℕ) (mem' : List ℕ) (m' : Machine) (k : ℕ) → Whole m →
    acceptable mem m (suc budget) ≡ true → step_of alone mem (let_in true m) ≡ done mem' m' k → run_of mem m (suc budget) ≡ added 1 k (run_of mem' m' budget)
run-goes-on mem m budget mem' m' k whole ok e =
    let t = taken mem m (suc budget) ok in
    let here = let-in-good true mem m whole t.formed in
    let g = step_kept alone mem (let_in true m) mem' m' k here.whole here.formed e in
    let within : budget ≤ most_budget = omega (arith, t.budget-within) in
    let ok' = accept mem' m' budget (record { long = g.same_length ∙ t.long; budget-within = within; formed = g.formed }) in
    let z : 0 + k ≡ k = omega arith in
    starts mem m (suc budget) ok ∙
    (goes_on alone by_itself mem m 0 0 budget mem' m' k refl e ∙
    (ap (λ (c : ℕ). run_from alone by_itself budget mem' m' 1 c) z ∙
    (counted-on alone by_itself budget mem' m' 1 k ∙ ap (added 1 k) (sym (starts mem' m' budget ok')))))

-- The steps reported are the completed instructions, and the cycles are the sum of what each of them takes: none is invented or lost.
pub counts : (mem : List ℕ) (m : Machine) (budget : ℕ) → acceptable mem m budget ≡ true → Course alone by_itself budget (world mem m) 0 0 (run_of mem m budget)
counts mem m budget e =
    subst (λ (a : After). Course alone by_itself budget (world mem m) 0 0 a) (sym (starts mem m budget e)) (course alone by_itself budget mem m 0 0)

-- So it is with each turn: its task's instructions under its reach, of which none but the last is a PAUSE.
pub turn-counts : (quantum : ℕ) (b : Between) (t : ℕ) →
    Course (task t) (as_task t) (turn_length quantum b.left) (world b.memory (task_at b.tasks t).machine) 0 0 (turn_of quantum b t)
turn-counts quantum b t = course (task t) (as_task t) (turn_length quantum b.left) b.memory (task_at b.tasks t).machine 0 0

-- What a completed instruction takes: by the cycle table, but 2 for a branch, 1 for THROW of 0 and 1 for PAUSE.
module _ (reach : Reach) (w v : World) (k : ℕ) (e : step_of reach w.memory w.machine ≡ done v.memory v.machine k) where
  cost : k ≡ cost_of (instruction_at reach w.memory w.machine.counter) w.machine
  cost = (step-done reach w.memory w.machine v.memory v.machine k e).cost

  cost-by-code : (code_at w ≡ 0x0D → top w.machine ≡ 0 → ⊥) → k ≡ cycles_of (code_at w)
  unfolding instruction_at
  cost-by-code other = cost ∙ by_code (instruction_at reach w.memory w.machine.counter) w.machine other

  pub by-table : code_at w < cycles_end → (code_at w ≡ 0x0D → top w.machine ≡ 0 → ⊥) → k ≡ get_or cycle_table (code_at w) 0
  by-table below other = cost-by-code other ∙ sym (cycle-at (code_at w) below)

  pub by-branch : 0x80 ≤ code_at w → k ≡ 2
  by-branch above = cost-by-code (λ is z. omega arith) ∙ cycle-branch (code_at w) above

  pub by-throw-of-zero : code_at w ≡ 0x0D → top w.machine ≡ 0 → k ≡ 1
  unfolding instruction_at
  by-throw-of-zero is z = cost ∙ zero-thrown (instruction_at reach w.memory w.machine.counter) w.machine is z

  pub by-pause : code_at w ≡ code_pause → k ≡ 1
  by-pause is = cost-by-code (λ throws z. omega arith) ∙ cycle-past (code_at w) (omega arith) (omega arith)

-- From n to 42n cycles for n steps.
pub bounded : (mem : List ℕ) (m : Machine) (budget : ℕ) → CyclesBounded (run_of mem m budget)
bounded mem m budget = go (acceptable mem m budget) refl
  where
    go : (b : Bool) → acceptable mem m budget ≡ b → CyclesBounded (run_of mem m budget)
    go true e =
        subst CyclesBounded (sym (starts mem m budget e))
        (run-bounded alone by_itself budget mem m 0 0 (omega arith) (omega arith))
    go false e =
        subst CyclesBounded (sym (declines mem m budget e)) (record { least = omega arith; most = omega arith })

-- The tests stand in this order: for the instruction's bytes 3 and 17, for the end of the program 0, then 4, 16 for RTI, 5 to 13, and for data 17.
pub in_order : (reach : Reach) (mem : List ℕ) (m : Machine) →
    map (λ (t : Test). t.number) (tests_at reach mem m) ≡ 3 ∷ 17 ∷ 0 ∷ 4 ∷ 16 ∷ 5 ∷ 6 ∷ 7 ∷ 8 ∷ 9 ∷ 10 ∷ 11 ∷ 12 ∷ 13 ∷ 17 ∷ []
in_order reach mem m = refl

-- A step is refused with the number of the first test that holds, and carried out exactly where none holds. This rules out a machine
-- that refuses at will, or that carries out what should be refused.
pub first-given : (reach : Reach) (mem : List ℕ) (m : Machine) (k : ℕ) → step_of reach mem m ≡ refused k → First k (tests_at reach mem m)
first-given reach mem m k e = refused-first reach mem m k e

pub none-applied : (reach : Reach) (mem : List ℕ) (m : Machine) (mem' : List ℕ) (m' : Machine) (k : ℕ) → step_of reach mem m ≡ done mem' m' k →
    (j : ℕ) → Applies j (tests_at reach mem m) → ⊥
none-applied reach mem m mem' m' k e j a = none-applies (tests_at reach mem m) (step-done reach mem m mem' m' k e).passed j a

pub carried-out : (reach : Reach) (mem : List ℕ) (m : Machine) → ((k : ℕ) → Applies k (tests_at reach mem m) → ⊥) →
    step_of reach mem m ≡ done (row_at reach mem m).memory (put (row_at reach mem m) m) (cost_of (instruction_at reach mem m.counter) m)
carried-out reach mem m none = unrefused reach mem m none

-- Alone that is the lowest number that applies, with 16 between 4 and 5, since past the end of memory there is no EXIT.
pub lowest-given : (mem : List ℕ) (m : Machine) (k : ℕ) → length mem ≤ memory_length → step_of alone mem m ≡ refused k → Lowest k (tests_at alone mem m)
lowest-given mem m k short e = refused-lowest mem m short k e

-- So a run that is not answered 1 or 2 is answered the lowest number that applies where it stopped.
pub lowest-answered : (mem : List ℕ) (m : Machine) (budget : ℕ) → acceptable mem m budget ≡ true → ((run_of mem m budget).ran.answer ≡ 1 → ⊥) →
    Lowest (run_of mem m budget).ran.answer (tests_at alone (run_of mem m budget).memory (run_of mem m budget).ran.machine)
lowest-answered mem m budget ok other = go c.reason
  where
    a : After
    a = run_of mem m budget

    c : Course alone by_itself budget (world mem m) 0 0 a
    c = counts mem m budget ok

    go : Reason alone false budget a c.history → Lowest a.ran.answer (tests_at alone a.memory a.ran.machine)
    go (spent is all none) = absurd (other is)
    go (passed is most last) = absurd (other is)
    go (stopped e below none) =
        lowest-given a.memory a.ran.machine a.ran.answer (omega (arith, same_length c.history c.unbroken, (taken mem m budget ok).long)) e
