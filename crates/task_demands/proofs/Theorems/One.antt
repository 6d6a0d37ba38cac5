-- Demand 1 for tasks: every run of tasks ends with 0, 1 or 2, within its budget, and the next run takes what it leaves.
use Rattle.std.specs.Prelude.{◌≡◌, refl, true, List, ℕ, ◌+◌, ◌*◌, ◌≤◌, ◌<◌, T, eqb, length, replicate}
use Rattle.std.proofs.Common.{◌∙◌, arith, eq-eqb, le-leb}
use Rattle.plain.specs.All.{All}
use Rattle.plain.specs.Laws.All.{all-at, all_set}
use Rattle.plain.specs.Laws.Choice.{is_true}
use Rattle.machine.proofs.Laws.Circular.{next-ready}
use Rattle.machine.specs.Limits.{memory_length, most_budget, most_quantum, tasks_count}
use Rattle.machine.specs.Reach.{task}
use Rattle.links.specs.Fresh.{fresh_links}
use Rattle.links.specs.Linked.{linked}
use Rattle.machine.specs.State.{well_formed, machine_with, fresh_machine}
use Rattle.machine.specs.Tasks.{Task, fresh_task, is_ready, task_at, Between, TasksAfter, ended_at, turn_length, as_task, turn_of, after_turn, can_keep, all_good, TurnsFrom, tasks_acceptable, RunsTasks, declined, ran, AllWhole, left_by, no_task}
use Rattle.machine.specs.Tasks as runs
use Rattle.machine.proofs.Laws.Clash.{clash}
use Rattle.machine.proofs.Laws.Costs.{run-bounded}
use Rattle.task_demands.specs.One.{Reason, spent, idle, Ended, One}
use Rattle.machine.proofs.Laws.After.{as_many}
use Rattle.task_demands.proofs.Laws.Circular.{none-ready}
use Rattle.machine.proofs.Laws.TasksTaken.{taken}
use Rattle.machine.proofs.Laws.Turns.{GoodTask, good-tasks, all-good, turn-within, turn-keeps, turn-steps, turn-good}

-- the numbers with which a turn ends: 1, or 0, 3 to 13, 16 and 17, by which an instruction is refused
pub turn-answer : (quantum : ℕ) (b : Between) (t : ℕ) → T (can_keep (turn_of quantum b t).ran.answer)
turn-answer quantum b t = turn-keeps (task t) (eqb t 0) (turn_length quantum b.left) b.memory (task_at b.tasks t).machine

-- fresh tasks are ready, and a run takes four of them
pub fresh-ready : is_ready fresh_task ≡ true
fresh-ready = refl

pub fresh-taken : (mem : List ℕ) (quantum budget : ℕ) → length mem ≡ memory_length → budget ≤ most_budget → 1 ≤ quantum → quantum ≤ most_quantum →
    tasks_acceptable mem (replicate tasks_count fresh_task) quantum budget ≡ true
unfolding tasks_acceptable well_formed linked fresh_machine machine_with fresh_links
fresh-taken mem quantum budget long limit some most =
    rw (eq-eqb (length mem) memory_length long, le-leb budget most_budget limit, le-leb 1 quantum some, le-leb quantum most_quantum most)

-- what holds between the turns of a run
record Holds (budget : ℕ) (b : Between) : Type 0 where
  from-within : b.from < tasks_count
  counted : b.left + b.steps ≡ budget
  least : b.steps ≤ b.cycles
  most : b.cycles ≤ 42 * b.steps
  long : length b.memory ≡ memory_length
  four : length b.tasks ≡ tasks_count
  good : All GoodTask b.tasks

turn_holds : (quantum budget : ℕ) (b : Between) (t : ℕ) → t < tasks_count → Holds budget b → Holds budget (after_turn b t (turn_of quantum b t))
turn_holds quantum budget b t within h =
    let k = turn_length quantum b.left in
    let m = (task_at b.tasks t).machine in
    let a = turn_of quantum b t in
    let own = all-at GoodTask b.tasks h.good t no_task (omega (arith, h.four)) in
    let g = turn-good (task t) (eqb t 0) k b.memory m own.whole own.formed in
    let cycles = run-bounded (task t) (as_task t) k b.memory m 0 0 (omega arith) (omega arith) in
    let steps : a.ran.steps.0 ≤ k = turn-steps (task t) (eqb t 0) k b.memory m in
    let short : k ≤ b.left = turn-within quantum b.left in
    record {
      from-within = omega arith;
      counted = omega (arith, h.counted);
      least = omega (arith, h.least, cycles.least);
      most = omega (arith, h.most, cycles.most);
      long = g.same_length ∙ h.long;
      four = as_many b t a ∙ h.four;
      good =
          all_set GoodTask b.tasks h.good t (left_by a)
          (record { whole = g.whole; formed = g.formed; keeps = turn-answer quantum b t });
    }

ended_at_lem : (budget answer : ℕ) (b : Between) → Holds budget b → Reason budget (ended_at answer b) → Ended budget (ended_at answer b)
ended_at_lem budget answer b h reason =
    let g = all-good b.tasks h.good in
    record {
      reason = reason;
      least = h.least;
      most = h.most;
      long = h.long;
      four = h.four;
      good = is_true (all_good b.tasks) g.0;
      whole = g.1;
    }

turns-end : {quantum budget : ℕ} {b : Between} {end : TasksAfter} → Holds budget b → TurnsFrom quantum b end → Ended budget end
turns-end {budget = budget} {b} h (runs.spent e) = ended_at_lem budget 1 b h (spent refl (omega (arith, h.counted)))
turns-end {budget = budget} {b} h (runs.idle some none) =
    ended_at_lem budget 0 b h
    (idle refl (omega (arith, h.counted)) (λ t within. none-ready b.tasks b.from t h.from-within within none))
turns-end {quantum} {budget} {b} h (runs.turn t some is rest) =
    turns-end (turn_holds quantum budget b t (next-ready b.tasks b.from t h.from-within is).1 h) rest

pub one : (mem : List ℕ) (tasks : List Task) (quantum budget : ℕ) (end : TasksAfter) → AllWhole tasks → RunsTasks mem tasks quantum budget end →
    One mem tasks quantum budget end
one mem tasks quantum budget end whole (declined bad) =
    record { declined = λ e. refl; ended = λ good. clash (tasks_acceptable mem tasks quantum budget) good bad }
one mem tasks quantum budget end whole (ran good run) =
    let t = taken mem tasks quantum budget good in
    record {
      declined = λ bad. clash (tasks_acceptable mem tasks quantum budget) good bad;
      ended = λ e.
          turns-end
          (record {
            from-within = omega arith;
            counted = omega arith;
            least = omega arith;
            most = omega arith;
            long = t.long;
            four = t.four;
            good = good-tasks tasks t.good whole;
          })
          run;
    }

-- what a run leaves is taken by the next, with any quantum and any budget within their limits
pub taken-again : (budget : ℕ) (end : TasksAfter) → Ended budget end → (quantum more : ℕ) → 1 ≤ quantum → quantum ≤ most_quantum → more ≤ most_budget →
    tasks_acceptable end.memory end.tasks quantum more ≡ true
unfolding tasks_acceptable
taken-again budget end h quantum more low high within =
    rw (
      eq-eqb (length end.memory) memory_length h.long,
      le-leb more most_budget within,
      le-leb 1 quantum low,
      le-leb quantum most_quantum high,
      eq-eqb (length end.tasks) tasks_count h.four,
    ) h.good
