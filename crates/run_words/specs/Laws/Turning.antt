-- The loop of turns: what holds between two of them.
use Rattle.std.specs.Prelude.{◌≡◌, refl, Bool, true, false, List, ◌⊎◌, ℕ, ◌+◌, ◌-◌, ◌*◌, ◌%◌, ◌≤◌, ◌<◌, T, ltb, eqb, length, get_or, set}
use Rattle.std.proofs.Common.{ap, ◌∙◌, subst, inl, inr, arith, le_refl, eqb-true, eq-eqb, ne_eqb, ltb-false, length-set, set-set, get_or-set_same}
use Rattle.std.proofs.Math.Path.{sym, subst⁻¹}
use Rattle.std.proofs.lemmas.Bool.{eqb-false}
use Rattle.plain.specs.Choice.{pick}
use Rattle.plain.specs.All.{All}
use Rattle.plain.specs.Laws.All.{all-at, all_set}
use Rattle.machine.specs.Limits.{memory_length, most_budget, most_quantum, tasks_count}
use Rattle.machine.specs.Reach.{task}
use Rattle.machine.specs.Run.{After, after_of, run_from}
use Rattle.machine.specs.Tasks.{Task, task_of, paired, no_machine, no_task, task_at, ready, is_ready, nobodys, of_task, in_order, next_ready, following, left_by, Between, turn_length, as_task, after_turn, TasksAfter, ended_at, TurnsFrom, spent, idle, turn, start_of, can_keep, AllWhole, tasks_acceptable}
use Rattle.machine.proofs.Laws.Clash.{never}
use Rattle.machine.specs.Added.{added}
use Rattle.machine.proofs.Laws.Counted.{counted-on}
use Rattle.machine.proofs.Laws.Kept.{Good}
use Rattle.machine.proofs.Laws.TasksTaken.{taken}
use Rattle.machine.proofs.Laws.Circular.{next-ready}
use Rattle.machine.proofs.Laws.Turns.{GoodTask, good-tasks, turn-within, turn-length, to_go, less-to-go}
use Rattle.machine.specs.declared.Machine.{Machine}
use Rattle.machine.specs.declared.Ran.{Ran}
use Rattle.order.specs.Order.{first_kept}
use Rattle.run_words.specs.Clocks.{turned_to, idled_to, rest_or, between}
use Rattle.run_words.specs.declared.Clock.{Clock}
use Rattle.machine.proofs.Laws.Pairs.{paired-set, paired-length, paired_at}
use Rattle.run_words.specs.Laws.Pairs.{first-kept}

-- what the run is, once it is over
abbrev pub end_of : ℕ → List ℕ → List Machine → List ℕ → Clock → TasksAfter
end_of budget mem machines kept c =
    record { answer = c.answer; memory = mem; tasks = paired machines kept; steps = budget - c.unspent.0; cycles = c.cycles.0 }

-- the most steps of task t's turn: what is left of one that goes on is task 0's alone
abbrev pub most_of : ℕ → ℕ → ℕ → ℕ
most_of t rest quantum = pick (eqb t 0) (rest_or rest quantum) quantum

-- a turn of at most so many steps
abbrev pub turn_for : ℕ → Between → ℕ → After
turn_for most b t = run_from (task t) (as_task t) (turn_length most b.left) b.memory (task_at b.tasks t).machine 0 0

-- the run from here, where task 0 has so much left of its turn
pub data Within (quantum rest : ℕ) (b : Between) : TasksAfter → Type 0 where
  out : b.left ≡ 0 → Within quantum rest b (ended_at 1 b)
  nobody : 0 < b.left → next_ready b.tasks b.from ≡ nobodys → Within quantum rest b (ended_at 0 b)
  goes : {end : TasksAfter} (t : ℕ) → 0 < b.left → next_ready b.tasks b.from ≡ of_task t →
      TurnsFrom quantum (after_turn b t (turn_for (most_of t rest quantum) b t)) end → Within quantum rest b end

-- where it has nothing left of one, every turn is a whole one
whole-turn : (b : Bool) (quantum : ℕ) → pick b quantum quantum ≡ quantum
whole-turn true quantum = refl
whole-turn false quantum = refl

pub within-turns : {quantum : ℕ} {b : Between} {end : TasksAfter} → Within quantum 0 b end → TurnsFrom quantum b end
within-turns (out e) = spent e
within-turns (nobody some none) = idle some none
within-turns {quantum} {b} {end} (goes t some is rest) =
    turn t some is (subst (λ (most : ℕ). TurnsFrom quantum (after_turn b t (turn_for most b t)) end) (whole-turn (eqb t 0) quantum) rest)

-- task 0 is asked first
first-is : (tasks : List Task) → is_ready (task_at tasks 0) ≡ true → {t : ℕ} → next_ready tasks 0 ≡ of_task t → t ≡ 0
unfolding next_ready
first-is tasks on {t} e = let same : of_task 0 ≡ of_task t = sym (rw (on)) ∙ e in cc

asked-first : (t : ℕ) → t ≡ 0 → (tasks : List Task) → is_ready (task_at tasks t) ≡ true → next_ready tasks t ≡ of_task t
unfolding next_ready
asked-first t tz tasks = subst⁻¹ (λ (x : ℕ). is_ready (task_at tasks x) ≡ true → next_ready tasks x ≡ of_task x) tz (at_first tasks)
  where
    at_first : (tasks : List Task) → is_ready (task_at tasks 0) ≡ true → next_ready tasks 0 ≡ of_task 0
    at_first tasks on = rw (on)

-- a turn is no longer than it may be
turn-most : (most left : ℕ) → turn_length most left ≤ most
turn-most most left = go (ltb most left) refl
  where
    go : (b : Bool) → ltb most left ≡ b → pick b most left ≤ most
    go true e = le_refl most
    go false e = let over = ltb-false most left e in omega arith

short-turn : (most left : ℕ) → most ≤ left → turn_length most left ≡ most
short-turn most left fits = go (ltb most left) refl
  where
    go : (b : Bool) → ltb most left ≡ b → pick b most left ≡ most
    go true e = refl
    go false e = let over = ltb-false most left e in omega arith

pub record Turning (quantum rest budget : ℕ) (start : Between) (mem : List ℕ) (machines : List Machine) (kept : List ℕ) (c : Clock) : Type 0 where
  pub some : 1 ≤ quantum
  pub most : quantum ≤ most_quantum
  pub limit : budget ≤ most_budget
  pub from-within : c.from < tasks_count
  pub left-within : c.left.0 ≤ budget
  pub unspent-within : c.unspent.0 ≤ budget
  pub priced : c.cycles.0 ≤ 42 * (budget - c.left.0)
  pub long₀ : length start.memory ≡ memory_length
  pub long : length mem ≡ memory_length
  pub four-machines : length machines ≡ tasks_count
  pub four-kept : length kept ≡ tasks_count
  pub good : All GoodTask (paired machines kept)
  pub answer-open : 0 < c.left.0 → c.answer ≡ 1
  pub none-unspent : 0 < c.left.0 → c.unspent.0 ≡ 0
  pub rest-within : rest ≤ most_quantum
  pub mid : (rest ≡ 0) ⊎ ((c.from ≡ 0) × (get_or kept 0 0 ≡ ready))
  pub goes_on : 0 < c.left.0 → (end : TasksAfter) → Within quantum rest (between budget mem machines kept c) end → TurnsFrom quantum start end
  pub over : c.left.0 ≤ 0 → TurnsFrom quantum start (end_of budget mem machines kept c)

module _ {quantum rest budget : ℕ} {start : Between} where
  -- where the definition's run stands, the loop goes on
  stand : {mem : List ℕ} {machines : List Machine} {kept : List ℕ} {c : Clock} → 1 ≤ quantum → quantum ≤ most_quantum → budget ≤ most_budget →
      c.from < tasks_count → c.left.0 ≤ budget → c.cycles.0 ≤ 42 * (budget - c.left.0) → length start.memory ≡ memory_length → length mem ≡ memory_length →
      length machines ≡ tasks_count → length kept ≡ tasks_count → All GoodTask (paired machines kept) → c.answer ≡ 1 → c.unspent.0 ≡ 0 →
      rest ≤ most_quantum → (rest ≡ 0) ⊎ ((c.from ≡ 0) × (get_or kept 0 0 ≡ ready)) →
      ((end : TasksAfter) → Within quantum rest (between budget mem machines kept c) end → TurnsFrom quantum start end) →
      Turning quantum rest budget start mem machines kept c
  stand {mem} {machines} {kept} {c} some most limit from left priced long₀ long fm fk good answer unspent short mid on =
      record {
        some = some;
        most = most;
        limit = limit;
        from-within = from;
        left-within = left;
        unspent-within = omega arith;
        priced = priced;
        long₀ = long₀;
        long = long;
        four-machines = fm;
        four-kept = fk;
        good = good;
        answer-open = λ less. answer;
        none-unspent = λ less. unspent;
        rest-within = short;
        mid = mid;
        goes_on = λ less. on;
        over = λ none.
            let zero : c.left.0 ≡ 0 = omega arith in
            let same : budget - c.left.0 ≡ budget - c.unspent.0 = omega arith in
            subst (λ (n : ℕ). TurnsFrom quantum start (record { answer = c.answer; memory = mem; tasks = paired machines kept; steps = n; cycles = c.cycles.0 })) same
            (subst⁻¹ (λ (n : ℕ). TurnsFrom quantum start (record { answer = n; memory = mem; tasks = paired machines kept; steps = budget - c.left.0; cycles = c.cycles.0 })) answer
            (on (ended_at 1 (between budget mem machines kept c)) (out zero)));
      }

module _ {quantum rest budget : ℕ} {start : Between} where
  module _ {mem : List ℕ} {machines : List Machine} {kept : List ℕ} {c : Clock} (now : Turning quantum rest budget start mem machines kept c) (less : 0 < c.left.0) where
    abbrev here : Between
    here = between budget mem machines kept c

    as_many : length machines ≡ length kept
    as_many = now.four-machines ∙ sym now.four-kept

    -- whose turn it is, by the kept numbers
    asked : {w : _} → w ≡ first_kept kept (in_order tasks_count (c.from % tasks_count)) → next_ready (paired machines kept) c.from ≡ w
    unfolding next_ready
    asked e =
        let from : c.from % tasks_count ≡ c.from = omega (arith, now.from-within) in
        sym (e ∙ (ap (λ (t : ℕ). first_kept kept (in_order tasks_count t)) from ∙ first-kept machines kept as_many (in_order tasks_count c.from)))

    -- nobody's: the run is over
    pub idles : {w : _} → w ≡ first_kept kept (in_order tasks_count (c.from % tasks_count)) → w ≡ nobodys → {c' : Clock} → c' ≡ idled_to c →
        Turning quantum rest budget start mem machines kept c'
    idles e none ec =
        subst⁻¹ (Turning quantum rest budget start mem machines kept) ec
        (record {
          some = now.some;
          most = now.most;
          limit = now.limit;
          from-within = now.from-within;
          left-within = omega arith;
          unspent-within = now.left-within;
          priced = let old = now.priced in omega arith;
          long₀ = now.long₀;
          long = now.long;
          four-machines = now.four-machines;
          four-kept = now.four-kept;
          good = now.good;
          answer-open = λ h. absurd (omega arith);
          none-unspent = λ h. absurd (omega arith);
          rest-within = now.rest-within;
          mid = now.mid;
          goes_on = λ h. absurd (omega arith);
          over = λ h. now.goes_on less (ended_at 0 here) (nobody less (asked e ∙ none));
        })

    pub idles-less : {c' : Clock} → c' ≡ idled_to c → to_go (between budget mem machines kept c') < to_go here
    idles-less ec = subst⁻¹ (λ (x : Clock). to_go (between budget mem machines kept x) < to_go here) ec (omega arith)

    -- task t's
    module _ {w : _} (ew : w ≡ first_kept kept (in_order tasks_count (c.from % tasks_count))) {t : ℕ} (is : w ≡ of_task t) where
      next : next_ready (paired machines kept) c.from ≡ of_task t
      next = asked ew ∙ is

      chosen : (is_ready (task_at (paired machines kept) t) ≡ true) × (t < tasks_count)
      chosen = next-ready (paired machines kept) c.from t now.from-within next

      pub one-of-four : t < tasks_count
      one-of-four = chosen.1

      abbrev m : Machine
      m = get_or machines t no_machine

      pub good-here : GoodTask (task_of m (get_or kept t 0))
      good-here =
          subst GoodTask (paired_at machines kept t as_many)
          (all-at GoodTask (paired machines kept) now.good t no_task (omega (arith, paired-length machines kept now.four-machines now.four-kept, one-of-four)))

      pub is-ready : get_or kept t 0 ≡ ready
      is-ready = eqb-true (get_or kept t 0) ready (ap is_ready (sym (paired_at machines kept t as_many)) ∙ chosen.0)

      -- task 0 is the one that is in the midst of a turn
      pub others-whole : (t ≡ 0 → ⊥) → rest ≡ 0
      others-whole other = go now.mid
        where
          ready-first : c.from ≡ 0 → get_or kept 0 0 ≡ ready → t ≡ 0
          ready-first first on =
              first-is (paired machines kept)
              (ap is_ready (paired_at machines kept 0 as_many) ∙ eq-eqb (get_or kept 0 0) ready on)
              (ap (next_ready (paired machines kept)) (sym first) ∙ next)

          go : (rest ≡ 0) ⊎ ((c.from ≡ 0) × (get_or kept 0 0 ≡ ready)) → rest ≡ 0
          go (inl e) = e
          go (inr (first, on)) = absurd (other (ready-first first on))

      -- how long it is, and where it starts
      module _ {length : ℕ} (el : length ≡ turn_length (most_of t rest quantum) c.left.0) where
        length-within : length ≤ c.left.0
        length-within = omega (arith, turn-within (most_of t rest quantum) c.left.0)

        pub length_most : length ≤ most_budget
        length_most =
            let left = now.left-within in
            let limit = now.limit in
            omega (arith, length-within)

        pub length_some : 1 ≤ length
        length_some = subst⁻¹ (λ (n : ℕ). 1 ≤ n) el (turn-length (most_of t rest quantum) c.left.0 (some-most (eqb t 0) (eqb rest 0) refl) less)
          where
            some-most : (b z : Bool) → eqb rest 0 ≡ z → 1 ≤ pick b (pick z quantum rest) quantum
            some-most false z e = now.some
            some-most true true e = now.some
            some-most true false e = let other : rest ≡ 0 → ⊥ = eqb-false rest 0 e in omega arith

        -- what a stretch of it leaves
        module _ {mem' : List ℕ} {ran : Ran} (steps-within : ran.steps.0 ≤ length) (cycles-bounded : ran.cycles.0 ≤ 42 * ran.steps.0)
            (good-after : Good mem mem' ran.machine) (keeps-after : T (can_keep ran.answer)) (moves : ran.answer ≡ ready → 1 ≤ ran.steps.0)
          where
            abbrev a : After
            a = after_of mem' ran

            pub steps-left : ran.steps.0 ≤ c.left.0
            steps-left = omega (arith, length-within)

            pub cycles-within : c.cycles.0 + ran.cycles.0 ≤ 42 * most_budget
            cycles-within =
                let priced = now.priced in
                let left = now.left-within in
                let limit = now.limit in
                omega (arith, steps-left)

            abbrev machines' : List Machine
            machines' = set machines t ran.machine

            abbrev kept' : List ℕ
            kept' = set kept t ran.answer

            -- where the definition's run stands, whoever is asked next
            there : (from : ℕ) →
                between budget mem' machines' kept' (turned_to c from ran.steps.0 ran.cycles.0) ≡
                record {
                  memory = mem';
                  tasks = set (paired machines kept) t (left_by a);
                  from = from;
                  left = c.left.0 - ran.steps.0;
                  steps = budget - c.left.0 + ran.steps.0;
                  cycles = c.cycles.0 + ran.cycles.0;
                }
            there from =
                let left = now.left-within in
                let steps : budget - (c.left.0 - ran.steps.0) ≡ budget - c.left.0 + ran.steps.0 = omega (arith, steps-left) in
                rw (paired-set machines kept t ran.machine ran.answer, steps)

            stands : (rest' from : ℕ) → from < tasks_count → rest' ≤ most_quantum → (rest' ≡ 0) ⊎ ((from ≡ 0) × (get_or kept' 0 0 ≡ ready)) →
                ((end : TasksAfter) → Within quantum rest' (between budget mem' machines' kept' (turned_to c from ran.steps.0 ran.cycles.0)) end → TurnsFrom quantum start end) →
                Turning quantum rest' budget start mem' machines' kept' (turned_to c from ran.steps.0 ran.cycles.0)
            stands rest' from from_in short mid on =
                let priced = now.priced in
                let left = now.left-within in
                stand now.some now.most now.limit from_in (omega arith) (omega (arith, steps-left)) now.long₀ (good-after.same_length ∙ now.long)
                (length-set machines t ran.machine ∙ now.four-machines) (length-set kept t ran.answer ∙ now.four-kept)
                (subst⁻¹ (All GoodTask) (paired-set machines kept t ran.machine ran.answer)
                (all_set GoodTask (paired machines kept) now.good t (task_of ran.machine ran.answer)
                (record { whole = good-after.whole; formed = good-after.formed; keeps = keeps-after })))
                (now.answer-open less) (now.none-unspent less) short mid on

            pub turned-less : (from : ℕ) {c' : Clock} → c' ≡ turned_to c from ran.steps.0 ran.cycles.0 → to_go (between budget mem' machines' kept' c') < to_go here
            turned-less from ec =
                subst⁻¹ (λ (x : Clock). to_go (between budget mem' machines' kept' x) < to_go here) ec
                (subst⁻¹ (λ (b : Between). to_go b < to_go here) (there from)
                (less-to-go here t a steps-left moves
                (omega (arith, paired-length machines kept now.four-machines now.four-kept, one-of-four)) chosen.0))

            -- it is over
            pub turned_on : a ≡ turn_for (most_of t rest quantum) here t → {c' : Clock} → c' ≡ turned_to c (following t) ran.steps.0 ran.cycles.0 →
                Turning quantum 0 budget start mem' machines' kept' c'
            turned_on is-turn ec =
                subst⁻¹ (Turning quantum 0 budget start mem' machines' kept') ec
                (let within = one-of-four in
                stands 0 (following t) (omega arith) (omega arith) (inl refl)
                (λ end d.
                now.goes_on less end
                (goes t less next
                (subst (λ (x : After). TurnsFrom quantum (after_turn here t x) end) is-turn
                (subst (λ (b : Between). TurnsFrom quantum b end) (there (following t)) (within-turns d))))))

            -- it goes on, and is task 0's
            module _ (tz : t ≡ 0) {u : ℕ} (some : 1 ≤ u) (eu : length ≡ ran.steps.0 + u) (answer : ran.answer ≡ ready)
                (rest-is : turn_for (most_of t rest quantum) here t ≡ run_from (task t) (as_task t) u mem' ran.machine ran.steps.0 ran.cycles.0)
              where
                abbrev after : Between
                after = between budget mem' machines' kept' (turned_to c t ran.steps.0 ran.cycles.0)

                abbrev onward : After
                onward = run_from (task t) (as_task t) u mem' ran.machine 0 0

                own : task_at after.tasks t ≡ left_by a
                own =
                    ap (λ (b : Between). task_at b.tasks t) (there t) ∙
                    get_or-set_same (paired machines kept) t (left_by a) no_task (omega (arith, paired-length machines kept now.four-machines now.four-kept, one-of-four))

                -- what is left is the rest of the turn
                same_turn : turn_for (most_of t u quantum) after t ≡ onward
                same_turn =
                    let longest : most_of t u quantum ≡ u = ap (λ (x : ℕ). most_of x u quantum) tz ∙ ap (λ (b : Bool). pick b quantum u) (ne_eqb u 0 (λ z. omega arith)) in
                    let fits : u ≤ c.left.0 - ran.steps.0 = omega (arith, length-within) in
                    ap (λ (k : ℕ). run_from (task t) (as_task t) (turn_length k (c.left.0 - ran.steps.0)) mem' (task_at after.tasks t).machine 0 0) longest ∙
                    (ap (λ (k : ℕ). run_from (task t) (as_task t) k mem' (task_at after.tasks t).machine 0 0) (short-turn u (c.left.0 - ran.steps.0) fits) ∙
                    ap (λ (x : Task). run_from (task t) (as_task t) u mem' x.machine 0 0) own)

                -- and leaves what the whole turn leaves
                same_after : after_turn after t onward ≡ after_turn here t (turn_for (most_of t rest quantum) here t)
                same_after =
                    let left = now.left-within in
                    let counted = rest-is ∙ counted-on (task t) (as_task t) u mem' ran.machine ran.steps.0 ran.cycles.0 in
                    ap (λ (b : Between). after_turn b t onward) (there t) ∙
                    (added-on ∙ sym (ap (after_turn here t) counted))
                  where
                    added-on : after_turn
                        (record {
                          memory = mem';
                          tasks = set (paired machines kept) t (left_by a);
                          from = t;
                          left = c.left.0 - ran.steps.0;
                          steps = budget - c.left.0 + ran.steps.0;
                          cycles = c.cycles.0 + ran.cycles.0;
                        }) t onward ≡ after_turn here t (added ran.steps.0 ran.cycles.0 onward)
                    added-on =
                        let k = onward.ran.steps.0 in
                        let x = onward.ran.cycles.0 in
                        let lefts : c.left.0 - ran.steps.0 - k ≡ c.left.0 - (ran.steps.0 + k) = omega arith in
                        let steps : budget - c.left.0 + ran.steps.0 + k ≡ budget - c.left.0 + (ran.steps.0 + k) = omega arith in
                        let cycles : c.cycles.0 + ran.cycles.0 + x ≡ c.cycles.0 + (ran.cycles.0 + x) = omega arith in
                        rw (set-set (paired machines kept) t (left_by a) (left_by onward), lefts, steps, cycles)

                asked-again : next_ready after.tasks after.from ≡ of_task t
                asked-again = asked-first t tz after.tasks (ap is_ready own ∙ eq-eqb ran.answer ready answer)

                continues : {end : TasksAfter} → Within quantum u after end → Within quantum rest here end
                continues (out e) = absurd (omega (arith, length-within))
                continues (nobody left none) = never (cc (asked-again))
                continues {end} (goes v left is later) =
                    let same : v ≡ t = cc (asked-again) in
                    goes t less next
                    (subst (λ (b : Between). TurnsFrom quantum b end) (ap (after_turn after t) same_turn ∙ same_after)
                    (subst (λ (x : ℕ). TurnsFrom quantum (after_turn after x (turn_for (most_of x u quantum) after x)) end) same later))

                pub stays_on : {c' : Clock} → c' ≡ turned_to c t ran.steps.0 ran.cycles.0 → Turning quantum u budget start mem' machines' kept' c'
                stays_on ec =
                    subst⁻¹ (Turning quantum u budget start mem' machines' kept') ec
                    (stands u t one-of-four most-left (inr (tz, ready-still)) (λ end d. now.goes_on less end (continues d)))
                  where
                    most-most : (b z : Bool) → pick b (pick z quantum rest) quantum ≤ most_quantum
                    most-most false z = now.most
                    most-most true true = now.most
                    most-most true false = now.rest-within

                    most-left : u ≤ most_quantum
                    most-left =
                        let most = now.most in
                        let short = now.rest-within in
                        omega (arith, turn-most (most_of t rest quantum) c.left.0, most-most (eqb t 0) (eqb rest 0))

                    ready-still : get_or kept' 0 0 ≡ ready
                    ready-still =
                        subst (λ (x : ℕ). get_or kept' x 0 ≡ ready) tz
                        (get_or-set_same kept t ran.answer 0 (omega (arith, now.four-kept, one-of-four)) ∙ answer)

-- a run of tasks starts
pub begins : (mem : List ℕ) (machines : List Machine) (kept : List ℕ) (quantum budget : ℕ) → length machines ≡ tasks_count → length kept ≡ tasks_count →
    tasks_acceptable mem (paired machines kept) quantum budget ≡ true → AllWhole (paired machines kept) → {c : Clock} →
    c.from ≡ 0 → c.left.0 ≡ budget → c.unspent.0 ≡ 0 → c.cycles.0 ≡ 0 → c.answer ≡ 1 →
    Turning quantum 0 budget (start_of mem (paired machines kept) budget) mem machines kept c
begins mem machines kept quantum budget fm fk ok whole {c} from left unspent cycles answer =
    let k = taken mem (paired machines kept) quantum budget ok in
    let none : budget - c.left.0 ≡ 0 = omega arith in
    stand k.some k.most k.limit (omega arith) (omega arith) (omega arith) k.long k.long fm fk (good-tasks (paired machines kept) k.good whole) answer unspent (omega arith) (inl refl)
    (λ end d.
    subst (λ (b : Between). TurnsFrom quantum b end)
    (rw (from, none, left, cycles)) (within-turns d))
