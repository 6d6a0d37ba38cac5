-- Every run is a history of completed instructions and entries of lines, and ends for a reason.
use Rattle.std.specs.Prelude.{◌≡◌, Bool, List}
use Rattle.std.proofs.Math.Path.{refl, sym}
use Rattle.std.proofs.Math.Bool.{true, false}
use Prim.Native.Nat.{ℕ, zero, suc, ◌+◌, ◌≤◌}
use Rattle.std.proofs.Common.{subst, arith}
use Rattle.machine.specs.Lines.{Line, none, line, entering, entered_by, after_line, let_in}
use Rattle.machine.specs.Step.{Stepped, refused, done, step_of}
use Rattle.machine.specs.Run.{After, Manner, passes, run_from}
use Rattle.machine.proofs.Laws.Entered.{settled}
use Rattle.machine.proofs.Laws.Steps.{after_done, after_step, run-spent, run-step}
use Rattle.machine.specs.declared.Machine.{Machine}
use Rattle.machine.specs.declared.Reach.{Reach}
use Rattle.demands.specs.History.{World, world, world_after, History, here, then, Moment, step, enters, host, others, steps_in}
use Rattle.demands.specs.Course.{passes_at, LastPasses, EntersAsItMay, Reason, spent, passed, stopped, Course}
use Rattle.demands.proofs.Laws.Lowest.{clash}

module _ (reach : Reach) (manner : Manner) where
  -- a first moment that keeps the turn
  later-passes : {w u v : World} (moment : Moment w u) (h : History u v) → passes_at manner.in_turns moment ≡ false → LastPasses manner.in_turns h →
      LastPasses manner.in_turns (then moment h)
  later-passes moment here keeps last = absurd last
  later-passes moment (then next rest) keeps last = (keeps, last)

  one_more : (budget k : ℕ) {w u : World} (a : After) (e : step_of reach w.memory w.machine ≡ done u.memory u.machine k)
      (h : History u (world_after a)) → passes manner.in_turns w.memory w.machine ≡ false → Reason reach manner.in_turns budget a h →
      Reason reach manner.in_turns (suc budget) a (then (step reach k e) h)
  one_more budget k a e h keeps (spent is all unpassed) = spent is (omega arith) (keeps, unpassed)
  one_more budget k a e h keeps (passed is within last) = passed is (omega arith) (later-passes (step reach k e) h keeps last)
  one_more budget k a e h keeps (stopped is below unpassed) = stopped is (omega arith) (keeps, unpassed)

  -- no line could enter before this instruction
  not-held : (lined : Bool) (w u : World) {v : World} (k : ℕ) (e : step_of reach w.memory w.machine ≡ done u.memory u.machine k) (h : History u v) →
      (lined ≡ true → entering w.machine ≡ none) → EntersAsItMay lined h → EntersAsItMay lined (then (step reach k e) h)
  not-held true w u k e h quiet rest = (quiet refl, rest)
  not-held false w u k e h quiet rest = rest

  none_yet : (lined : Bool) (w : World) → EntersAsItMay lined (here {w = w})
  none_yet true w = tt
  none_yet false w = tt

  -- what follows a completed instruction
  onward : (b : Bool) (left : ℕ) (mem : List ℕ) (m : Machine) (n c : ℕ) (mem' : List ℕ) (m' : Machine) (k : ℕ) → step_of reach mem m ≡ done mem' m' k →
      (manner.lined ≡ true → entering m ≡ none) → passes manner.in_turns mem m ≡ b →
      Course reach manner left (world mem' m') (suc n) (c + k) (run_from reach manner left mem' m' (suc n) (c + k)) →
      Course reach manner (suc left) (world mem m) n c (after_done reach manner b left mem' m' (suc n) (c + k))
  onward true left mem m n c mem' m' k e quiet is rest =
      record {
        history = then (step reach k e) here;
        unbroken = tt;
        under = (refl, tt);
        lines = not-held manner.lined (world mem m) (world mem' m') k e here quiet (none_yet manner.lined (world mem' m'));
        steps = omega arith;
        cycles = omega arith;
        reason = passed refl (omega arith) is;
      }
  onward false left mem m n c mem' m' k e quiet is rest =
      record {
        history = then (step reach k e) rest.history;
        unbroken = rest.unbroken;
        under = (refl, rest.under);
        lines = not-held manner.lined (world mem m) (world mem' m') k e rest.history quiet rest.lines;
        steps = omega (arith, rest.steps);
        cycles = omega (arith, rest.cycles);
        reason = one_more left k _ e rest.history is rest.reason;
      }

  course-step : (s : Stepped) (left : ℕ) (mem : List ℕ) (m : Machine) (n c : ℕ) → (manner.lined ≡ true → entering m ≡ none) → step_of reach mem m ≡ s →
      ((mem' : List ℕ) (m' : Machine) (n' c' : ℕ) → Course reach manner left (world mem' m') n' c' (run_from reach manner left mem' m' n' c')) →
      Course reach manner (suc left) (world mem m) n c (after_step reach manner left mem m n c s)
  course-step (refused number) left mem m n c quiet e more =
      record {
        history = here;
        unbroken = tt;
        under = tt;
        lines = none_yet manner.lined (world mem m);
        steps = omega arith;
        cycles = omega arith;
        reason = stopped e (omega arith) tt;
      }
  course-step (done mem' m' cost) left mem m n c quiet e more =
      onward (passes manner.in_turns mem m) left mem m n c mem' m' cost e quiet refl (more mem' m' (suc n) (c + cost))

  -- an entry before them
  enters-first : (budget : ℕ) {w u : World} (a : After) (k : ℕ) (e : entering w.machine ≡ line k) (kept : u.memory ≡ w.memory)
      (is : u.machine ≡ entered_by k w.machine) (h : History u (world_after a)) → Reason reach manner.in_turns budget a h →
      Reason reach manner.in_turns budget a (then (enters k e kept is) h)
  enters-first budget a k e kept is h (spent one all unpassed) = spent one all (refl, unpassed)
  enters-first budget a k e kept is h (passed one most last) = passed one most (later-passes (enters k e kept is) h refl last)
  enters-first budget a k e kept is h (stopped refusal below unpassed) = stopped refusal below (refl, unpassed)

  course-entered : (l : Line) (budget : ℕ) (mem : List ℕ) (m : Machine) (n c : ℕ) (a : After) → manner.lined ≡ true → entering m ≡ l →
      Course reach manner budget (world mem (after_line l m)) n c a → Course reach manner budget (world mem m) n c a
  course-entered none budget mem m n c a lined e rest = rest
  course-entered (line k) budget mem m n c a lined e rest =
      record {
        history = then (enters k e refl refl) rest.history;
        unbroken = rest.unbroken;
        under = rest.under;
        lines = as-may manner.lined lined rest.lines;
        steps = rest.steps;
        cycles = rest.cycles;
        reason = enters-first budget a k e refl refl rest.history rest.reason;
      }
    where
      as-may : (b : Bool) → b ≡ true → EntersAsItMay b rest.history → EntersAsItMay b (then (enters k e refl refl) rest.history)
      as-may true is h = h
      as-may false is h = absurd (clash _ is refl)

  -- the run from the machine before its next instruction
  from-here : (b : Bool) (budget : ℕ) (mem : List ℕ) (m : Machine) (n c : ℕ) (a : After) → manner.lined ≡ b →
      Course reach manner budget (world mem (let_in b m)) n c a → Course reach manner budget (world mem m) n c a
  unfolding let_in
  from-here true budget mem m n c a is rest = course-entered (entering m) budget mem m n c a is refl rest
  from-here false budget mem m n c a is rest = rest

  quiet-here : (b : Bool) (m : Machine) → b ≡ true → entering (let_in b m) ≡ none
  quiet-here true m is = settled m
  quiet-here false m is = absurd (clash _ is refl)

  pub course : (budget : ℕ) (mem : List ℕ) (m : Machine) (n c : ℕ) →
      Course reach manner budget (world mem m) n c (run_from reach manner budget mem m n c)
  course zero mem m n c =
      subst (λ (a : After). Course reach manner zero (world mem m) n c a) (sym (run-spent reach manner mem m n c))
      (record {
        history = here;
        unbroken = tt;
        under = tt;
        lines = none_yet manner.lined (world mem m);
        steps = omega arith;
        cycles = omega arith;
        reason = spent refl refl tt;
      })
  course (suc budget) mem m n c =
      let now = let_in manner.lined m in
      subst (λ (a : After). Course reach manner (suc budget) (world mem m) n c a)
      (sym (run-step reach manner budget mem m n c))
      (from-here manner.lined (suc budget) mem m n c _ refl
      (course-step (step_of reach mem now) budget mem now n c (quiet-here manner.lined m) refl (course budget)))

-- no more steps than the budget
pub within : {reach : Reach} {in_turns : Bool} {budget : ℕ} {w : World} {a : After} {h : History w (world_after a)} → Reason reach in_turns budget a h →
    steps_in h ≤ budget
within (spent is all unpassed) = omega arith
within (passed is most last) = most
within (stopped is below unpassed) = omega arith

-- where no turns are taken, none is passed
none_passes : {w v : World} (moment : Moment w v) → passes_at false moment ≡ true → ⊥
none_passes (step reach k e) is = clash _ is refl
none_passes (enters n e kept at) is = clash _ is refl
none_passes (host mask waiting e) is = clash _ is refl
none_passes (others e) is = clash _ is refl

pub none_passed : {w v : World} (h : History w v) → LastPasses false h → ⊥
none_passed here last = last
none_passed (then moment here) last = none_passes moment last
none_passed (then moment (then next rest)) last = none_passed (then next rest) last.1
