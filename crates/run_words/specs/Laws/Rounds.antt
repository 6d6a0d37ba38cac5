-- A round of the loop: what holds at its head, and how it goes on or ends the run.
use Rattle.std.specs.Prelude.{◌≡◌, refl, Bool, true, false, List, ℕ, zero, suc, ◌+◌, ◌-◌, ◌*◌, ◌≤◌, ◌<◌, T, length}
use Rattle.std.proofs.Common.{ap, sym, ◌∙◌, subst, not-suc-le-zero, arith, eq-eqb, ne_eqb}
use Rattle.std.proofs.Math.Path.{subst⁻¹}
use Rattle.plain.specs.Answer.{Answer, refuses, gives}
use Rattle.plain.specs.Choice.{both}
use Rattle.numbers.specs.Bytes.{byte_at}
use Rattle.links.specs.Depths.{cells_depth, returns_depth, subroutines_depth, exceptions_depth, most_copy_of_p}
use Rattle.links.specs.Linked.{copy_of_s, copy_of_p}
use Rattle.links.proofs.Laws.Sound.{Sound, Rise, Within}
use Rattle.links.specs.declared.Frame.{Frame}
use Rattle.links.specs.declared.Level.{Level}
use Rattle.links.specs.declared.Links.{Links}
use Rattle.machine.specs.Limits.{memory_length, most_budget}
use Rattle.machine.specs.Reach.{is_foreign}
use Rattle.machine.specs.Codes.{code_pause}
use Rattle.machine.specs.Fetch.{instruction_at}
use Rattle.machine.specs.Step.{Stepped, refused, done, carried, step_of}
use Rattle.machine.specs.Lines.{let_in}
use Rattle.machine.specs.Run.{ended, passes}
use Rattle.machine.proofs.Laws.Costs.{cost-bounded}
use Rattle.machine.proofs.Laws.Kept.{step_kept}
use Rattle.machine.proofs.Laws.Passed.{step-done}
use Rattle.machine.specs.declared.Lines.{Lines}
use Rattle.machine.specs.declared.Machine.{Machine}
use Rattle.machine.specs.declared.Reach.{Reach}
use Rattle.machine.specs.declared.Steps.{Steps}
use Rattle.machine.specs.declared.Cycles.{Cycles}
use Rattle.run_words.specs.Calm.{lines_enter, run_in, Quiet, Calm, held_in}
use Rattle.run_words.specs.Machines.{links_of, in_reach}
use Rattle.run_words.specs.Notes.{Aside}
use Rattle.run_words.specs.Promises.{fetched_of, Fetches}
use Rattle.run_words.specs.Registers.{machine_in, counted_to, halted_at, halted_by, paused_at, parted_at}
use Rattle.run_words.specs.Rounds.{Goes}
use Rattle.run_words.specs.declared.Registers.{Registers}
use Rattle.run_words.specs.Laws.Calms.{calm-stays, calm-rises, unheld-calm, unheld-none}
use Rattle.run_words.specs.Laws.Answered.{Acts, by-gift, by-refusal}
use Rattle.run_words.specs.Laws.CutOff.{code-there, step_is, cut_off, foreign-refused}
use Rattle.run_words.specs.Laws.Loop.{Here, advances, pauses, stops, spends}

-- the run goes on from here
pub record Going (reach : Reach) (in_turns : Bool) (mem₀ : List ℕ) (m₀ : Machine) (budget : ℕ) (mem : List ℕ) (m : Machine) (g : Registers) : Type 0 where
  pub none : g.unspent.0 ≡ 0
  pub unanswered : g.answer ≡ 1
  pub unmarked : g.again ≡ false
  pub calm : Calm (lines_enter reach) m.lines m.links.r m.links.s
  pub here : Here reach in_turns mem₀ m₀ budget mem m (budget - g.left.0) g.cycles.0

-- what holds at the loop's head
pub record Round (reach : Reach) (in_turns : Bool) (mem₀ : List ℕ) (m₀ : Machine) (budget heeds₀ : ℕ) (mem cells returns : List ℕ) (frames : List Frame) (levels : List Level) (aside : Aside) (g : Registers) : Type 0 where
  pub p-within : g.p ≤ cells_depth
  pub r-within : g.r ≤ returns_depth
  pub s-within : g.s ≤ subroutines_depth
  pub e-within : g.e ≤ exceptions_depth
  pub catcher : 1 ≤ g.e → (copy_of_p levels g.e ≤ most_copy_of_p) × (copy_of_s levels g.e < g.s)
  pub left-within : g.left.0 ≤ budget
  pub limit : budget ≤ most_budget
  pub unspent-within : g.unspent.0 ≤ budget
  pub priced : g.cycles.0 ≤ 42 * (budget - g.left.0)
  pub long₀ : length mem₀ ≡ memory_length
  pub long : length mem ≡ memory_length
  pub going : 0 < g.left.0 → Going reach in_turns mem₀ m₀ budget mem (machine_in cells returns frames levels aside g) g
  pub over : g.left.0 ≤ 0 → g.again ≡ false →
      ended g.answer mem (machine_in cells returns frames levels aside g) (budget - g.unspent.0) g.cycles.0 ≡ run_in reach in_turns budget mem₀ m₀ 0 0
  pub marks : g.again ≡ true → heeds₀ ≡ 0 → ⊥
  pub answered : g.again ≡ true → g.answer ≡ 0
  pub more : g.again ≡ true → Goes reach in_turns mem₀ m₀ budget mem (machine_in cells returns frames levels aside g) g.unspent.0 g.cycles.0

-- the top exception level's copies
top_within : (copy : ℕ → ℕ) (limit n : ℕ) → 0 < n → Within copy limit n → copy n ≤ limit
top_within copy limit zero h w = absurd (not-suc-le-zero h)
top_within copy limit (suc n) h w = w.0

top_below : (copy : ℕ → ℕ) (top n : ℕ) → 0 < n → Rise copy top n → copy n < top
top_below copy top zero h w = absurd (not-suc-le-zero h)
top_below copy top (suc n) h w = w.0

copies-within : (l : Links) → Sound l → 0 < l.e → (copy_of_p l.levels l.e ≤ most_copy_of_p) × (copy_of_s l.levels l.e < l.s)
copies-within l sound h =
    (top_within (copy_of_p l.levels) most_copy_of_p l.e h sound.depths-within, top_below (copy_of_s l.levels) l.s l.e h sound.subroutines-rise)

-- a run that is over has less left than before
pub halted-less : {A : Type 0} (g : Registers) {g' : Registers} {said : Answer A} {number : ℕ} → g' ≡ halted_by said g → said ≡ refuses number → 0 < g.left.0 →
    g'.left.0 < g.left.0
halted-less {A} g {g'} eg e less =
    let none : ◌≡◌ {A = ℕ} g'.left.0 0 = ap (λ (x : Registers). x.left.0) (eg ∙ ap (λ (a : Answer A). halted_by a g) e) in
    omega (arith, none)

-- what an instruction leaves to the counting
abbrev pub counts_of : Registers → Steps × (Cycles × (ℕ × (Steps × Bool)))
counts_of g = (g.left, (g.cycles, (g.answer, (g.unspent, g.again))))

-- not marked both ways
marked : {A : Type 0} {b : Bool} → b ≡ false → b ≡ true → A
marked not is = absurd (subst T (sym is ∙ not) tt)

-- the lines are as they were, and the stacks no lower
pub record Rising (aside aside' : Aside) (g moved : Registers) : Type 0 where
  pub lines_same : aside'.lines ≡ aside.lines
  pub r-rises : g.r ≤ moved.r
  pub s-rises : g.s ≤ moved.s

module _ {reach : Reach} {in_turns : Bool} {mem₀ : List ℕ} {m₀ : Machine} {budget heeds₀ : ℕ} where
  -- where the definition's run stands, the loop goes on
  round-here : {mem cells returns : List ℕ} {frames : List Frame} {levels : List Level} {aside : Aside} {g : Registers} →
      g.answer ≡ 1 → g.unspent.0 ≡ 0 → g.again ≡ false → g.left.0 ≤ budget →
      (0 < g.left.0 → Calm (lines_enter reach) aside.lines g.r g.s) →
      Here reach in_turns mem₀ m₀ budget mem (machine_in cells returns frames levels aside g) (budget - g.left.0) g.cycles.0 →
      Round reach in_turns mem₀ m₀ budget heeds₀ mem cells returns frames levels aside g
  round-here {mem} {cells} {returns} {frames} {levels} {aside} {g} unanswered none unmarked within calm here =
      let m = machine_in cells returns frames levels aside g in
      record {
        p-within = here.formed.p-within;
        r-within = here.formed.sound.r-within;
        s-within = here.formed.sound.s-within;
        e-within = here.formed.sound.e-within;
        catcher = copies-within (links_of returns g.r frames g.s levels g.e) here.formed.sound;
        left-within = within;
        limit = here.limit;
        unspent-within = omega arith;
        priced = here.priced;
        long₀ = here.long₀;
        long = here.long;
        going = λ less. record { none = none; unanswered = unanswered; unmarked = unmarked; calm = calm less; here = here };
        marks = λ is. marked unmarked is;
        answered = λ is. marked unmarked is;
        more = λ is. marked unmarked is;
        over = λ spent not.
            let same : budget - g.unspent.0 ≡ budget - g.left.0 = omega arith in
            ap (λ (n : ℕ). ended g.answer mem m n g.cycles.0) same ∙
            (ap (λ (a : ℕ). ended a mem m (budget - g.left.0) g.cycles.0) unanswered ∙
            spends reach in_turns mem₀ m₀ budget mem m (budget - g.left.0) g.cycles.0 here (omega arith));
      }

  -- nothing is spent at first
  pub begins : {mem cells returns : List ℕ} {frames : List Frame} {levels : List Level} {aside : Aside} {g : Registers} →
      g.answer ≡ 1 → g.unspent.0 ≡ 0 → g.again ≡ false → g.left.0 ≡ budget → g.cycles.0 ≡ 0 → Calm (lines_enter reach) aside.lines g.r g.s →
      Here reach in_turns mem₀ m₀ budget mem (machine_in cells returns frames levels aside g) 0 0 → Round reach in_turns mem₀ m₀ budget heeds₀ mem cells returns frames levels aside g
  begins {mem} {cells} {returns} {frames} {levels} {aside} {g} unanswered none unmarked all free calm here =
      let m = machine_in cells returns frames levels aside g in
      let start : 0 ≡ budget - g.left.0 = omega arith in
      round-here unanswered none unmarked (omega arith) (λ less. calm)
      (subst (λ (n : ℕ). Here reach in_turns mem₀ m₀ budget mem m n g.cycles.0) start (subst (λ (c : ℕ). Here reach in_turns mem₀ m₀ budget mem m 0 c) (sym free) here))

  module _ {mem cells returns : List ℕ} {frames : List Frame} {levels : List Level} {aside : Aside} {g : Registers}
      (round : Round reach in_turns mem₀ m₀ budget heeds₀ mem cells returns frames levels aside g) (less : 0 < g.left.0)
    where
      abbrev here : Machine
      here = machine_in cells returns frames levels aside g

      -- the step is refused: the run is over, with the refusal's number, and the machine stays
      over-with : {number : ℕ} → step_of reach mem here ≡ refused number → {g' : Registers} → g' ≡ halted_at g number →
          Round reach in_turns mem₀ m₀ budget heeds₀ mem cells returns frames levels aside g'
      over-with {number} e {g'} eg =
          subst⁻¹ (Round reach in_turns mem₀ m₀ budget heeds₀ mem cells returns frames levels aside) eg
          (record {
            p-within = round.p-within;
            r-within = round.r-within;
            s-within = round.s-within;
            e-within = round.e-within;
            catcher = round.catcher;
            left-within = omega arith;
            limit = round.limit;
            unspent-within = round.left-within;
            priced = let old = round.priced in omega arith;
            long₀ = round.long₀;
            long = round.long;
            going = λ h. absurd (omega arith);
            marks = λ is. marked (round.going less).unmarked is;
            answered = λ is. marked (round.going less).unmarked is;
            more = λ is. marked (round.going less).unmarked is;
            over = λ spent not.
                let within = round.left-within in
                stops reach in_turns mem₀ m₀ budget mem here (budget - g.left.0) g.cycles.0 number (round.going less).here (calm-stays (lines_enter reach) here (round.going less).calm) (omega arith) e;
          })

      -- a byte of the instruction is in another's part
      pub foreign-ends : {b : Bool} → b ≡ is_foreign (instruction_at reach mem g.counter).bar → b ≡ true → {g' : Registers} → g' ≡ halted_at g 17 →
          Round reach in_turns mem₀ m₀ budget heeds₀ mem cells returns frames levels aside g'
      foreign-ends eb e eg = over-with (foreign-refused reach mem here (sym eb ∙ e)) eg

      -- nothing is fetched
      pub fetch-ends : {said : Reach → Answer _} → Fetches mem g.counter said → {b : Bool} → b ≡ is_foreign (instruction_at reach mem g.counter).bar → b ≡ false →
          {number : ℕ} → said reach ≡ refuses number → {g' : Registers} → g' ≡ halted_at g number → Round reach in_turns mem₀ m₀ budget heeds₀ mem cells returns frames levels aside g'
      fetch-ends {said} ef eb own {number} e eg = over-with (cut_off reach mem here number (sym (ef reach (sym eb ∙ own)) ∙ e)) eg

-- an instruction is fetched, with budget left
pub record Found (reach : Reach) (in_turns : Bool) (mem₀ : List ℕ) (m₀ : Machine) (budget heeds₀ : ℕ) (mem cells returns : List ℕ) (frames : List Frame) (levels : List Level) (aside : Aside) (g : Registers)
    (code operand next : ℕ) : Type 0 where
  pub round : Round reach in_turns mem₀ m₀ budget heeds₀ mem cells returns frames levels aside g
  pub less : 0 < g.left.0
  pub fetched : fetched_of (instruction_at reach mem g.counter) ≡ gives (in_reach reach code operand next)

module _ {reach : Reach} {in_turns : Bool} {mem₀ : List ℕ} {m₀ : Machine} {budget heeds₀ : ℕ} {mem cells returns : List ℕ} {frames : List Frame} {levels : List Level} {aside : Aside} {g : Registers}
    {code operand next : ℕ} (found : Found reach in_turns mem₀ m₀ budget heeds₀ mem cells returns frames levels aside g code operand next)
  where
    is-step : step_of reach mem (machine_in cells returns frames levels aside g) ≡ carried (in_reach reach code operand next) mem (machine_in cells returns frames levels aside g)
    is-step = step_is reach mem (machine_in cells returns frames levels aside g) code operand next found.fetched

    -- PAUSE alone passes a turn
    no-pause : (code ≡ code_pause → ⊥) → passes in_turns mem (machine_in cells returns frames levels aside g) ≡ false
    no-pause other =
        ap (both in_turns) (ne_eqb (byte_at mem g.counter) code_pause (λ h. other (sym (code-there reach mem g.counter code operand next found.fetched) ∙ h))) ∙
        neither in_turns
      where
        neither : (b : Bool) → both b false ≡ false
        neither true = refl
        neither false = refl

    a-pause : code ≡ code_pause → passes in_turns mem (machine_in cells returns frames levels aside g) ≡ in_turns
    a-pause is =
        ap (both in_turns) (eq-eqb (byte_at mem g.counter) code_pause (code-there reach mem g.counter code operand next found.fetched ∙ is)) ∙ itself in_turns
      where
        itself : (b : Bool) → both b true ≡ b
        itself true = refl
        itself false = refl

    -- a step that is carried out and counted
    module _ {mem' cells' returns' : List ℕ} {frames' : List Frame} {levels' : List Level} {aside' : Aside} {moved : Registers} {cost : ℕ}
        (steps : carried (in_reach reach code operand next) mem (machine_in cells returns frames levels aside g) ≡ done mem' (machine_in cells' returns' frames' levels' aside' moved) cost)
        (same : counts_of moved ≡ counts_of g) {price : ℕ} (ep : price ≡ cost)
      where
        abbrev old : Machine
        old = machine_in cells returns frames levels aside g

        abbrev new : Machine
        new = machine_in cells' returns' frames' levels' aside' moved

        again-same : moved.again ≡ g.again
        again-same = ap (λ x. x.1.1.1.1) same

        left-same : moved.left.0 ≡ g.left.0
        left-same = ap (λ x. x.0.0) same

        cycles-same : moved.cycles.0 ≡ g.cycles.0
        cycles-same = ap (λ x. x.1.0.0) same

        -- where it passes no turn, the loop goes on
        still : let_in (lines_enter reach) old ≡ old
        still = calm-stays (lines_enter reach) old (found.round.going found.less).calm

        -- where the definition's run then stands
        there : passes in_turns mem old ≡ false → Here reach in_turns mem₀ m₀ budget mem' new (budget - (moved.left.0 - 1)) (moved.cycles.0 + price)
        there not =
            let now = found.round.going found.less in
            let within = found.round.left-within in
            let less = found.less in
            let left = left-same in
            let cycles = cycles-same in
            advances reach in_turns mem₀ m₀ budget mem old (budget - g.left.0) g.cycles.0 mem' new cost (budget - (moved.left.0 - 1)) (moved.cycles.0 + price)
            now.here still (omega arith) (is-step ∙ steps) not (omega arith) (omega arith)

        on : passes in_turns mem old ≡ false → (0 < moved.left.0 - 1 → Calm (lines_enter reach) aside'.lines moved.r moved.s) → Round reach in_turns mem₀ m₀ budget heeds₀ mem' cells' returns' frames' levels' aside' (counted_to moved price)
        on not calm =
            let now = found.round.going found.less in
            let within = found.round.left-within in
            let left = left-same in
            let answer : moved.answer ≡ g.answer = ap (λ x. x.1.1.0) same in
            let unspent : moved.unspent.0 ≡ g.unspent.0 = ap (λ x. x.1.1.1.0.0) same in
            round-here (answer ∙ now.unanswered) (unspent ∙ now.none) (again-same ∙ now.unmarked) (omega arith) calm (there not)

        -- where a line might enter, the loop ends and the run goes on
        parts-on : passes in_turns mem old ≡ false → {lines : Bool} {heeds : ℕ} → heeds ≡ heeds₀ → (lines ≡ false → heeds₀ ≡ 0) → (b : Bool) → held_in lines heeds aside'.lines ≡ b → (heeds ≡ 0 → Quiet (lines_enter reach) aside'.lines) →
            Round reach in_turns mem₀ m₀ budget heeds₀ mem' cells' returns' frames' levels' aside' (parted_at (counted_to moved price) b)
        parts-on not heeds-are unasked false held unheeded = on not (λ less. unheld-calm unheeded (λ off. heeds-are ∙ unasked off) held)
        parts-on not {lines} heeds-are unasked true held unheeded =
            let h = there not in
            let within = found.round.left-within in
            let less = found.less in
            let left = left-same in
            let left-then : budget - (budget - (moved.left.0 - 1)) ≡ moved.left.0 - 1 = omega arith in
            record {
              p-within = h.formed.p-within;
              r-within = h.formed.sound.r-within;
              s-within = h.formed.sound.s-within;
              e-within = h.formed.sound.e-within;
              catcher = copies-within (links_of returns' moved.r frames' moved.s levels' moved.e) h.formed.sound;
              left-within = omega arith;
              limit = h.limit;
              unspent-within = omega arith;
              priced = omega (arith, h.priced);
              long₀ = h.long₀;
              long = h.long;
              going = λ none. absurd (omega arith);
              over = λ spent not. marked not refl;
              marks = λ is h. marked (unheld-none lines aside'.lines (heeds-are ∙ h)) held;
              answered = λ is. refl;
              more = λ is.
                  record {
                    less = omega arith;
                    rest = h.same ∙ ap (λ (n : ℕ). run_in reach in_turns n mem' new (budget - (moved.left.0 - 1)) (moved.cycles.0 + price)) left-then;
                    priced = h.priced;
                    long = h.long;
                    whole = h.whole;
                    formed = h.formed;
                  };
            }

        -- what keeps the stacks no lower keeps lines out
        risen : Rising aside aside' g moved → Calm (lines_enter reach) aside'.lines moved.r moved.s
        risen rising =
            subst⁻¹ (λ (l : Lines). Calm (lines_enter reach) l moved.r moved.s) rising.lines_same
            (calm-rises (found.round.going found.less).calm rising.r-rises rising.s-rises)

        -- where it does, the run is over behind it
        over-behind : passes in_turns mem old ≡ true → Round reach in_turns mem₀ m₀ budget heeds₀ mem' cells' returns' frames' levels' aside' (halted_at (counted_to moved price) 1)
        over-behind passed =
            let here = (found.round.going found.less).here in
            let within = found.round.left-within in
            let less = found.less in
            let left = left-same in
            let cycles = cycles-same in
            let good = step_kept reach mem old mem' new cost here.whole here.formed (is-step ∙ steps) in
            let k = (step-done reach mem old mem' new cost (is-step ∙ steps)).cost in
            let paid = cost-bounded (instruction_at reach mem g.counter) old in
            let old-priced = here.priced in
            record {
              p-within = good.formed.p-within;
              r-within = good.formed.sound.r-within;
              s-within = good.formed.sound.s-within;
              e-within = good.formed.sound.e-within;
              catcher = copies-within (links_of returns' moved.r frames' moved.s levels' moved.e) good.formed.sound;
              left-within = omega arith;
              limit = here.limit;
              unspent-within = omega arith;
              priced = omega (arith, k, paid);
              long₀ = here.long₀;
              long = good.same_length ∙ here.long;
              going = λ h. absurd (omega arith);
              marks = λ is. marked (again-same ∙ (found.round.going found.less).unmarked) is;
              answered = λ is. marked (again-same ∙ (found.round.going found.less).unmarked) is;
              more = λ is. marked (again-same ∙ (found.round.going found.less).unmarked) is;
              over = λ spent not.
                  pauses reach in_turns mem₀ m₀ budget mem old (budget - g.left.0) g.cycles.0 mem' new cost (budget - (moved.left.0 - 1)) (moved.cycles.0 + price)
                  here still (omega arith) (is-step ∙ steps) passed (omega arith) (omega arith);
            }

        -- a PAUSE: the loop goes on, or the turn is passed
        pub paused : Rising aside aside' g moved → code ≡ code_pause → {counted : Registers} → counted ≡ counted_to moved price → {g' : Registers} → g' ≡ paused_at counted in_turns →
            Round reach in_turns mem₀ m₀ budget heeds₀ mem' cells' returns' frames' levels' aside' g'
        paused rising is ec eg =
            subst⁻¹ (Round reach in_turns mem₀ m₀ budget heeds₀ mem' cells' returns' frames' levels' aside') (eg ∙ ap (λ (x : Registers). paused_at x in_turns) ec) (go in_turns refl)
          where
            stays : Calm (lines_enter reach) aside'.lines moved.r moved.s
            stays = risen rising

            go : (b : Bool) → in_turns ≡ b → Round reach in_turns mem₀ m₀ budget heeds₀ mem' cells' returns' frames' levels' aside' (paused_at (counted_to moved price) b)
            go true e = over-behind (a-pause is ∙ e)
            go false e = on (a-pause is ∙ e) (λ less. stays)

    module _ {A : Type 0} {said : Answer A} {after : A → Stepped}
        (acts : Acts (in_reach reach code operand next) mem (machine_in cells returns frames levels aside g) said after)
      where
        -- a check refuses: the run is over
        pub ends : {number : ℕ} → said ≡ refuses number → {heard : Answer A} → heard ≡ said → {g' : Registers} → g' ≡ halted_by heard g →
            Round reach in_turns mem₀ m₀ budget heeds₀ mem cells returns frames levels aside g'
        ends {number} e {heard} eh eg =
            over-with found.round found.less (is-step ∙ by-refusal acts e) (eg ∙ ap (λ (a : Answer A). halted_by a g) (eh ∙ e))

        -- the instruction is carried out and counted, and no line can enter: the loop goes on
        pub goes : {values : A} → said ≡ gives values →
            {mem' cells' returns' : List ℕ} {frames' : List Frame} {levels' : List Level} {aside' : Aside} {moved : Registers} {cost : ℕ} →
            after values ≡ done mem' (machine_in cells' returns' frames' levels' aside' moved) cost → counts_of moved ≡ counts_of g → Rising aside aside' g moved →
            {price : ℕ} → price ≡ cost → {g' : Registers} → g' ≡ counted_to moved price →
            Round reach in_turns mem₀ m₀ budget heeds₀ mem' cells' returns' frames' levels' aside' g'
        goes e {mem'} {cells'} {returns'} {frames'} {levels'} {aside'} ea same rising ep eg =
            subst⁻¹ (Round reach in_turns mem₀ m₀ budget heeds₀ mem' cells' returns' frames' levels' aside') eg
            (on (by-gift acts e ∙ ea) same ep (no-pause acts.on) (λ less. risen (by-gift acts e ∙ ea) same ep rising))

        -- the same where one might
        pub goes_in : {values : A} → said ≡ gives values →
            {mem' cells' returns' : List ℕ} {frames' : List Frame} {levels' : List Level} {aside' : Aside} {moved : Registers} {cost : ℕ} →
            after values ≡ done mem' (machine_in cells' returns' frames' levels' aside' moved) cost → counts_of moved ≡ counts_of g →
            {price : ℕ} → price ≡ cost → {counted : Registers} → counted ≡ counted_to moved price → {lines : Bool} {heeds : ℕ} → heeds ≡ heeds₀ → (lines ≡ false → heeds₀ ≡ 0) → {b : Bool} → b ≡ held_in lines heeds aside'.lines →
            {g' : Registers} → g' ≡ parted_at counted b → (heeds ≡ 0 → Quiet (lines_enter reach) aside'.lines) →
            Round reach in_turns mem₀ m₀ budget heeds₀ mem' cells' returns' frames' levels' aside' g'
        goes_in e {mem'} {cells'} {returns'} {frames'} {levels'} {aside'} ea same ep ec heeds-are unasked {b} eb eg unheeded =
            subst⁻¹ (Round reach in_turns mem₀ m₀ budget heeds₀ mem' cells' returns' frames' levels' aside') (eg ∙ ap (λ (x : Registers). parted_at x b) ec)
            (parts-on (by-gift acts e ∙ ea) same ep (no-pause acts.on) heeds-are unasked b (sym eb) unheeded)
