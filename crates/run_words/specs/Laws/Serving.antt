-- The run that lines may enter: what holds between two stretches of the loop.
use Rattle.std.specs.Prelude.{◌≡◌, refl, Bool, true, List, ℕ, ◌+◌, ◌-◌, ◌*◌, ◌%◌, ◌^◌, ◌≤◌, ◌<◌, T, length}
use Rattle.std.proofs.Math.Path.{ap, sym, subst⁻¹}
use Rattle.std.proofs.Common.{◌∙◌, subst, inr}
use Rattle.std.proofs.Math.Bool.{false}
use native.Mathlib.Omega.{arith}
use Rattle.plain.specs.Choice.{pick}
use Rattle.links.specs.declared.Frame.{Frame}
use Rattle.links.specs.declared.Level.{Level}
use Rattle.machine.specs.Limits.{memory_length, most_budget}
use Rattle.machine.specs.Lines.{none, lowest_due, let_in}
use Rattle.machine.specs.Run.{ended, acceptable}
use Rattle.machine.specs.State.{Whole}
use Rattle.machine.specs.Sum.{sum_after}
use Rattle.machine.proofs.Laws.Accepted.{taken, accept}
use Rattle.machine.specs.Added.{added}
use Rattle.machine.proofs.Laws.Counted.{counted-on, counted-later, entered-before}
use Rattle.machine.proofs.Laws.Kept.{Formed, let-in-good}
use Rattle.machine.proofs.Laws.Steps.{run-spent}
use Rattle.machine.specs.declared.Machine.{Machine}
use Rattle.machine.specs.declared.Reach.{Reach}
use Rattle.machine.specs.declared.Steps.{Steps}
use Rattle.run_words.specs.Calm.{lines_enter, manner_in, run_in, Calm}
use Rattle.run_words.specs.Entries.{LetsIn, Attends}
use Rattle.run_words.specs.Levels.{frames_in, levels_in, note_in, pointers_in, in_rows, parked_in, Laid, Hold, Parks}
use Rattle.run_words.specs.Notes.{Note, Aside}
use Rattle.run_words.specs.Promises.{Bounded}
use Rattle.run_words.specs.Machines.{links_of}
use Rattle.run_words.specs.Registers.{begun_at, tallied_to, joined_to}
use Rattle.run_words.specs.Rounds.{Starts, Ends, Served}
use Rattle.run_words.specs.declared.Pointers.{Pointers}
use Rattle.run_words.specs.declared.Registers.{Registers}
use Rattle.run_words.specs.Laws.Losses.{nothing-lost, lost-later}

-- the run goes on from here
pub record Onward (reach : Reach) (mem₀ : List ℕ) (m₀ : Machine) (budget : ℕ) (mem : List ℕ) (m : Machine) (g : Registers) : Type 0 where
  pub none-spent : g.unspent.0 ≡ 0
  pub unanswered : g.answer ≡ 1
  pub rest : run_in reach false budget mem₀ m₀ 0 0 ≡ run_in reach false g.left.0 mem m (budget - g.left.0) g.cycles.0
  pub whole : Whole m
  pub formed : Formed m

pub record Serving (reach : Reach) (mem₀ : List ℕ) (m₀ : Machine) (budget lost₀ : ℕ) (mem cells returns : List ℕ) (rows : List (List ℕ)) (copies : List ℕ) (g : Registers) : Type 0 where
  pub bounded : Bounded reach
  pub lined : lines_enter reach ≡ true
  pub limit : budget ≤ most_budget
  pub left-within : g.left.0 ≤ budget
  pub unspent-within : g.unspent.0 ≤ budget
  pub priced : g.cycles.0 ≤ 42 * (budget - g.left.0)
  pub long₀ : length mem₀ ≡ memory_length
  pub long : length mem ≡ memory_length
  pub laid : Laid rows copies
  pub loses : (note_in rows).lost % 2 ^ 32 ≡ sum_after lost₀ mem mem₀
  pub unheeded : (note_in rows).heeds ≡ 0 → lowest_due (note_in rows).aside.lines ≡ none
  pub going : 0 < g.left.0 → Onward reach mem₀ m₀ budget mem (in_rows cells returns rows copies (pointers_in g)) g
  pub over : g.left.0 ≤ 0 →
      ended g.answer mem (in_rows cells returns rows copies (pointers_in g)) (budget - g.unspent.0) g.cycles.0 ≡ run_in reach false budget mem₀ m₀ 0 0

-- by whatever name its registers go
pub serving-as : {reach : Reach} {mem₀ : List ℕ} {m₀ : Machine} {budget lost₀ : ℕ} {mem cells returns : List ℕ} {rows : List (List ℕ)} {copies : List ℕ} {g g' : Registers} →
    g' ≡ g → Serving reach mem₀ m₀ budget lost₀ mem cells returns rows copies g → Serving reach mem₀ m₀ budget lost₀ mem cells returns rows copies g'
serving-as {reach} {mem₀} {m₀} {budget} {lost₀} {mem} {cells} {returns} {rows} {copies} = subst⁻¹ (Serving reach mem₀ m₀ budget lost₀ mem cells returns rows copies)

module _ {reach : Reach} {mem₀ : List ℕ} {m₀ : Machine} {budget lost₀ : ℕ} {mem cells returns : List ℕ} {rows : List (List ℕ)} {copies : List ℕ} {g : Registers}
    (now : Serving reach mem₀ m₀ budget lost₀ mem cells returns rows copies g) (less : 0 < g.left.0)
  where
    abbrev here : Machine
    here = in_rows cells returns rows copies (pointers_in g)

    module _ {at : Pointers} (ep : at ≡ pointers_in g) {returns₁ : List ℕ} {rows₁ : List (List ℕ)} {copies₁ : List ℕ} {to : Pointers}
        (lets : LetsIn returns rows copies at returns₁ rows₁ copies₁ to)
      where
        abbrev there : Machine
        there = in_rows cells returns₁ rows₁ copies₁ to

        entered : there ≡ let_in true here
        entered = lets.entered cells ∙ ap (λ (p : Pointers). let_in true (in_rows cells returns rows copies p)) ep

        good : Whole there × Formed there
        good =
            let o = now.going less in
            let k = let-in-good true mem here o.whole o.formed in
            (subst⁻¹ Whole entered k.whole, subst⁻¹ Formed entered k.formed)

        pub stretch-starts : Starts reach mem there rows₁ copies₁ g.left.0 true
        stretch-starts =
            record {
              accepted =
                  accept mem there g.left.0
                  (record { long = now.long; budget-within = (let l = now.left-within in let m = now.limit in omega arith); formed = good.1 });
              whole = good.0;
              laid = lets.laid;
              bounded = now.bounded;
              calm = subst⁻¹ (λ (b : Bool). Calm b (note_in rows₁).aside.lines to.r to.s) now.lined lets.calm;
              unheeded = λ h. inr (lets.quiet-kept (now.unheeded (sym lets.heeds-same ∙ h)));
              unasked = λ off. absurd (subst T off tt);
            }

        -- the run from here, in whatever it counts, is the run from where the line has entered
        same_from : (n c : ℕ) → run_in reach false g.left.0 mem here n c ≡ added n c (run_in reach false g.left.0 mem there 0 0)
        same_from n c =
            sym (entered-before reach (manner_in reach false) g.left.0 mem here n c less) ∙
            (ap (λ (b : Bool). run_in reach false g.left.0 mem (let_in b here) n c) now.lined ∙
            (ap (λ (x : Machine). run_in reach false g.left.0 mem x n c) (sym entered) ∙
            counted-on reach (manner_in reach false) g.left.0 mem there n c))

        module _ {note : Note} (en : note ≡ note_in rows₁) {mem' cells' returns' : List ℕ} {rows' : List (List ℕ)} {copies' : List ℕ} {after : Registers}
            (ends : Ends reach false mem there g.left.0 note mem' cells' returns' rows' copies' after)
          where
            -- steps and cycles so far
            abbrev n : ℕ
            n = budget - g.left.0

            abbrev c : ℕ
            c = g.cycles.0

            abbrev m' : Machine
            m' = in_rows cells' returns' rows' copies' (pointers_in after)

            lost-now : (note_in rows').lost % 2 ^ 32 ≡ sum_after lost₀ mem' mem₀
            lost-now =
                lost-later lost₀ (note_in rows).lost (note_in rows').lost mem₀ mem mem' now.loses
                (ends.leaves.loses ∙ ap (λ (x : ℕ). sum_after x mem' mem) (ap (λ (x : Note). x.lost) en ∙ lets.lost-same))

            unheeded-then : (note_in rows').heeds ≡ 0 → lowest_due (note_in rows').aside.lines ≡ none
            unheeded-then h =
                let heeds : (note_in rows).heeds ≡ 0 = sym lets.heeds-same ∙ (sym (ap (λ (x : Note). x.heeds) en) ∙ (sym ends.heeds-same ∙ h)) in
                ends.due-same ∙ (ap (λ (x : Note). lowest_due x.aside.lines) en ∙ lets.quiet-kept (now.unheeded heeds))

            abbrev cycles : ℕ
            cycles = c + after.cycles.0

            abbrev regs-then : Steps → Steps → ℕ → Bool → Registers
            regs-then left unspent answer again = tallied_to after left (record { 0 = cycles }) answer unspent again

            abbrev over-regs : Registers
            over-regs = regs-then after.left after.unspent after.answer after.again

            abbrev on-regs : Registers
            on-regs = regs-then after.unspent (record { 0 = 0 }) 1 false

            -- what a stretch leaves, whether it goes on or not
            serving-then : (left unspent : Steps) (answer : ℕ) (again : Bool) → left.0 ≤ budget → unspent.0 ≤ budget → cycles ≤ 42 * (budget - left.0) →
                (0 < left.0 → Onward reach mem₀ m₀ budget mem' m' (regs-then left unspent answer again)) →
                (left.0 ≤ 0 → ended answer mem' m' (budget - unspent.0) cycles ≡ run_in reach false budget mem₀ m₀ 0 0) →
                Serving reach mem₀ m₀ budget lost₀ mem' cells' returns' rows' copies' (regs-then left unspent answer again)
            serving-then left unspent answer again left-within unspent-within priced going over =
                record {
                  bounded = now.bounded;
                  lined = now.lined;
                  limit = now.limit;
                  left-within = left-within;
                  unspent-within = unspent-within;
                  priced = priced;
                  long₀ = now.long₀;
                  long = ends.leaves.long;
                  laid = ends.leaves.laid;
                  loses = lost-now;
                  unheeded = unheeded-then;
                  going = going;
                  over = over;
                }

            -- it is over
            ended-then : after.again ≡ false → Serving reach mem₀ m₀ budget lost₀ mem' cells' returns' rows' copies' over-regs
            ended-then not =
                let l = ends.leaves in
                let within = l.unspent-within in
                let none = l.nothing_left in
                let left = now.left-within in
                let steps : budget - after.unspent.0 ≡ n + (g.left.0 - after.unspent.0) = omega arith in
                let old = now.priced in
                let more = l.priced in
                serving-then after.left after.unspent after.answer after.again (omega arith) (omega arith) (omega arith) (λ h. absurd (omega arith))
                (λ h.
                ap (λ (k : ℕ). ended after.answer mem' m' k cycles) steps ∙
                (ap (added n c) (ends.same not) ∙ (sym (same_from n c) ∙ sym (now.going less).rest)))

            -- it goes on
            on_then : after.again ≡ true → Serving reach mem₀ m₀ budget lost₀ mem' cells' returns' rows' copies' on-regs
            on_then is =
                let o = ends.goes is in
                let fewer = o.less in
                let left = now.left-within in
                let old = now.priced in
                let more = o.priced in
                let steps : n + (g.left.0 - after.unspent.0) ≡ budget - after.unspent.0 = omega arith in
                let rest : run_in reach false budget mem₀ m₀ 0 0 ≡ run_in reach false after.unspent.0 mem' m' (budget - after.unspent.0) cycles =
                (now.going less).rest ∙
                (same_from n c ∙
                (ap (added n c) o.rest ∙
                (sym (counted-later reach (manner_in reach false) after.unspent.0 mem' m' n c (g.left.0 - after.unspent.0) after.cycles.0) ∙
                ap (λ (k : ℕ). run_in reach false after.unspent.0 mem' m' k cycles) steps))) in
                serving-then after.unspent (record { 0 = 0 }) 1 false (omega arith) (omega arith) (omega arith)
                (λ h. record { none-spent = refl; unanswered = refl; rest = rest; whole = o.whole; formed = o.formed })
                (λ h.
                let none : after.unspent.0 ≡ 0 = omega arith in
                let all : budget - 0 ≡ budget - after.unspent.0 = omega arith in
                sym
                (rest ∙
                (ap (λ (k : ℕ). run_in reach false k mem' m' (budget - after.unspent.0) cycles) none ∙
                (run-spent reach (manner_in reach false) mem' m' (budget - after.unspent.0) cycles ∙
                ap (λ (k : ℕ). ended 1 mem' m' k cycles) (sym all)))))

            pub stretched : {g' : Registers} → g' ≡ joined_to g after → Serving reach mem₀ m₀ budget lost₀ mem' cells' returns' rows' copies' g'
            stretched eg = serving-as eg (go after.again refl)
              where
                go : (b : Bool) → after.again ≡ b → Serving reach mem₀ m₀ budget lost₀ mem' cells' returns' rows' copies' (pick b on-regs over-regs)
                go true is = on_then is
                go false not = ended-then not

            pub stretched-less : {g' : Registers} → g' ≡ joined_to g after → g'.left.0 < g.left.0
            stretched-less eg = subst⁻¹ (λ (x : Registers). x.left.0 < g.left.0) eg (go after.again refl)
              where
                go : (b : Bool) → after.again ≡ b → (pick b on-regs over-regs).left.0 < g.left.0
                go true is = (ends.goes is).less
                go false not = omega (arith, ends.leaves.nothing_left)

            pub stretched-unmarked : {g' : Registers} → g' ≡ joined_to g after → g'.again ≡ false
            stretched-unmarked eg = ap (λ (x : Registers). x.again) eg ∙ go after.again refl
              where
                go : (b : Bool) → after.again ≡ b → (pick b on-regs over-regs).again ≡ false
                go true is = refl
                go false not = not

            pub joins : g.cycles.0 + after.cycles.0 ≤ 42 * most_budget
            joins =
                let old = now.priced in
                let more = ends.leaves.priced in
                let left = now.left-within in
                let limit = now.limit in
                omega arith

-- rows that hold the same levels, last THROW and lines show the same machine
held_same : (rows : List (List ℕ)) (copies : List ℕ) {rows' : List (List ℕ)} {copies' : List ℕ} {note : Note} → Hold rows' copies' (frames_in rows copies) (levels_in rows copies) note → note.aside ≡ (note_in rows).aside →
    (cells returns : List ℕ) (at : Pointers) → in_rows cells returns rows' copies' at ≡ in_rows cells returns rows copies at
held_same rows copies {rows'} {copies'} h same cells returns at =
    ap (λ (f : List Frame). shown f (levels_in rows' copies') (note_in rows').aside) h.frames-are ∙
    (ap (λ (v : List Level). shown (frames_in rows copies) v (note_in rows').aside) h.levels-are ∙
    ap (shown (frames_in rows copies) (levels_in rows copies)) (ap (λ (n : Note). n.aside) h.note-is ∙ same))
  where
    shown : List Frame → List Level → Aside → Machine
    shown f v a =
        record {
          cells = cells;
          p = at.p;
          links = links_of returns at.r f at.s v at.e;
          counter = at.counter;
          flag = at.flag;
          thrown = a.thrown;
          lines = a.lines;
        }

-- what is noted of lines alters nothing of the machine
pub record Attended (cells returns : List ℕ) (rows : List (List ℕ)) (copies : List ℕ) (start : Pointers) (rows' : List (List ℕ)) : Type 0 where
  pub same : in_rows cells returns rows' copies start ≡ in_rows cells returns rows copies start
  pub lost-same : (note_in rows').lost ≡ (note_in rows).lost
  pub still-laid : Laid rows' copies
  pub unheeded : (note_in rows').heeds ≡ 0 → lowest_due (note_in rows').aside.lines ≡ none

module _ (cells returns : List ℕ) {rows : List (List ℕ)} {copies : List ℕ} (start : Pointers) (laid : Laid rows copies) {rows' : List (List ℕ)} {b : Bool} (attends : Attends rows rows' b) where
  pub attended : Attended cells returns rows copies start rows'
  attended = go b refl
    where
      go : (some : Bool) → b ≡ some → Attended cells returns rows copies start rows'
      go false e =
          let q = attends.quiet e in
          record {
            same = ap (λ (l : List (List ℕ)). in_rows cells returns l copies start) q.0;
            lost-same = ap (λ (l : List (List ℕ)). (note_in l).lost) q.0;
            still-laid = subst⁻¹ (λ (l : List (List ℕ)). Laid l copies) q.0 laid;
            unheeded = λ h. ap (λ (l : List (List ℕ)). lowest_due (note_in l).aside.lines) q.0 ∙ q.1;
          }
      go true e =
          let held = attends.heeded e copies laid in
          let noted = held.note-is in
          record {
            same = held_same rows copies held refl cells returns start;
            lost-same = ap (λ (n : Note). n.lost) noted;
            still-laid = held.laid;
            unheeded = λ h. let one : (note_in rows').heeds ≡ 1 = ap (λ (n : Note). n.heeds) noted in absurd (omega arith);
          }

-- it starts
pub serving-first : {reach : Reach} {mem : List ℕ} {cells returns : List ℕ} {rows : List (List ℕ)} {copies : List ℕ} {start : Pointers} {left : ℕ} →
    acceptable mem (in_rows cells returns rows copies start) left ≡ true → Whole (in_rows cells returns rows copies start) → Laid rows copies → Bounded reach →
    lines_enter reach ≡ true → ((note_in rows).heeds ≡ 0 → lowest_due (note_in rows).aside.lines ≡ none) →
    Serving reach mem (in_rows cells returns rows copies start) left (note_in rows).lost mem cells returns rows copies (begun_at start left)
serving-first {reach} {mem} {cells} {returns} {rows} {copies} {start} {left} accepted whole laid bounded lined unheeded =
    let m = in_rows cells returns rows copies start in
    let t = taken mem m left accepted in
    let rest : run_in reach false left mem m 0 0 ≡ run_in reach false left mem m (left - left) 0 = ap (λ (n : ℕ). run_in reach false left mem m n 0) (omega arith) in
    record {
      bounded = bounded;
      lined = lined;
      limit = t.budget-within;
      left-within = omega arith;
      unspent-within = omega arith;
      priced = omega arith;
      long₀ = t.long;
      long = t.long;
      laid = laid;
      loses = nothing-lost (note_in rows).lost mem;
      unheeded = unheeded;
      going = λ less. record { none-spent = refl; unanswered = refl; rest = rest; whole = whole; formed = t.formed };
      over = λ spent.
          let zero : left ≡ 0 = omega arith in
          let all : left - left ≡ left - 0 = omega arith in
          sym
          (rest ∙
          (ap (λ (k : ℕ). run_in reach false k mem m (left - left) 0) zero ∙
          (run-spent reach (manner_in reach false) mem m (left - left) 0 ∙ ap (λ (k : ℕ). ended 1 mem m k 0) all)));
    }

-- registers that are parked leave the machine as it was
module _ {rows rows' : List (List ℕ)} {copies copies' : List ℕ} {g : Registers} (parks : Parks rows copies g rows' copies') where
  pub machine-parked : (cells returns : List ℕ) (at : Pointers) → in_rows cells returns rows' copies' at ≡ in_rows cells returns rows copies at
  machine-parked = held_same rows copies parks.held refl

  pub serving-parked : {reach : Reach} {mem₀ : List ℕ} {m₀ m₁ : Machine} {budget lost₀ lost₁ : ℕ} {mem cells returns : List ℕ} →
      m₁ ≡ m₀ → lost₁ ≡ lost₀ → g.again ≡ false → Serving reach mem₀ m₀ budget lost₀ mem cells returns rows copies g →
      Serving reach mem₀ m₁ budget lost₁ mem cells returns rows' copies' (parked_in rows' copies')
  serving-parked {reach} {mem₀} {m₀} {m₁} {budget} {lost₀} {lost₁} {mem} {cells} {returns} em el not now =
      subst⁻¹ (Serving reach mem₀ m₁ budget lost₁ mem cells returns rows' copies') (parks.parked not)
      (subst⁻¹ (λ (m : Machine). Serving reach mem₀ m budget lost₁ mem cells returns rows' copies' g) em
      (subst⁻¹ (λ (l : ℕ). Serving reach mem₀ m₀ budget l mem cells returns rows' copies' g) el
      (let same = machine-parked cells returns (pointers_in g) in
      let noted = parks.held.note-is in
      record {
        bounded = now.bounded;
        lined = now.lined;
        limit = now.limit;
        left-within = now.left-within;
        unspent-within = now.unspent-within;
        priced = now.priced;
        long₀ = now.long₀;
        long = now.long;
        laid = parks.held.laid;
        loses = ap (λ (n : Note). n.lost % 2 ^ 32) noted ∙ now.loses;
        unheeded = λ h. ap (λ (n : Note). lowest_due n.aside.lines) noted ∙ now.unheeded (sym (ap (λ (n : Note). n.heeds) noted) ∙ h);
        going = λ less. subst⁻¹ (λ (m : Machine). Onward reach mem₀ m₀ budget mem m g) same (now.going less);
        over = λ spent. ap (λ (m : Machine). ended g.answer mem m (budget - g.unspent.0) g.cycles.0) same ∙ now.over spent;
      })))

pub serving-last : {reach : Reach} {mem₀ : List ℕ} {m₀ m₁ : Machine} {budget lost₀ lost₁ : ℕ} → m₀ ≡ m₁ → lost₀ ≡ lost₁ → {mem cells returns : List ℕ} {rows : List (List ℕ)} {copies : List ℕ} {g : Registers} →
    Serving reach mem₀ m₀ budget lost₀ mem cells returns rows copies g → g.left.0 ≤ 0 → Served reach mem₀ m₁ budget lost₁ mem cells returns rows copies g
serving-last {reach} {mem₀} {m₀} {m₁} {budget} {lost₀} {lost₁} em el {mem} now spent =
    record {
      leaves =
          record {
            nothing_left = omega arith;
            unspent-within = now.unspent-within;
            priced = (let p = now.priced in omega arith);
            long = now.long;
            laid = now.laid;
            loses = now.loses ∙ ap (λ (n : ℕ). sum_after n mem mem₀) el;
          };
      same = now.over spent ∙ ap (λ (m : Machine). run_in reach false budget mem₀ m 0 0) em;
    }
