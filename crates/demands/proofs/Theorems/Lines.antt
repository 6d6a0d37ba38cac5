-- Interrupt lines: one routine at a time, the lowest line first, each request once, and nothing where no line may enter.
use Rattle.std.specs.Prelude.{◌≡◌, refl, Bool, true, false, List, [], ◌∷◌, ℕ, suc, ◌≤◌, ◌<◌, eqb}
use Rattle.std.proofs.Common.{sym, ap, ◌∙◌, arith, eqb-true}
use Rattle.std.proofs.lemmas.Bool.{eqb-false}
use Rattle.plain.specs.Choice.{pick}
use Rattle.plain.specs.Laws.Choice.{both_true}
use Rattle.plain.specs.Zeros.{padded}
use Rattle.links.specs.Depths.{returns_depth, subroutines_depth}
use Rattle.machine.specs.Limits.{memory_length}
use Rattle.machine.specs.Reach.{alone}
use Rattle.machine.specs.Lines.{has_bit, is_due, none, line, lowest_due, entering, entered_by, let_in, raised}
use Rattle.machine.specs.State.{Whole, fresh_machine, machine_with}
use Rattle.machine.specs.Step.{done, step_of}
use Rattle.machine.specs.Run.{Manner, manner_of, run_from, run_of, acceptable}
use Rattle.machine.specs.AfterEntry.{AfterEntry}
use Rattle.machine.proofs.Laws.Clash.{never, clash}
use Rattle.machine.proofs.Laws.Lines.{enters as line-enters}
use Rattle.machine.proofs.Laws.Served.{bit-cleared, bit_kept}
use Rattle.machine.proofs.Laws.Entered as entries
use Rattle.machine.proofs.Laws.Raised as raising
use Rattle.machine.proofs.Laws.Releases.{LinesAfter, same, freed, lines_after, waiting_kept, only-rti}
use Rattle.machine.specs.declared.Lines.{Lines}
use Rattle.machine.specs.declared.Machine.{Machine}
use Rattle.machine.specs.declared.Ran.{Ran}
use Rattle.machine.specs.declared.Reach.{Reach}
use Rattle.demands.specs.History.{World, code_at, asked, Moment, step, enters, host, others, History, here, then, Unbroken}
use Rattle.demands.specs.Lines.{block_of, waits_at, NoneEnters, times_entered, NeverRaised, Returns, NoneReturns, LowestDue, NoneCouldEnter}
use Rattle.demands.proofs.Laws.Unentered as unentered
use Rattle.demands.proofs.Theorems.Two.{starts, counts}

-- Without a line that waits and is let in, a run is the run without the unit: every step, count, byte and answer, for every budget,
-- for one machine and in a task's turn.
pub as-without : (reach : Reach) (in_turns : Bool) (left : ℕ) (mem : List ℕ) (m : Machine) (n c : ℕ) → lowest_due m.lines ≡ none →
    run_from reach (manner_of in_turns true) left mem m n c ≡ run_from reach (manner_of in_turns false) left mem m n c
as-without reach in_turns left mem m n c quiet = unentered.without-lines reach in_turns left mem m n c quiet

pub run-as-without : (mem : List ℕ) (m : Machine) (budget : ℕ) → acceptable mem m budget ≡ true → lowest_due m.lines ≡ none →
    run_of mem m budget ≡ run_from alone (manner_of false false) budget mem m 0 0
run-as-without mem m budget ok quiet = starts mem m budget ok ∙ as-without alone false budget mem m 0 0 quiet

-- So it is wherever none could enter before any of its instructions: where lines wait that are let in, too, and a routine in progress or
-- the want of room keeps them out to its end.
pub as-without-entries : (reach : Reach) (in_turns : Bool) (left : ℕ) (mem : List ℕ) (m : Machine) (n c : ℕ) → NoneCouldEnter reach in_turns left mem m →
    run_from reach (manner_of in_turns true) left mem m n c ≡ run_from reach (manner_of in_turns false) left mem m n c
as-without-entries reach in_turns left mem m n c none-could = unentered.without-entries reach in_turns left mem m n c none-could

-- The line that enters is the lowest that waits and is let in.
pub lowest-enters : (m : Machine) (n : ℕ) → entering m ≡ line n → LowestDue m.lines n
lowest-enters m n e =
    let found = line-enters m n e in
    let due = both_true (has_bit n m.lines.waiting) (has_bit n m.lines.mask) found.due in
    record {
      a-line = found.within;
      waits = due.0;
      let-in = due.1;
      lowest = entries.lower-not-due m.lines n found.lowest found.within.1;
    }

-- And none is held back: with no routine in progress and room for a call, no line enters only where none waits that is let in.
pub none-held-back : (m : Machine) → m.lines.block ≡ 0 → m.links.r < returns_depth → m.links.s < subroutines_depth → entering m ≡ none →
    (k : ℕ) → 1 ≤ k → k ≤ 15 → is_due m.lines k ≡ false
none-held-back m free r s e = entries.none-due m.lines (sym (entries.lowest-enters m free r s) ∙ e)

-- An instruction that is carried out and is no RTI leaves the block.
block-kept : (reach : Reach) (w v : World) (k : ℕ) → step_of reach w.memory w.machine ≡ done v.memory v.machine k → (code_at w ≡ 0x3C → ⊥) →
    block_of v ≡ block_of w
block-kept reach w v k e other = ap (λ (l : Lines). l.block) (only-rti reach w.memory w.machine v.memory v.machine k e other)

-- So only RTI releases it: EXIT, THROW, R> and RESETSP leave it, and so do the host and the other tasks.
pub only-rti-releases : (w v : World) (moment : Moment w v) → block_of w ≡ 1 → (Returns moment → ⊥) → block_of v ≡ 1
only-rti-releases w v (step reach k e) set other = block-kept reach w v k e other ∙ set
only-rti-releases w v (enters n e kept is) set other = ap (λ (m : Machine). m.lines.block) is
only-rti-releases w v (host mask waiting e) set other = ap (λ (m : Machine). m.lines.block) e ∙ set
only-rti-releases w v (others e) set other = ap (λ (m : Machine). m.lines.block) e ∙ set

-- At most one routine is in progress: the block stays 0 or 1 over any history.
pub one_at_most : {w v : World} → History w v → block_of w ≤ 1 → block_of v ≤ 1
one_at_most here h = h
one_at_most {w} (then {u = x} moment rest) h = one_at_most rest (next w x moment h)
  where
    after : (l l' : Lines) → LinesAfter l l' → l.block ≤ 1 → l'.block ≤ 1
    after l l' same h = h
    after l l' freed h = omega arith

    next : (w v : World) → Moment w v → block_of w ≤ 1 → block_of v ≤ 1
    next w v (step reach k e) h =
        after w.machine.lines v.machine.lines (lines_after reach w.memory w.machine v.memory v.machine k e) h
    next w v (enters n e kept is) h = omega (arith, ap (λ (m : Machine). m.lines.block) is)
    next w v (host mask waiting e) h = omega (arith, ap (λ (m : Machine). m.lines.block) e)
    next w v (others e) h = omega (arith, ap (λ (m : Machine). m.lines.block) e)

-- While one is in progress no line enters, as long as no RTI is carried out; and it is still in progress at the end.
pub none-while-busy : {w v : World} (h : History w v) → block_of w ≡ 1 → NoneReturns h → NoneEnters h × (block_of v ≡ 1)
none-while-busy here set none-return = (tt, set)
none-while-busy {w} (then {u = x} (step reach k e) rest) set (other, later) =
    none-while-busy rest (only-rti-releases w x (step reach k e) set other) later
none-while-busy {w} (then (enters n e kept is) rest) set later =
    never (let z = sym e ∙ entries.none-while-blocked w.machine set in cc)
none-while-busy {w} (then {u = x} (host mask waiting e) rest) set (other, later) =
    none-while-busy rest (only-rti-releases w x (host mask waiting e) set other) later
none-while-busy {w} (then {u = x} (others e) rest) set (other, later) =
    none-while-busy rest (only-rti-releases w x (others e) set other) later

-- So between an entry and its RTI no other line enters: whatever is called, thrown or reset, whatever the host raises, over any number of runs.
pub none-until-rti : (w u : World) {v : World} (n : ℕ) → entering w.machine ≡ line n → u.machine ≡ entered_by n w.machine → (h : History u v) →
    NoneReturns h → NoneEnters h
none-until-rti w u n e is h none-return = (none-while-busy h (ap (λ (m : Machine). m.lines.block) is) none-return).0

-- the request of a line that enters waited, and does not wait then
waited : (w : World) (n : ℕ) → entering w.machine ≡ line n → waits_at n w ≡ true
waited w n e = (lowest-enters w.machine n e).waits

pub request-cleared : (w u : World) (n : ℕ) → entering w.machine ≡ line n → u.machine ≡ entered_by n w.machine → waits_at n u ≡ false
request-cleared w u n e is = ap (λ (m : Machine). has_bit n m.lines.waiting) is ∙ bit-cleared n w.machine.lines.waiting (waited w n e)

-- A line that does not wait enters only after a host has raised it.
pub none-unasked : (n : ℕ) {w v : World} (h : History w v) → waits_at n w ≡ false → NeverRaised n h → times_entered n h ≡ 0
none-unasked n here clear never-raised = refl
none-unasked n {w} (then {u = x} (step reach k e) rest) clear never-raised =
    none-unasked n rest
    (ap (has_bit n) (waiting_kept reach w.memory w.machine x.memory x.machine k e) ∙ clear) never-raised
none-unasked n {w} (then {u = x} (enters i e kept is) rest) clear never-raised = go (eqb i n) refl (λ now. none-unasked n rest now never-raised)
  where
    go : (b : Bool) → eqb i n ≡ b → (waits_at n x ≡ false → times_entered n rest ≡ 0) → pick b (suc (times_entered n rest)) (times_entered n rest) ≡ 0
    go true at later =
        clash _ (waited w i e) (ap (λ (j : ℕ). waits_at j w) (eqb-true i n at) ∙ clear)
    go false at later =
        let other : n ≡ i → ⊥ = λ (back : n ≡ i). eqb-false i n at (sym back) in
        later (ap (λ (m : Machine). has_bit n m.lines.waiting) is ∙ (bit_kept i n w.machine.lines.waiting other (waited w i e) ∙ clear))
none-unasked n {w} (then {u = x} (host mask waiting e) rest) clear (not-raised, never-raised) =
    none-unasked n rest (ap (λ (m : Machine). has_bit n m.lines.waiting) e ∙ go (has_bit n waiting) refl) never-raised
  where
    go : (b : Bool) → has_bit n waiting ≡ b → has_bit n waiting ≡ false
    go true is = clash _ (not-raised is) clear
    go false is = is
none-unasked n (then (others e) rest) clear never-raised =
    none-unasked n rest (ap (λ (m : Machine). has_bit n m.lines.waiting) e ∙ clear) never-raised

-- A request is served at most once: over any history in which no host raises line n, it enters at most once.
pub served-once : (n : ℕ) {w v : World} (h : History w v) → NeverRaised n h → times_entered n h ≤ 1
served-once n here never-raised = omega arith
served-once n (then (step reach k e) rest) never-raised = served-once n rest never-raised
served-once n {w} (then {u = x} (enters i e kept is) rest) never-raised =
    go (eqb i n) refl (served-once n rest never-raised) (λ clear. none-unasked n rest clear never-raised)
  where
    go : (b : Bool) → eqb i n ≡ b → times_entered n rest ≤ 1 → (waits_at n x ≡ false → times_entered n rest ≡ 0) →
        pick b (suc (times_entered n rest)) (times_entered n rest) ≤ 1
    go true at later none_then =
        let clear = ap (λ (j : ℕ). waits_at j x) (sym (eqb-true i n at)) ∙ request-cleared w x i e is in
        omega (arith, none_then clear)
    go false at later none_then = later
served-once n (then (host mask waiting e) rest) (not-raised, never-raised) = served-once n rest never-raised
served-once n (then (others e) rest) never-raised = served-once n rest never-raised

-- within one run there is no host
unbroken-unraised : (n : ℕ) {w v : World} (h : History w v) → Unbroken h → NeverRaised n h
unbroken-unraised n here u = tt
unbroken-unraised n (then (step reach k e) rest) u = unbroken-unraised n rest u
unbroken-unraised n (then (enters i e kept is) rest) u = unbroken-unraised n rest u
unbroken-unraised n (then (host mask waiting e) rest) u = absurd u
unbroken-unraised n (then (others e) rest) u = absurd u

-- So in one run each line enters at most once.
pub once-in-a-run : (n : ℕ) (mem : List ℕ) (m : Machine) (budget : ℕ) (ok : acceptable mem m budget ≡ true) →
    times_entered n (counts mem m budget ok).history ≤ 1
once-in-a-run n mem m budget ok =
    let c = counts mem m budget ok in
    served-once n c.history (unbroken-unraised n c.history c.unbroken)

-- A line that a host raises waits; raised twice before it is served it is raised once; and no other line is touched.
pub raised-waits : (n waiting : ℕ) → has_bit n (raised n waiting) ≡ true
raised-waits = raising.raised-waits

pub twice-is-once : (n waiting : ℕ) → raised n (raised n waiting) ≡ raised n waiting
twice-is-once = raising.raised-twice

pub raised-alone : (n k waiting : ℕ) → (k ≡ n → ⊥) → has_bit k (raised n waiting) ≡ has_bit k waiting
raised-alone = raising.raised-alone

-- An entry is no step and takes no cycle: a run from before it is the run from after it, with the same counts and the same memory.
pub entry-costs-nothing : (reach : Reach) (manner : Manner) (left : ℕ) (mem : List ℕ) (m : Machine) (n c : ℕ) →
    run_from reach manner (suc left) mem m n c ≡ run_from reach manner (suc left) mem (let_in manner.lined m) n c
entry-costs-nothing = entries.entry_free

-- It touches no parameter cell, no flag and no exception level; it is a call to 4n that comes back to the instruction that was about to be done.
pub entry-leaves : (m : Machine) (n : ℕ) → Whole m → entering m ≡ line n → AfterEntry n m (entered_by n m)
entry-leaves = entries.entry-leaves

-- They are about something: an EXIT stands at 0 and an RTI at 4, where line 1 goes; the host has raised it and lets it in.
abbrev pub sample : List ℕ
sample = 0x3D ∷ 0x00 ∷ 0x00 ∷ 0x00 ∷ 0x3C ∷ []

abbrev pub sample_ran : Ran
sample_ran = (run_of (padded memory_length sample) (asked 2 2 fresh_machine) 10).ran

-- The routine comes before the end of the program, and its RTI is the one step that is counted; the request is served and the block released.
pub sample-served : (sample_ran.answer ≡ 0) × (sample_ran.steps.0 ≡ 1) × (sample_ran.cycles.0 ≡ 2) ×
    (sample_ran.machine.counter ≡ 0) × (sample_ran.machine.lines ≡ record { mask = 2; waiting = 0; block = 0 })
unfolding padded run_of run_from acceptable let_in entering lowest_due fresh_machine machine_with
    Rattle.machine.specs.State.well_formed Rattle.links.specs.Linked.linked
    Rattle.links.specs.Fresh.fresh_links Rattle.links.specs.Fresh.fresh_frame Rattle.links.specs.Fresh.fresh_level Rattle.links.specs.Actions.no_locals
    Rattle.machine.specs.Step.step_of Rattle.machine.specs.Step.carried Rattle.machine.specs.Fetch.instruction_at Rattle.machine.specs.Reach.bar_of
    Rattle.machine.specs.Rows.row_of Rattle.machine.specs.Codes.entry_at Rattle.machine.specs.Codes.table
sample-served = (refl, refl, refl, refl, refl)
