-- Readings that request P4 rules out: which line enters, when, and what it leaves, in any state.
use Rattle.std.specs.Prelude.{◌≡◌, refl, Bool, true, false, List, [], ◌∷◌, ℕ, suc, ◌+◌, ◌≤◌, ◌<◌, eqb, length}
use Rattle.std.proofs.Common.{sym, ap, ◌∙◌, subst, arith, lt-ltb, eqb-true}
use Rattle.std.proofs.lemmas.Bool.{eqb-false}
use Rattle.plain.specs.Choice.{pick, both}
use Rattle.plain.specs.Laws.Choice.{both_true}
use Rattle.links.specs.Depths.{returns_depth, subroutines_depth}
use Rattle.links.proofs.Laws.Called.{call-makes}
use Rattle.machine.specs.Lines.{has_bit, all_lines, is_due, Line, none, line, first_due, lowest_due, has_room, entering, entered_by, after_line, let_in}
use Rattle.machine.specs.State.{Whole}
use Rattle.machine.specs.Step.{step_of}
use Rattle.machine.specs.Run.{After, Manner, run_from}
use Rattle.machine.specs.AfterEntry.{AfterEntry}
use Rattle.machine.proofs.Laws.Lines.{enters, let-in-twice}
use Rattle.machine.proofs.Laws.Served.{bit-cleared, bit_kept}
use Rattle.machine.proofs.Laws.Steps.{after_step, run-step}
use Rattle.machine.specs.declared.Lines.{Lines}
use Rattle.machine.specs.declared.Machine.{Machine}
use Rattle.machine.specs.declared.Reach.{Reach}

-- one after another from a number on
abbrev Counts : ℕ → List ℕ → Type 0
Counts from [] = Unit {0}
Counts from (n ∷ ns) = (n ≡ from) × Counts (suc from) ns

-- below the first that is due, and where none is, nothing is due
abbrev Below : Line → ℕ → Type 0
Below none k = Unit {0}
Below (line n) k = k < n

none_below : (l : Lines) (ns : List ℕ) (from : ℕ) → Counts from ns → (k : ℕ) → from ≤ k → k < length ns + from → Below (first_due l ns) k → is_due l k ≡ false
none_below l [] from counts k low high below = absurd (omega arith)
none_below l (n ∷ ns) from counts k low high below =
    go (is_due l n) refl below (none_below l ns (suc from) counts.1 k)
  where
    go : (b : Bool) → is_due l n ≡ b → Below (pick b (line n) (first_due l ns)) k →
        (suc from ≤ k → k < length ns + suc from → Below (first_due l ns) k → is_due l k ≡ false) → is_due l k ≡ false
    go true due below later = absurd (omega (arith, counts.0))
    go false off below later = at (eqb k from) refl
      where
        at : (b : Bool) → eqb k from ≡ b → is_due l k ≡ false
        at true e =
            let same : n ≡ k = counts.0 ∙ sym (eqb-true k from e) in
            subst (λ (i : ℕ). is_due l i ≡ false) same off
        at false e =
            let other : k ≡ from → ⊥ = eqb-false k from e in
            later (omega arith) (omega arith) below

in-turn : Counts 1 all_lines
in-turn = (refl, (refl, (refl, (refl, (refl, (refl, (refl, (refl, (refl, (refl, (refl, (refl, (refl, (refl, (refl, tt)))))))))))))))

-- no line below the lowest that is due is due itself
pub lower-not-due : (l : Lines) (n : ℕ) → lowest_due l ≡ line n → n ≤ 15 → (k : ℕ) → 1 ≤ k → k < n → is_due l k ≡ false
unfolding lowest_due
lower-not-due l n e within k low below =
    none_below l all_lines 1 in-turn k low (omega arith) (subst (λ (x : Line). Below x k) (sym e) below)

-- where there is no lowest, none is due
pub none-due : (l : Lines) → lowest_due l ≡ none → (k : ℕ) → 1 ≤ k → k ≤ 15 → is_due l k ≡ false
unfolding lowest_due
none-due l e k low high = none_below l all_lines 1 in-turn k low (omega arith) (subst (λ (x : Line). Below x k) (sym e) tt)

-- with no routine in progress and room for a call, the lowest that is due enters
pub lowest-enters : (m : Machine) → m.lines.block ≡ 0 → m.links.r < returns_depth → m.links.s < subroutines_depth → entering m ≡ lowest_due m.lines
unfolding entering
lowest-enters m free r s = rw (free, lt-ltb m.links.r returns_depth r, lt-ltb m.links.s subroutines_depth s)

-- the machine before its next instruction, where a line enters
pub let-in-line : (m : Machine) (n : ℕ) → entering m ≡ line n → let_in true m ≡ entered_by n m
unfolding let_in
let-in-line m n e = ap (λ (l : Line). after_line l m) e

-- where none is due, none enters
pub none-while-quiet : (m : Machine) → lowest_due m.lines ≡ none → entering m ≡ none
unfolding entering
none-while-quiet m e = rw (e) (go (both (eqb m.lines.block 0) (has_room m.links)))
  where
    go : (b : Bool) → pick b none none ≡ none
    go true = refl
    go false = refl

-- while a routine is in progress none enters
pub none-while-blocked : (m : Machine) → m.lines.block ≡ 1 → entering m ≡ none
unfolding entering
none-while-blocked m e = rw (e)

-- so once a line has entered where one may, none enters before the instruction
pub settled : (m : Machine) → entering (let_in true m) ≡ none
unfolding let_in
settled m = go (entering m) refl
  where
    go : (l : Line) → entering m ≡ l → entering (after_line l m) ≡ none
    go none e = e
    go (line n) e = none-while-blocked (entered_by n m) refl

pub entry-leaves : (m : Machine) (n : ℕ) → Whole m → entering m ≡ line n → AfterEntry n m (entered_by n m)
entry-leaves m n whole e =
    let found = enters m n e in
    let waits : has_bit n m.lines.waiting ≡ true = (both_true _ _ found.due).0 in
    record {
      goes = refl;
      called = call-makes m.counter m.links whole.shaped (found.r-room, found.s-room);
      same-e = refl;
      was_free = found.free;
      blocked = refl;
      cleared = bit-cleared n m.lines.waiting waits;
      others-wait = λ k other. bit_kept n k m.lines.waiting other waits;
      same-mask = refl;
      same-cells = refl;
      same-p = refl;
      same_flag = refl;
      same-thrown = refl;
    }

-- an entry is no step and takes no cycle: the run goes on from there with the same counts and the same memory
pub entry_free : (reach : Reach) (manner : Manner) (left : ℕ) (mem : List ℕ) (m : Machine) (n c : ℕ) →
    run_from reach manner (suc left) mem m n c ≡ run_from reach manner (suc left) mem (let_in manner.lined m) n c
entry_free reach manner left mem m n c =
    let here = let_in manner.lined m in
    let first : Machine → After = λ x. after_step reach manner left mem x n c (step_of reach mem x) in
    run-step reach manner left mem m n c ∙
    (ap first (sym (let-in-twice manner.lined m)) ∙ sym (run-step reach manner left mem here n c))
