-- Every step that is carried out and every line that enters keep a well-formed state well formed, so the next run never refuses it.
use Rattle.std.specs.Prelude.{◌≡◌, refl, Bool, true, false, List, ℕ, ◌+◌, ◌≤◌, T, leb, length}
use Rattle.std.proofs.Common.{sym, ◌∙◌, subst, arith, le-leb, ltb-false, leb→le}
use Rattle.std.proofs.Math.Path.{subst⁻¹}
use Rattle.std.proofs.Math.Seq.{length-sets}
use Rattle.plain.specs.Choice.{pick}
use Rattle.plain.specs.Laws.Choice.{both-parts, both_true}
use Rattle.links.specs.Depths.{cells_depth}
use Rattle.links.specs.Actions.{call}
use Rattle.links.specs.Allowed.{Allowed}
use Rattle.links.specs.Linked.{linked}
use Rattle.links.proofs.Laws.Sound.{Sound, sound, linked-true}
use Rattle.links.proofs.Laws.Kept.{kept, shaped-kept}
use Rattle.machine.specs.Lines.{lines_formed, entered_by, let_in, released}
use Rattle.machine.specs.State.{well_formed, Whole}
use Rattle.machine.specs.Codes.{entry_at}
use Rattle.machine.specs.Fetch.{instruction_at}
use Rattle.machine.specs.Step.{done, step_of, put, row_at, tests_at}
use Rattle.machine.proofs.Laws.Passed.{Done, step-done, passed-at}
use Rattle.machine.proofs.Laws.Told.{Fair, fair}
use Rattle.machine.proofs.Laws.Granted.{granted}
use Rattle.machine.proofs.Laws.Lines.{LinesFormed, lines-formed, lines-formed-true, Enters, let-in, serving-formed, released-formed}
use Rattle.machine.specs.declared.Lines.{Lines}
use Rattle.machine.specs.declared.Machine.{Machine}
use Rattle.machine.specs.declared.Reach.{Reach}

-- well formed, part by part
pub record Formed (m : Machine) : Type 0 where
  pub p-within : m.p ≤ cells_depth
  pub flag-within : m.flag ≤ 1
  pub lines-good : LinesFormed m.lines
  pub sound : Sound m.links

-- well formed but for mask and waiting requests: what instructions and entries go by
pub record Steady (m : Machine) : Type 0 where
  pub p-within : m.p ≤ cells_depth
  pub flag-within : m.flag ≤ 1
  pub block_within : m.lines.block ≤ 1
  pub sound : Sound m.links

pub steady : (m : Machine) → Formed m → Steady m
steady m h =
    record { p-within = h.p-within; flag-within = h.flag-within; block_within = h.lines-good.block_within; sound = h.sound }

pub formed : (m : Machine) → well_formed m ≡ true → Formed m
unfolding well_formed
formed m e =
    let p = both-parts (leb m.p cells_depth) _ (subst⁻¹ T e tt) in
    let f = both-parts (leb m.flag 1) _ p.1 in
    let l = both-parts (lines_formed m.lines) (linked m.links) f.1 in
    record {
      p-within = leb→le m.p cells_depth p.0;
      flag-within = leb→le m.flag 1 f.0;
      lines-good = lines-formed m.lines l.0;
      sound = sound m.links l.1;
    }

pub formed-true : (m : Machine) → Formed m → well_formed m ≡ true
unfolding well_formed
formed-true m h =
    rw (
      le-leb m.p cells_depth h.p-within,
      le-leb m.flag 1 h.flag-within,
      lines-formed-true m.lines h.lines-good,
    ) (linked-true m.links h.sound)

-- the row at the program counter is fair
pub fair-at : (reach : Reach) (mem : List ℕ) (m : Machine) →
    Fair (instruction_at reach mem m.counter) m mem (entry_at (instruction_at reach mem m.counter).code).op (row_at reach mem m)
fair-at reach mem m =
    fair (instruction_at reach mem m.counter) mem m (entry_at (instruction_at reach mem m.counter).code).op

-- a step that is done carries out an action that the linked stacks allow
pub allowed_at : (reach : Reach) (mem : List ℕ) (m : Machine) (mem' : List ℕ) (m' : Machine) (k : ℕ) → Steady m → Done reach mem m mem' m' k →
    Allowed (row_at reach mem m).link m.links
allowed_at reach mem m mem' m' k h d =
    granted (instruction_at reach mem m.counter) m (row_at reach mem m) h.p-within d.passed (row_at reach mem m).link refl
    (fair-at reach mem m).tells

-- what a step leaves: whole, well formed but for mask and requests, and the memory as long as it was
pub record Fine (mem mem' : List ℕ) (m' : Machine) : Type 0 where
  pub whole : Whole m'
  pub steady : Steady m'
  pub same_length : length mem' ≡ length mem

block-after : (b : Bool) (l : Lines) → l.block ≤ 1 → (pick b (released l) l).block ≤ 1
block-after true l h = omega arith
block-after false l h = h

put-fine : (reach : Reach) (mem : List ℕ) (m : Machine) (mem' : List ℕ) (m' : Machine) (k : ℕ) → Whole m → Steady m → Done reach mem m mem' m' k →
    Fine mem (row_at reach mem m).memory (put (row_at reach mem m) m)
put-fine reach mem m mem' m' k w h d =
    let row = row_at reach mem m in
    let f = fair-at reach mem m in
    record {
      whole =
          record {
            cells-long = length-sets m.cells row.keeps row.puts ∙ w.cells-long;
            shaped = shaped-kept row.link m.links w.shaped;
          };
      steady =
          record {
            p-within = ltb-false cells_depth (row.keeps + length row.puts) (passed-at 8 (tests_at reach mem m) d.passed);
            flag-within = f.flag-within h.flag-within;
            block_within = block-after row.releases m.lines h.block_within;
            sound = kept row.link m.links w.shaped h.sound (allowed_at reach mem m mem' m' k h d);
          };
      same_length = f.same_length;
    }

pub step-steady : (reach : Reach) (mem : List ℕ) (m : Machine) (mem' : List ℕ) (m' : Machine) (k : ℕ) → Whole m → Steady m →
    step_of reach mem m ≡ done mem' m' k → Fine mem mem' m'
step-steady reach mem m mem' m' k w h e =
    let d = step-done reach mem m mem' m' k e in
    subst (λ (x : Machine). Fine mem mem' x) (sym d.machine)
    (subst (λ (x : List ℕ). Fine mem x (put (row_at reach mem m) m)) (sym d.memory) (put-fine reach mem m mem' m' k w h d))

-- a line that enters leaves that too
entered-fine : (mem : List ℕ) (m : Machine) → Whole m → Steady m → (n : ℕ) → Enters m n → Fine mem mem (entered_by n m)
entered-fine mem m w h n e =
    record {
      whole = record { cells-long = w.cells-long; shaped = shaped-kept (call m.counter) m.links w.shaped };
      steady =
          record {
            p-within = h.p-within;
            flag-within = h.flag-within;
            block_within = omega arith;
            sound = kept (call m.counter) m.links w.shaped h.sound (e.r-room, e.s-room);
          };
      same_length = refl;
    }

pub let-in-steady : (lined : Bool) (mem : List ℕ) (m : Machine) → Whole m → Steady m → Fine mem mem (let_in lined m)
let-in-steady lined mem m w h =
    let-in (Fine mem mem) lined m (record { whole = w; steady = h; same_length = refl }) (entered-fine mem m w h)

-- and where mask and requests were well formed, all of it is
pub record Good (mem mem' : List ℕ) (m' : Machine) : Type 0 where
  pub whole : Whole m'
  pub formed : Formed m'
  pub same_length : length mem' ≡ length mem

good : (mem mem' : List ℕ) (m' : Machine) → Fine mem mem' m' → LinesFormed m'.lines → Good mem mem' m'
good mem mem' m' f lines =
    let s = f.steady in
    record {
      whole = f.whole;
      formed = record { p-within = s.p-within; flag-within = s.flag-within; lines-good = lines; sound = s.sound };
      same_length = f.same_length;
    }

lines_after : (b : Bool) (l : Lines) → LinesFormed l → LinesFormed (pick b (released l) l)
lines_after true l h = released-formed l h
lines_after false l h = h

pub step_kept : (reach : Reach) (mem : List ℕ) (m : Machine) (mem' : List ℕ) (m' : Machine) (k : ℕ) → Whole m → Formed m →
    step_of reach mem m ≡ done mem' m' k → Good mem mem' m'
step_kept reach mem m mem' m' k w h e =
    good mem mem' m' (step-steady reach mem m mem' m' k w (steady m h) e)
    (subst (λ (x : Machine). LinesFormed x.lines) (sym (step-done reach mem m mem' m' k e).machine)
    (lines_after (row_at reach mem m).releases m.lines h.lines-good))

pub let-in-good : (lined : Bool) (mem : List ℕ) (m : Machine) → Whole m → Formed m → Good mem mem (let_in lined m)
let-in-good lined mem m w h =
    good mem mem (let_in lined m) (let-in-steady lined mem m w (steady m h))
    (let-in (λ (x : Machine). LinesFormed x.lines) lined m h.lines-good
    (λ n e. serving-formed m.lines n h.lines-good e.within.0 (both_true _ _ e.due).0))
