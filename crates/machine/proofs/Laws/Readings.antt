-- Readings that document 01 and request P4 rule out: where EXIT, RTI and THROW go, and what RTI and THROW leave, in any state.
use Rattle.std.specs.Prelude.{◌≡◌, refl, Bool, true, false, List, [], ℕ, ◌+◌, T}
use Rattle.std.proofs.Common.{sym, ap, ◌∙◌, subst, arith, ne_eqb}
use Rattle.plain.specs.Choice.{pick}
use Rattle.numbers.specs.Bytes.{byte_at}
use Rattle.links.specs.Linked.{frame_at, copy_of_p}
use Rattle.machine.specs.Codes.{THROW, RTI, LINK, entry_at, table}
use Rattle.machine.specs.Fetch.{Instruction, instruction_at}
use Rattle.machine.specs.Rows.{Row, a_routine, releasing, no_return, row_of, top, cells_row, lacking, exit_row, throw_row}
use Rattle.machine.specs.Checks.{lacks}
use Rattle.machine.specs.Lines.{released}
use Rattle.machine.specs.Step.{done, step_of, put, row_at, tests_at}
use Rattle.machine.specs.AfterThrow.{AfterThrow}
use Rattle.machine.proofs.Laws.Passed.{step-done, passed-at}
use Rattle.machine.specs.declared.Machine.{Machine}
use Rattle.machine.specs.declared.Reach.{Reach}

-- the row of a code that is known
row-of : (reach : Reach) (mem : List ℕ) (m : Machine) (code : ℕ) → byte_at mem m.counter ≡ code →
    row_at reach mem m ≡ row_of (instruction_at reach mem m.counter) mem m (entry_at code).op
unfolding instruction_at
row-of reach mem m code is = ap (λ (c : ℕ). row_of (instruction_at reach mem m.counter) mem m (entry_at c).op) is

-- what a step leaves, by its row
left_by_lem : (reach : Reach) (mem : List ℕ) (m : Machine) (mem' : List ℕ) (m' : Machine) (k : ℕ) (row : Row) → row_at reach mem m ≡ row →
    step_of reach mem m ≡ done mem' m' k → m' ≡ put row m
left_by_lem reach mem m mem' m' k row is e = (step-done reach mem m mem' m' k e).machine ∙ ap (λ (r : Row). put r m) is

-- EXIT goes to the address in its subroutine level, whatever the return stack holds
pub exit-goes : (reach : Reach) (mem : List ℕ) (m : Machine) (mem' : List ℕ) (m' : Machine) (k : ℕ) → step_of reach mem m ≡ done mem' m' k →
    byte_at mem m.counter ≡ 0x3D → m'.counter ≡ (frame_at m.links m.links.s).address
unfolding entry_at table row_of
exit-goes reach mem m mem' m' k e is =
    ap (λ (x : Machine). x.counter) (left_by_lem reach mem m mem' m' k _ (row-of reach mem m 0x3D is) e)

-- RTI that is carried out goes there too, and releases the block
rti-row : (i : Instruction) (mem : List ℕ) (m : Machine) → lacks (row_of i mem m (LINK RTI)) a_routine ≡ false →
    row_of i mem m (LINK RTI) ≡ releasing (exit_row i mem m)
unfolding row_of
rti-row i mem m found = go (no_return m) found
  where
    go : (b : Bool) → lacks (pick b (lacking i mem m a_routine) (releasing (exit_row i mem m))) a_routine ≡ false →
        pick b (lacking i mem m a_routine) (releasing (exit_row i mem m)) ≡ releasing (exit_row i mem m)
    go true e = absurd (subst T e tt)
    go false e = refl

pub rti-leaves : (reach : Reach) (mem : List ℕ) (m : Machine) (mem' : List ℕ) (m' : Machine) (k : ℕ) → step_of reach mem m ≡ done mem' m' k →
    byte_at mem m.counter ≡ 0x3C → (m'.counter ≡ (frame_at m.links m.links.s).address) × (m'.lines ≡ released m.lines)
unfolding entry_at table
rti-leaves reach mem m mem' m' k e is =
    let i = instruction_at reach mem m.counter in
    let here = row-of reach mem m 0x3C is in
    let found : lacks (row_at reach mem m) a_routine ≡ false = passed-at 16 (tests_at reach mem m) (step-done reach mem m mem' m' k e).passed in
    let row = rti-row i mem m (ap (λ (r : Row). lacks r a_routine) (sym here) ∙ found) in
    let l : m' ≡ put (releasing (exit_row i mem m)) m = left_by_lem reach mem m mem' m' k _ (here ∙ row) e in
    (ap (λ (x : Machine). x.counter) l, ap (λ (x : Machine). x.lines) l)

throw-row : (i : Instruction) (mem : List ℕ) (m : Machine) → (top m ≡ 0 → ⊥) → row_of i mem m (LINK THROW) ≡ throw_row i mem m
unfolding row_of
throw-row i mem m other = ap (λ (b : Bool). pick b (cells_row i mem m []) (throw_row i mem m)) (ne_eqb (top m) 0 other)

pub throw-leaves : (reach : Reach) (mem : List ℕ) (m : Machine) (mem' : List ℕ) (m' : Machine) (k : ℕ) → step_of reach mem m ≡ done mem' m' k →
    byte_at mem m.counter ≡ 0x0D → (top m ≡ 0 → ⊥) → AfterThrow m m'
unfolding entry_at table
throw-leaves reach mem m mem' m' k e is other =
    let i = instruction_at reach mem m.counter in
    let l : m' ≡ put (throw_row i mem m) m = left_by_lem reach mem m mem' m' k _ (row-of reach mem m 0x0D is ∙ throw-row i mem m other) e in
    let p-is : m'.p ≡ copy_of_p m.links.levels m.links.e + 1 = ap (λ (x : Machine). x.p) l in
    record {
      goes = ap (λ (x : Machine). x.counter) l;
      s-copied = ap (λ (x : Machine). x.links.s) l;
      r-copied = ap (λ (x : Machine). x.links.r) l;
      p_copied = omega arith;
      address-noted = ap (λ (x : Machine). x.thrown.address) l;
      code-noted = ap (λ (x : Machine). x.thrown.code) l;
    }
