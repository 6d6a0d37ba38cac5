-- An instruction keeps mask and waiting requests, and all but RTI keep the block.
use Rattle.std.specs.Prelude.{◌≡◌, Bool, List, ℕ}
use Rattle.std.proofs.Math.Path.{refl}
use Rattle.std.proofs.Common.{ap, sym, subst, ◌∙◌}
use Rattle.std.proofs.Math.Bool.{true, false}
use Rattle.plain.specs.Choice.{pick}
use Rattle.numbers.specs.Bytes.{byte_at}
use Rattle.machine.specs.Codes.{RTI}
use Rattle.machine.specs.Fetch.{instruction_at}
use Rattle.machine.specs.Lines.{lowest_due, released}
use Rattle.machine.specs.Step.{done, step_of, row_at}
use Rattle.machine.proofs.Laws.Kept.{fair-at}
use Rattle.machine.proofs.Laws.Marks.{marked}
use Rattle.machine.proofs.Laws.Passed.{step-done}
use Rattle.machine.specs.declared.Lines.{Lines}
use Rattle.machine.specs.declared.Machine.{Machine}
use Rattle.machine.specs.declared.Reach.{Reach}

-- the lines after an instruction
pub data LinesAfter (l : Lines) : Lines → Type 0 where
  same : LinesAfter l l
  freed : LinesAfter l (released l)

-- it makes no line due
pub due-kept : (l : Lines) {l' : Lines} → LinesAfter l l' → lowest_due l' ≡ lowest_due l
unfolding lowest_due
due-kept l same = refl
due-kept l freed = refl

module _ (reach : Reach) (mem : List ℕ) (m : Machine) (mem' : List ℕ) (m' : Machine) (k : ℕ) (e : step_of reach mem m ≡ done mem' m' k) where
  lines_are : m'.lines ≡ pick (row_at reach mem m).releases (released m.lines) m.lines
  lines_are = ap (λ (x : Machine). x.lines) (step-done reach mem m mem' m' k e).machine

  pub lines_after : LinesAfter m.lines m'.lines
  lines_after = subst (LinesAfter m.lines) (sym lines_are) (go (row_at reach mem m).releases)
    where
      go : (b : Bool) → LinesAfter m.lines (pick b (released m.lines) m.lines)
      go true = freed
      go false = same

  pub mask-kept : m'.lines.mask ≡ m.lines.mask
  mask-kept = go m'.lines lines_after
    where
      go : (l : Lines) → LinesAfter m.lines l → l.mask ≡ m.lines.mask
      go l same = refl
      go l freed = refl

  pub waiting_kept : m'.lines.waiting ≡ m.lines.waiting
  waiting_kept = go m'.lines lines_after
    where
      go : (l : Lines) → LinesAfter m.lines l → l.waiting ≡ m.lines.waiting
      go l same = refl
      go l freed = refl

  -- only RTI releases the block
  pub only-rti : (byte_at mem m.counter ≡ 0x3C → ⊥) → m'.lines ≡ m.lines
  unfolding instruction_at
  only-rti other = lines_are ∙ go (row_at reach mem m).releases refl
    where
      go : (b : Bool) → (row_at reach mem m).releases ≡ b → pick b (released m.lines) m.lines ≡ m.lines
      go true is = absurd (other (marked (instruction_at reach mem m.counter).code RTI ((fair-at reach mem m).releases-only is)))
      go false is = refl
