-- The reader's answer as a computation: for files of bytes it is the one answer that the promise allows.
use Rattle.std.specs.Prelude.{Bool, true, false, List, ◌≡◌, refl, ℕ, eqb, length, Result, Ok, Err}
use Rattle.std.proofs.Common.{sym, ap, subst, ◌∙◌, arith, eqb-true}
use Rattle.std.proofs.lemmas.Bool.{eqb-false}
use Rattle.plain.specs.Answer.{gives}
use Rattle.plain.specs.Choice.{pick}
use Rattle.numbers.specs.Laws.Bytes.{Bytes}
use Rattle.machine.specs.Limits.{memory_length}
use Rattle.image.specs.Format.{Image, Spellable, spelled}
use Rattle.image.specs.Loading.{Returned, Reading, Read, wrong-memory, not-spelled, read, filled, loaded_from, refused_with, other_memory}
use Rattle.image.specs.Judging.{bad_file, Finding, fails, finds, answer_of, says_judged, judged_of, spans_of, Says, spells, spells-none, Judges}
use Rattle.image.specs.Laws.Sound.{image_in, good-file, image-spellable, image-spells}
use Rattle.image.specs.Laws.Complete.{accepted}
use Rattle.image.specs.Laws.Only.{only-reading}
use Rattle.image.specs.declared.Fault.{Fault}
use Rattle.image.specs.declared.Spans.{Spans}

abbrev pub judged_reading : List ℕ → List ℕ → Finding Spans → Reading
judged_reading file before (fails number fault) = record { memory = before; returned = refused_with bad_file }
judged_reading file before (finds spans) = record { memory = filled (image_in file spans); returned = loaded_from (image_in file spans) }

unfoldable pub read_of : List ℕ → List ℕ → Reading
read_of file before =
    pick (eqb (length before) memory_length) (judged_reading file before (judged_of file)) (record { memory = before; returned = refused_with other_memory })

-- a file that is judged bad is the file of no image
pub none-spells : (file : List ℕ) (number : ℕ) (fault : Fault) → judged_of file ≡ fails number fault → (i : Image) → Spellable i → spelled i ≡ file → ⊥
none-spells file number fault bad i ok e =
    let good = accepted i ok in
    let same = ap judged_of e in
    let z : ◌≡◌ {A = ℕ} 0 1 = cc in
    omega arith

-- the clause alone decides the answer
pub judged_says : (file : List ℕ) → Bytes file → (j : Result Spans Fault) → says_judged j ≡ judged_of file → Judges file j
judged_says file bytes j is = record { answer = by-case j is; clause = is }
  where
    by-case : (k : Result Spans Fault) → says_judged k ≡ judged_of file → Says file (answer_of (says_judged k))
    by-case (Err fault) e = spells-none (none-spells file bad_file fault (sym e))
    by-case (Ok spans) e =
        let good = good-file file spans (sym e) in
        let i = image_in file spans in
        let spellable = image-spellable file bytes spans good in
        let spells-it = image-spells file bytes spans good in
        let same : finds (spans_of i) ≡ finds spans = sym (accepted i spellable) ∙ ap judged_of spells-it ∙ sym e in
        let sections : spans_of i ≡ spans = cc in
        subst (λ (p : Spans). Says file (gives p)) sections (spells i spellable spells-it)

abbrev Meets : List ℕ → List ℕ → Reading → Type 0
Meets file before r = Read file before r.memory r.returned

judged-meets : (file before : List ℕ) → Bytes file → length before ≡ memory_length → (j : Finding Spans) → judged_of file ≡ j → Meets file before (judged_reading file before j)
judged-meets file before bytes long (fails number fault) e = not-spelled long (none-spells file number fault e)
judged-meets file before bytes long (finds spans) e =
    let good = good-file file spans e in
    read (image_in file spans) long (image-spellable file bytes spans good) (image-spells file bytes spans good)

meets : (file before : List ℕ) → Bytes file → (t : Bool) → eqb (length before) memory_length ≡ t
    → Meets file before (pick t (judged_reading file before (judged_of file)) (record { memory = before; returned = refused_with other_memory }))
meets file before bytes true e = judged-meets file before bytes (eqb-true _ _ e) (judged_of file) refl
meets file before bytes false e = wrong-memory (eqb-false _ _ e)

pub read_meets : (file before : List ℕ) → Bytes file → Read file before (read_of file before).memory (read_of file before).returned
unfolding read_of
read_meets file before bytes = meets file before bytes (eqb (length before) memory_length) refl

-- what meets the promise is what is computed
pub computed : (file before after : List ℕ) (returned : Returned) → Bytes file → Read file before after returned
    → record { memory = after; returned = returned } ≡ read_of file before
computed file before after returned bytes h =
    only-reading file before after (read_of file before).memory returned (read_of file before).returned h (read_meets file before bytes)
