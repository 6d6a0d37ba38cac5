-- No second answer: no file is spelled by two images, and two results that meet the reader's promise are equal.
use Rattle.std.specs.Prelude.{List, ◌≡◌, refl, ℕ, Result, Ok, Err}
use Rattle.std.proofs.Common.{sym, ap, ◌∙◌}
use Rattle.machine.specs.declared.refusal.Refusal.{Refusal}
use Rattle.machine.proofs.Laws.Refusing.{same-said}
use Rattle.image.specs.Format.{Image, Spellable, spelled, limits, longest_file}
use Rattle.image.specs.Loading.{Returned, returned, Reading, Read, wrong-memory, not-spelled, read, filled, loaded_from}
use Rattle.image.specs.Judging.{finds, says_judged, judged_of, spans_of, Judges}
use Rattle.image.specs.Laws.Sound.{image_in}
use Rattle.image.specs.Laws.Complete.{found, accepted}
use Rattle.image.specs.declared.Section.{Section}
use Rattle.image.specs.declared.Limits.{Limits}
use Rattle.image.specs.declared.Fault.{Fault}
use Rattle.image.specs.declared.Spans.{Spans}
use Rattle.image.specs.declared.Loaded.{Loaded}

pub only-image : (i j : Image) → Spellable i → Spellable j → spelled i ≡ spelled j → i ≡ j
only-image i j a b e =
    let same : finds (spans_of i) ≡ finds (spans_of j) = sym (accepted i a) ∙ ap judged_of e ∙ accepted j b in
    let spans : spans_of i ≡ spans_of j = cc in
    sym (found i a)
    ∙ ap (λ (l : List ℕ). image_in l (spans_of i)) e
    ∙ ap (image_in (spelled j)) spans
    ∙ found j b

pub only-limits : (s : Section) (a b : Limits) → a ≡ limits s → b ≡ limits s → a ≡ b
only-limits s a b h k = h ∙ sym k

pub only-longest : (a b : ℕ) → a ≡ longest_file → b ≡ longest_file → a ≡ b
only-longest a b h k = h ∙ sym k

same-judged : (a b : Result Spans Fault) → says_judged a ≡ says_judged b → a ≡ b
same-judged (Err f) (Err g) e = cc
same-judged (Err f) (Ok p) e = cc
same-judged (Ok p) (Err f) e = cc
same-judged (Ok p) (Ok q) e = cc

pub only-judge : (file : List ℕ) (a b : Result Spans Fault) → Judges file a → Judges file b → a ≡ b
only-judge file a b h k = same-judged a b (h.clause ∙ sym k.clause)

pub only-reading : (file before m₁ m₂ : List ℕ) (h₁ h₂ : Returned) → Read file before m₁ h₁ → Read file before m₂ h₂
    → ◌≡◌ {A = Reading} (record { memory = m₁; returned = h₁ }) (record { memory = m₂; returned = h₂ })
only-reading file before m₁ m₂ h₁ h₂ (wrong-memory h) (wrong-memory k) = refl
only-reading file before m₁ m₂ h₁ h₂ (wrong-memory h) (not-spelled e n) = absurd (h e)
only-reading file before m₁ m₂ h₁ h₂ (wrong-memory h) (read j e b s) = absurd (h e)
only-reading file before m₁ m₂ h₁ h₂ (not-spelled e n) (wrong-memory h) = absurd (h e)
only-reading file before m₁ m₂ h₁ h₂ (not-spelled e n) (not-spelled f o) = refl
only-reading file before m₁ m₂ h₁ h₂ (not-spelled e n) (read j f b s) = absurd (n j b s)
only-reading file before m₁ m₂ h₁ h₂ (read i e a s) (wrong-memory h) = absurd (h e)
only-reading file before m₁ m₂ h₁ h₂ (read i e a s) (not-spelled f n) = absurd (n i a s)
only-reading file before m₁ m₂ h₁ h₂ (read i e a s) (read j f b t) =
    ap (λ (x : Image). record { memory = filled x; returned = loaded_from x }) (only-image i j a b (s ∙ sym t))

pub only-read : (file before x y : List ℕ) (a b : Loaded) → Read file before x (returned a) → Read file before y (returned b) → (x ≡ y) × (a ≡ b)
only-read file before x y a b h k =
    let same = only-reading file before x y (returned a) (returned b) h k in
    let v = same-said a.verdict b.verdict (ap (λ (r : Reading). r.returned.says) same) in (
      ap (λ (r : Reading). r.memory) same,
      λ i. record { verdict = v i; machine = (same i).returned.machine; budget = (same i).returned.budget; sum = (same i).returned.sum },
    )

-- From<Fault>: the refusal of every fault
pub only-fault : (right a b : Refusal) → a ≡ right → b ≡ right → a ≡ b
only-fault right a b h k = h ∙ sym k
