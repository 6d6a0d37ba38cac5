-- A file that spells an image is told as good; of any other a fault is told that has its place in the file or at its end.
use Rattle.std.specs.Prelude.{List, ◌≡◌, refl, ℕ, ◌≤◌, length}
use Rattle.std.proofs.Common.{ap}
use Rattle.numbers.specs.Laws.Bytes.{Bytes}
use Rattle.image.specs.Format.{Image, Spellable, spelled}
use Rattle.image.specs.Judging.{Finding, fails, finds, judged_of, spans_of}
use Rattle.image.specs.Laws.Sound.{image_in, good-file, image-spellable, image-spells}
use Rattle.image.specs.Laws.Complete.{accepted}
use Rattle.image.specs.Laws.Faults.{place_of, fault-placed}
use Rattle.image.specs.declared.Fault.{Fault}
use Rattle.image.specs.declared.Spans.{Spans}
use Rattle.reason.specs.Reason.{fault_told, good_told, finding_told, reason_of}

pub good-told : (i : Image) → Spellable i → reason_of (spelled i) ≡ good_told (spans_of i)
unfolding reason_of
good-told i spellable = ap (finding_told (spelled i)) (accepted i spellable)

pub record Refused (file : List ℕ) : Type 0 where
  pub fault : Fault
  pub place : place_of fault ≤ length file
  pub told : reason_of file ≡ fault_told file fault

pub refused-told : (file : List ℕ) → Bytes file → ((i : Image) → Spellable i → spelled i ≡ file → ⊥) → Refused file
unfolding reason_of
refused-told file bytes none = by-case (judged_of file) refl
  where
    by-case : (f : Finding Spans) → judged_of file ≡ f → Refused file
    by-case (fails number fault) e = record { fault = fault; place = (fault-placed file number fault e).place; told = ap (finding_told file) e }
    by-case (finds spans) e =
        let good = good-file file spans e in
        absurd (none (image_in file spans) (image-spellable file bytes spans good) (image-spells file bytes spans good))
