-- Demands 1 and 2 said of images: a refused image touches nothing, and an image is read as exactly the machine that it spells.
use Rattle.std.specs.Prelude.{◌≡◌, refl, List, ℕ, length}
use Rattle.std.proofs.Common.{arith}
use Rattle.plain.specs.Answer.{refuses, gives}
use Rattle.machine.specs.Limits.{memory_length}
use Rattle.image.specs.Format.{Image, Spellable, spelled}
use Rattle.image.specs.Loading.{Returned, Read, wrong-memory, not-spelled, read, loaded_from, refused_with}
use Rattle.image.specs.Laws.Only.{only-image}
use Rattle.demands.specs.Images.{Untouched, Spelled}

-- Demand 1: whatever the reader refuses, the lent memory is as it was, the machine fresh, budget and sum 0. This rules out a memory
-- that is filled before the whole file is judged.
pub refused-image : {file before after : List ℕ} {returned : Returned} → Read file before after returned → (answer : ℕ) →
    returned.says ≡ refuses answer → Untouched before after returned answer
unfolding refused_with loaded_from
refused-image (wrong-memory h) answer e = record { memory = refl; refusal = cc }
refused-image (not-spelled h n) answer e = record { memory = refl; refusal = cc }
refused-image (read i h a s) answer e = let z : ◌≡◌ {A = ℕ} 0 1 = cc in absurd (omega arith)

-- Demand 2: a file is accepted exactly when it spells some image, and that image is what is read.
pub accepted-is-spelled : {file before after : List ℕ} {returned : Returned} → Read file before after returned → returned.says ≡ gives tt →
    Spelled file after returned
unfolding refused_with
accepted-is-spelled (wrong-memory h) e = let z : ◌≡◌ {A = ℕ} 0 1 = cc in absurd (omega arith)
accepted-is-spelled (not-spelled h n) e = let z : ◌≡◌ {A = ℕ} 0 1 = cc in absurd (omega arith)
accepted-is-spelled (read i h a s) e = record { image = i; spellable = a; spells = s; fills = refl; hands = refl }

pub spelled-is-accepted : {file before after : List ℕ} {returned : Returned} → Read file before after returned → length before ≡ memory_length →
    (i : Image) → Spellable i → spelled i ≡ file → returned.says ≡ gives tt
unfolding loaded_from
spelled-is-accepted (wrong-memory h) long i a s = absurd (h long)
spelled-is-accepted (not-spelled h n) long i a s = absurd (n i a s)
spelled-is-accepted (read j h b t) long i a s = refl

-- No file is spelled by two images.
pub one-image : (i j : Image) → Spellable i → Spellable j → spelled i ≡ spelled j → i ≡ j
one-image = only-image
