-- An image that a host hands in: it is read, and what it spells is handed out as bytes.
use Rattle.std.specs.Prelude.{List, [], ◌∷◌, ◌≡◌, ℕ, length}
use Rattle.plain.specs.Answer.{gives, not_as_asked}
use Rattle.image.specs.Loading.{Reading, Read, refused_with}
use Rattle.state.specs.Parts.{Part, Field, ◌of◌, fields}
use Rattle.state.specs.Layout as layout
use Rattle.state.specs.Lent.{Lent}

-- what an image spells beside memory and machine
pub record Beside : Type 0 where
  pub budget : ℕ
  pub sum : ℕ

-- what joins it stands at the end of the list
abbrev pub beside_fields : List (Field Beside)
beside_fields = layout.pointer of (λ b. b.budget) ∷ layout.pointer of (λ b. b.sum) ∷ []

abbrev pub beside : Part Beside
beside = fields beside_fields

abbrev pub beside_of : Reading → Beside
beside_of reading = record { budget = reading.returned.budget; sum = reading.returned.sum }

-- what a good image leaves, for the host
abbrev pub handed_out : Reading → Lent
handed_out reading =
    let read = reading.returned in
    record {
      number = 0;
      state = (layout.state).bytes read.machine;
      memory = reading.memory;
      result = beside.bytes (beside_of reading);
    }

-- `Reads image memory state result out`: another length of the state or the result is 2, then what the reader refuses has its
-- number, and both touch nothing; else the state is the machine that was read and the result its budget and
-- the memory sum, and the bytes can carry them
pub data Reads (image memory state result : List ℕ) : Lent → Type 0 where
  wrong-length : ((length state ≡ (layout.state).width) × (length result ≡ beside.width) → ⊥)
      → Reads image memory state result (record { number = not_as_asked; state = state; memory = memory; result = result })
  refused : (number : ℕ) → length state ≡ (layout.state).width → length result ≡ beside.width
      → Read image memory memory (refused_with number)
      → Reads image memory state result (record { number = number; state = state; memory = memory; result = result })
  read : (reading : Reading) → length state ≡ (layout.state).width → length result ≡ beside.width
      → Read image memory reading.memory reading.returned → reading.returned.says ≡ gives tt
      → (layout.state).Fits reading.returned.machine → beside.Fits (beside_of reading)
      → Reads image memory state result (handed_out reading)
