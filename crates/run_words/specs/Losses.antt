-- What the memory loses by a store: it is added up for a run, and taken off the memory sum once, when the run is over.
use Rattle.std.specs.Prelude.{List, ◌⊎◌, ◌≡◌, ℕ, ◌+◌, ◌-◌, ◌%◌, ◌^◌}
use Rattle.std.proofs.lemmas.List.Edits.{sets}
use Rattle.numbers.specs.Bytes.{bytes_of}
use Rattle.machine.specs.Sum.{sum_of}
use Rattle.machine.proofs.Laws.Sum.{standing}

-- one of three codes
abbrev pub OneOf : ℕ → ℕ → ℕ → ℕ → Type 0
OneOf a b d code = (code ≡ a) ⊎ ((code ≡ b) ⊎ (code ≡ d))

-- STORE.L, STORE.W or STORE.B
abbrev pub IsStore : ℕ → Type 0
IsStore code = OneOf 0x2E 0x30 0x32 code

-- the n bytes that stand at an address, less those of the value that is put there, modulo 2^32
unfoldable pub loss_of : ℕ → List ℕ → ℕ → ℕ → ℕ
loss_of n mem at value = (standing n mem at + (2 ^ 32 - sum_of (bytes_of n value))) % 2 ^ 32

-- n bytes of a value are put at an address, and what the memory loses by it is told
pub record Puts (n : ℕ) (mem : List ℕ) (at value : ℕ) (mem' : List ℕ) (lost : ℕ) : Type 0 where
  pub written : mem' ≡ sets mem at (bytes_of n value)
  pub lost-is : lost ≡ loss_of n mem at value
