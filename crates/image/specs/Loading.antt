-- What the reader answers, and what it leaves in the lent memory.
use Rattle.std.specs.Prelude.{List, ◌≡◌, ℕ, length}
use Rattle.plain.specs.Answer.{Answer, refuses, gives, not_as_asked}
use Rattle.plain.specs.Zeros.{padded}
use Rattle.machine.specs.Limits.{memory_length}
use Rattle.machine.specs.declared.Machine.{Machine}
use Rattle.machine.specs.Refusals.{says}
use Rattle.machine.specs.State.{fresh_machine, machine_with}
use Rattle.machine.specs.Sum.{sum_of}
use Rattle.image.specs.Format.{Image, Spellable, budget_of, spelled}
use Rattle.image.specs.Judging.{bad_file}
use Rattle.image.specs.declared.Loaded.{Loaded}

-- the number of a lent memory of another length
abbrev pub other_memory : ℕ
other_memory = not_as_asked

-- what the reader returns: what it says, and the machine, the budget and the memory sum beside it
pub record Returned : Type 0 where
  pub says : Answer (Unit {0})
  pub machine : Machine
  pub budget : ℕ
  pub sum : ℕ

-- a good file has no number
abbrev pub returned : Loaded → Returned
returned loaded = record { says = says loaded.verdict; machine = loaded.machine; budget = loaded.budget; sum = loaded.sum }

-- what a call of the reader leaves: the memory, and what it returned
pub record Reading : Type 0 where
  pub memory : List ℕ
  pub returned : Returned

-- with every refusal a fresh machine, budget 0 and sum 0
unfoldable pub refused_with : ℕ → Returned
refused_with answer = record { says = refuses answer; machine = fresh_machine; budget = 0; sum = 0 }

-- the memory that an image fills
abbrev pub filled : Image → List ℕ
filled i = padded memory_length i.memory

-- the machine and the budget that an image spells; with request P9 the sum of the memory that it fills
unfoldable pub loaded_from : Image → Returned
loaded_from i = record { says = gives tt; machine = machine_with i.cells; budget = budget_of i.budget; sum = sum_of (filled i) }

-- `Read file before after returned`: a memory of another length is 2, a file that spells no image is 14, and both leave it as it was;
-- a file that spells an image fills it
pub data Read (file before : List ℕ) : List ℕ → Returned → Type 0 where
  wrong-memory : (length before ≡ memory_length → ⊥) → Read file before before (refused_with other_memory)
  not-spelled : length before ≡ memory_length → ((i : Image) → Spellable i → spelled i ≡ file → ⊥) → Read file before before (refused_with bad_file)
  read : (i : Image) → length before ≡ memory_length → Spellable i → spelled i ≡ file → Read file before (filled i) (loaded_from i)
