-- A good image fills a memory of bytes, as long as a memory is.
use Rattle.std.specs.Prelude.{List, [], ◌∷◌, ◌≡◌, ℕ, ◌^◌, length}
use Rattle.std.proofs.Common.{arith, lit<}
use Rattle.plain.specs.Answer.{gives}
use Rattle.plain.specs.Laws.All.{all-padded}
use Rattle.numbers.specs.Lists.{AllBelow}
use Rattle.machine.specs.Limits.{memory_length}
use Rattle.machine.specs.Fits.{AllBytes}
use Rattle.machine.proofs.Laws.Started.{padded-long}
use Rattle.image.specs.Loading.{Returned, Read, wrong-memory, not-spelled, read, refused_with}

below-bytes : (l : List ℕ) → AllBelow (2 ^ 8) l → AllBytes l
below-bytes [] h = tt
below-bytes (b ∷ bs) h = (h.0, below-bytes bs h.1)

pub read-fills : {file before after : List ℕ} {returned : Returned} → Read file before after returned → returned.says ≡ gives tt →
    AllBytes after × (length after ≡ memory_length)
unfolding refused_with
read-fills (wrong-memory other) good = let z : ◌≡◌ {A = ℕ} 0 1 = cc in absurd (omega arith)
read-fills (not-spelled long none) good = let z : ◌≡◌ {A = ℕ} 0 1 = cc in absurd (omega arith)
read-fills (read i long spellable spells) good = (
  all-padded _ memory_length i.memory (below-bytes i.memory spellable.memory-within.in-width) (lit< tt),
  padded-long memory_length i.memory spellable.memory-within.fit,
)
