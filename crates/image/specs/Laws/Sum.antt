-- The memory sum that the reader hands out: that of the memory which it filled, and no more than a run takes.
use Rattle.std.specs.Prelude.{List, [], ◌∷◌, ◌≡◌, refl, ℕ, ◌^◌, ◌≤◌}
use Rattle.std.proofs.Common.{arith}
use Rattle.plain.specs.Answer.{gives}
use Rattle.numbers.specs.Lists.{AllBelow}
use Rattle.machine.specs.Fits.{AllBytes}
use Rattle.machine.specs.Limits.{memory_length, most_sum}
use Rattle.machine.specs.Sum.{sum_of}
use Rattle.machine.proofs.Laws.Sum.{sum-most, sum-padded}
use Rattle.image.specs.Loading.{Returned, Read, wrong-memory, not-spelled, read, loaded_from, refused_with}

pub sum-filled : (file before after : List ℕ) (h : Returned) → Read file before after h → h.says ≡ gives tt → h.sum ≡ sum_of after
unfolding refused_with loaded_from
sum-filled file before after h (wrong-memory other) good = let z : ◌≡◌ {A = ℕ} 0 1 = cc in absurd (omega arith)
sum-filled file before after h (not-spelled long none) good = let z : ◌≡◌ {A = ℕ} 0 1 = cc in absurd (omega arith)
sum-filled file before after h (read i long spellable spells) good = refl

all-bytes : (l : List ℕ) → AllBelow (2 ^ 8) l → AllBytes l
all-bytes [] h = tt
all-bytes (b ∷ bs) h = (h.0, all-bytes bs h.1)

pub sum_low : (file before after : List ℕ) (h : Returned) → Read file before after h → h.sum ≤ most_sum
unfolding refused_with loaded_from
sum_low file before after h (wrong-memory other) = omega arith
sum_low file before after h (not-spelled long none) = omega arith
sum_low file before after h (read i long spellable spells) =
    let most = sum-most i.memory (all-bytes i.memory spellable.memory-within.in-width) in
    let zeros = sum-padded memory_length i.memory in
    let short = spellable.memory-within.fit in
    omega (arith, most, zeros, short)
