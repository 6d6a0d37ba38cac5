-- What an operation on two cells answers, in document 01's terms.
use Rattle.std.specs.Prelude.{ℕ, List, [], ◌∷◌}
use Rattle.plain.specs.Answer.{Answer, refuses, gives}
use Rattle.word.specs.declared.Outcome.{Outcome}
use Rattle.word.specs.declared.Outcome.TheVariants.{Single, Double, DivisorZero}

-- the cells that are left, deepest first, and the flag
pub data CellsLeft : Type 0 where
  leaves : List ℕ → ℕ → CellsLeft

-- answer 13: divisor zero
abbrev pub says_outcome : Outcome → Answer CellsLeft
says_outcome (Single value flag) = gives (leaves (value ∷ []) flag)
says_outcome (Double lower upper flag) = gives (leaves (lower ∷ upper ∷ []) flag)
says_outcome DivisorZero = refuses 13
