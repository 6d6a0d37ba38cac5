-- Two outcomes that say the same are the same: so a promise that speaks through `says_outcome` settles the outcome itself.
use Rattle.std.specs.Prelude.{◌≡◌}
use Rattle.word.specs.Outcomes.{says_outcome}
use Rattle.word.specs.declared.Outcome.{Outcome}
use Rattle.word.specs.declared.Outcome.TheVariants.{Single, Double, DivisorZero}

pub same_outcome : (r s : Outcome) → says_outcome r ≡ says_outcome s → r ≡ s
same_outcome (Single a f) (Single b g) e = cc
same_outcome (Single a f) (Double b c g) e = cc
same_outcome (Single a f) DivisorZero e = cc
same_outcome (Double a b f) (Single c g) e = cc
same_outcome (Double a b f) (Double c d g) e = cc
same_outcome (Double a b f) DivisorZero e = cc
same_outcome DivisorZero (Single a f) e = cc
same_outcome DivisorZero (Double a b f) e = cc
same_outcome DivisorZero DivisorZero e = cc
