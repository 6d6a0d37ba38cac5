-- A result is right where its parts are.
use Rattle.std.proofs.Common.{◌≡◌, ℕ}
use Rattle.word.specs.Outcomes.{says_outcome}
use Rattle.word.specs.Sums.{alone}
use Rattle.word.specs.declared.Changed.{Changed}
use Rattle.word.specs.declared.Outcome.TheVariants.{Single, Double}

pub changed : {v w f g : ℕ} → v ≡ w → f ≡ g → ◌≡◌ {A = Changed} (record { value = v; flag = f }) (record { value = w; flag = g })
changed p q = λ i. record { value = p i; flag = q i }

pub single : {v w f g : ℕ} → v ≡ w → f ≡ g → says_outcome (Single v f) ≡ says_outcome (Single w g)
single p q = λ i. says_outcome (Single (p i) (q i))

pub double : {u v w x f : ℕ} → u ≡ v → w ≡ x → says_outcome (Double u w f) ≡ says_outcome (Double v x f)
double {f = f} p q = λ i. says_outcome (Double (p i) (q i) f)

pub stands-alone : {c d : Changed} → c ≡ d → says_outcome (alone c) ≡ says_outcome (alone d)
stands-alone e = λ i. says_outcome (alone (e i))
