-- What an answer says, in document 01's terms: the number of a refusal, or what a good call gives.
use Rattle.std.specs.Prelude.{ℕ}

pub data Answer {ℓ} (A : Type ℓ) : Type ℓ where
  refuses : ℕ → Answer A
  gives : A → Answer A

-- the number of what is handed in and not as asked: a memory, a budget, a state, a lent buffer
abbrev pub not_as_asked : ℕ
not_as_asked = 2
