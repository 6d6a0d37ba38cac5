-- What the functions on a part of a state promise each other.
use Rattle.std.specs.Prelude.{List, ◌++◌, ◌≡◌, ℕ, ◌+◌, length, take, drop}
use Rattle.state.specs.Parts.{Part}

-- `PartStands part state at x`: x fits, and its bytes are those of the state from the place on
pub record PartStands {A : Type 0} (part : Part A) (state : List ℕ) (at : ℕ) (x : A) : Type 0 where
  pub fit : part.Fits x
  pub spelled : part.bytes x ≡ take part.width (drop at state)

-- `PartPut part before at x after`: x fits by its type, and its bytes stand from the place on, after the bytes before it
pub record PartPut {A : Type 0} (part : Part A) (before : List ℕ) (at : ℕ) (x : A) (after : List ℕ) : Type 0 where
  pub fit : part.Fits x
  pub bytes-are : take (at + part.width) after ≡ take at before ++ part.bytes x
  pub as_long : length after ≡ length before
