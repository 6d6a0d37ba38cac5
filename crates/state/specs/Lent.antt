-- What a host has after a call.
use Rattle.std.specs.Prelude.{List, ℕ}

-- the number that the call answered, and the three lent buffers afterwards
pub record Lent : Type 0 where
  pub number : ℕ
  pub state : List ℕ
  pub memory : List ℕ
  pub result : List ℕ
