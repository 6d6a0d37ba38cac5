-- A text that grows: characters put after one another.
use Rattle.std.specs.Prelude.{List, ◌≡◌, ℕ, ◌+◌, length}
use Rattle.std.proofs.lemmas.List.Edits.{sets}

-- `Appended before at characters after next`: the characters stand from the place on and end at the next; nothing else is touched
pub record Appended (before : List ℕ) (at : ℕ) (characters after : List ℕ) (next : ℕ) : Type 0 where
  pub next-is : next ≡ at + length characters
  pub text-is : after ≡ sets before at characters
