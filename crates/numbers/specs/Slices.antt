-- What reading and writing a number in a slice answers: of n bytes at a place, all have to lie inside.
use Rattle.std.specs.Prelude.{Bool, List, ℕ, ◌+◌, leb, length, Option, Some, None, Result, Ok, Err}
use Rattle.std.proofs.lemmas.List.Edits.{sets}
use Rattle.plain.specs.Answer.{Answer, refuses, gives, not_as_asked}
use Rattle.plain.specs.Choice.{pick}
use Rattle.numbers.specs.Bytes.{number_at, bytes_of}
use Rattle.numbers.specs.declared.Outside.{Outside}

abbrev pub inside : ℕ → List ℕ → ℕ → Bool
inside n bytes a = leb (a + n) (length bytes)

-- the number of a slice that is too short, as of any lent buffer
abbrev pub too_short : ℕ
too_short = not_as_asked

abbrev pub says_found : Option ℕ → Answer ℕ
says_found (Some v) = gives v
says_found None = refuses too_short

-- the number that n bytes spell at a place
unfoldable pub read_at : ℕ → List ℕ → ℕ → Answer ℕ
read_at n bytes a = pick (inside n bytes a) (gives (number_at n bytes a)) (refuses too_short)

abbrev pub says_written : Result (Unit {0}) Outside → Answer (Unit {0})
says_written (Ok done) = gives done
says_written (Err outside) = refuses too_short

-- what a write answers and what the slice then holds
pub record Wrote : Type 0 where
  pub said : Answer (Unit {0})
  pub bytes : List ℕ

-- n bytes of a number put at a place, or nothing touched
unfoldable pub write_at : ℕ → ℕ → List ℕ → ℕ → Wrote
write_at n v bytes a =
    pick (inside n bytes a)
    (record { said = gives tt; bytes = sets bytes a (bytes_of n v) })
    (record { said = refuses too_short; bytes = bytes })

-- where the characters end
abbrev pub says_put : Result ℕ Outside → Answer ℕ
says_put (Ok end) = gives end
says_put (Err outside) = refuses too_short

-- what putting characters answers and what the slice then holds
pub record WroteText : Type 0 where
  pub said : Answer ℕ
  pub text : List ℕ

-- characters put at a place, or nothing touched
unfoldable pub put_at : List ℕ → List ℕ → ℕ → WroteText
put_at characters text a =
    pick (inside (length characters) text a)
    (record { said = gives (a + length characters); text = sets text a characters })
    (record { said = refuses too_short; text = text })
