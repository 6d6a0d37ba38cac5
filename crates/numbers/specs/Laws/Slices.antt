-- What reading, writing and putting come to, inside a slice and outside it.
use Rattle.std.specs.Prelude.{List, ◌≡◌, ℕ, ◌+◌, ◌≤◌, ◌<◌}
use Rattle.std.proofs.Math.ListN.{length}
use Rattle.std.proofs.lemmas.List.Edits.{sets}
use Rattle.std.proofs.Common.{le-leb}
use Rattle.std.proofs.lemmas.Bool.{lt-leb}
use Rattle.plain.specs.Answer.{refuses, gives}
use Rattle.numbers.specs.Bytes.{number_at, bytes_of}
use Rattle.numbers.specs.Slices.{too_short, read_at, write_at, put_at}

module _ (n : ℕ) (l : List ℕ) (a : ℕ) where
  pub read-inside : a + n ≤ length l → read_at n l a ≡ gives (number_at n l a)
  unfolding read_at
  read-inside h = simp (le-leb (a + n) (length l) h)

  pub read-outside : length l < a + n → read_at n l a ≡ refuses too_short
  unfolding read_at
  read-outside h = simp (lt-leb (a + n) (length l) h)

  pub write-inside : (v : ℕ) → a + n ≤ length l → write_at n v l a ≡ record { said = gives tt; bytes = sets l a (bytes_of n v) }
  unfolding write_at
  write-inside v h = simp (le-leb (a + n) (length l) h)

  pub write-outside : (v : ℕ) → length l < a + n → write_at n v l a ≡ record { said = refuses too_short; bytes = l }
  unfolding write_at
  write-outside v h = simp (lt-leb (a + n) (length l) h)

module _ (characters l : List ℕ) (a : ℕ) where
  pub put-inside : a + length characters ≤ length l
      → put_at characters l a ≡ record { said = gives (a + length characters); text = sets l a characters }
  unfolding put_at
  put-inside h = simp (le-leb (a + length characters) (length l) h)

  pub put-outside : length l < a + length characters → put_at characters l a ≡ record { said = refuses too_short; text = l }
  unfolding put_at
  put-outside h = simp (lt-leb (a + length characters) (length l) h)
