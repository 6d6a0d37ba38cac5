-- The two ways in which a number is read or written, and characters are put: all inside the slice, or not.
use Rattle.std.specs.Prelude.{Bool, List, true, false, ◌++◌, ◌≡◌, refl, ℕ, ◌+◌, ◌-◌, ◌*◌, ◌%◌, ◌^◌, ◌≤◌, length, take, drop}
use Rattle.std.specs.List.{between}
use Rattle.std.proofs.Common.{sym, ap, ◌∙◌, append_assoc, zero-add, mod-eq_of_lt, arith}
use Rattle.std.proofs.lemmas.List.Edits.{sets, sets-eq, length-between, get_or-between, paste_all}
use Rattle.std.proofs.lemmas.Slice.{put_mid-paste}
use Rattle.std.proofs.lemmas.Bool.{leb-true}
use borrow.Rule.Slice.PartMut.{put_mid}
use Rattle.plain.specs.Answer.{refuses, gives}
use Rattle.plain.specs.Choice.{pick}
use Rattle.numbers.specs.Bytes.{byte_at, number_at, bytes_of}
use Rattle.numbers.specs.Slices.{inside, too_short, read_at, Wrote, write_at, WroteText, put_at}
use Rattle.numbers.specs.Laws.Bytes.{Bytes, same_number, number-below}

-- the number of a part is the one that stands where the part begins
pub part-number : (n a : ℕ) (l : List ℕ) → a + n ≤ length l
    → number_at (length (between a (a + n) l)) (between a (a + n) l) 0 ≡ number_at n l a
part-number n a l h =
    let part : List ℕ = between a (a + n) l in
    let long : length part ≡ n = length-between l a (a + n) h ∙ omega arith in
    ap (λ (k : ℕ). number_at k part 0) long
    ∙ same_number n part l 0 a (λ i less. ap (byte_at part) (zero-add i) ∙ get_or-between l a (a + n) i 0 (omega arith))

-- a type of n bytes has every number that n bytes spell
pub read-number : (n a : ℕ) (l : List ℕ) (k joined v : ℕ) → Bytes l → a + n ≤ length l → k ≡ n
    → joined ≡ number_at (length (between a (a + k) l)) (between a (a + k) l) 0 → v ≡ joined % 2 ^ (8 * n)
    → v ≡ number_at n l a
read-number n a l k joined v bytes h e is low =
    let part : joined ≡ number_at n l a =
    is ∙ ap (λ (m : ℕ). number_at (length (between a (a + m) l)) (between a (a + m) l) 0) e ∙ part-number n a l h in
    low ∙ ap (λ (x : ℕ). x % 2 ^ (8 * n)) part ∙ mod-eq_of_lt (number-below n l a bytes)

-- a part that is filled with so many characters or bytes as it has places
pub part-sets : (fill : ℕ → List ℕ) → ((m : ℕ) → length (fill m) ≡ m) → (n a k : ℕ) (l part : List ℕ)
    → a + n ≤ length l → k ≡ n → part ≡ fill (length (between a (a + k) l)) → put_mid a (a + k - a) l part ≡ sets l a (fill n)
part-sets fill long n a k l part h e is =
    let filled : part ≡ fill n = is ∙ ap fill (length-between l a (a + k) (omega arith) ∙ omega arith) in
    let places : a + k - a ≡ n = omega arith in
    let ends : a + n ≡ a + length (fill n) = omega (arith, long n) in
    (λ i. put_mid a (places i) l (filled i))
    ∙ put_mid-paste a n l (fill n) (fill n) n refl refl (sym (long n))
    ∙ paste_all l a (fill n) n (sym (long n))
    ∙ ap (λ (m : ℕ). take a l ++ (fill n ++ drop m l)) ends
    ∙ sym (append_assoc (take a l) (fill n) (drop (a + length (fill n)) l))
    ∙ sym (sets-eq (fill n) l a (omega arith))

-- the test was made of k bytes, which are n
module _ (n : ℕ) (l : List ℕ) (a k : ℕ) (e : k ≡ n) where
  same-test : (b : Bool) → b ≡ inside k l a → b ≡ inside n l a
  same-test b h = h ∙ ap (λ (m : ℕ). inside m l a) e

  pub within : true ≡ inside k l a → a + n ≤ length l
  within h = leb-true (a + n) (length l) (sym (same-test true h))

  pub found : (v : ℕ) → true ≡ inside k l a → v ≡ number_at n l a → gives v ≡ read_at n l a
  unfolding read_at
  found v h is =
      ap gives is ∙ ap (λ (b : Bool). pick b (gives (number_at n l a)) (refuses too_short)) (same-test true h)

  pub not_found : false ≡ inside k l a → refuses too_short ≡ read_at n l a
  unfolding read_at
  not_found h = ap (λ (b : Bool). pick b (gives (number_at n l a)) (refuses too_short)) (same-test false h)

  abbrev wrote : ℕ → Wrote
  wrote v = record { said = gives tt; bytes = sets l a (bytes_of n v) }

  abbrev untouched : Wrote
  untouched = record { said = refuses too_short; bytes = l }

  pub written : (v : ℕ) (m : List ℕ) → true ≡ inside k l a → m ≡ sets l a (bytes_of n v)
      → record { said = gives tt; bytes = m } ≡ write_at n v l a
  unfolding write_at
  written v m h is =
      ap (λ (x : List ℕ). record { said = gives tt; bytes = x }) is
      ∙ ap (λ (b : Bool). pick b (wrote v) untouched) (same-test true h)

  pub not_written : (v : ℕ) → false ≡ inside k l a → record { said = refuses too_short; bytes = l } ≡ write_at n v l a
  unfolding write_at
  not_written v h = ap (λ (b : Bool). pick b (wrote v) untouched) (same-test false h)

-- characters, k of them
module _ (characters l : List ℕ) (a k : ℕ) (e : k ≡ length characters) where
  abbrev put-there : WroteText
  put-there = record { said = gives (a + length characters); text = sets l a characters }

  abbrev put-nowhere : WroteText
  put-nowhere = record { said = refuses too_short; text = l }

  pub put : (m : List ℕ) → true ≡ inside k l a → m ≡ sets l a characters
      → record { said = gives (a + k); text = m } ≡ put_at characters l a
  unfolding put_at
  put m h is =
      (λ i. record { said = gives (a + e i); text = is i })
      ∙ ap (λ (b : Bool). pick b put-there put-nowhere) (same-test (length characters) l a k e true h)

  pub not-put : false ≡ inside k l a → record { said = refuses too_short; text = l } ≡ put_at characters l a
  unfolding put_at
  not-put h = ap (λ (b : Bool). pick b put-there put-nowhere) (same-test (length characters) l a k e false h)
