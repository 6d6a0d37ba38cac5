-- No second answer: two answers that meet a promise, with the bytes that they leave, are equal.
use Rattle.std.specs.Prelude.{option_map, List, ◌≡◌, refl, ℕ, Option, Some, None, Result, Ok, Err}
use Rattle.std.proofs.Common.{sym, ap, ◌∙◌}
use Rattle.numbers.specs.Slices.{says_found, says_written, read_at, Wrote, write_at, says_put, WroteText, put_at}
use Rattle.numbers.specs.declared.Outside.{Outside}

-- an answer says nothing that another case says
pub same-found : (a b : Option ℕ) → says_found a ≡ says_found b → a ≡ b
same-found (Some v) (Some w) e = cc
same-found (Some v) None e = cc
same-found None (Some w) e = cc
same-found None None e = refl

pub same-written : (a b : Result (Unit {0}) Outside) → says_written a ≡ says_written b → a ≡ b
same-written (Ok done) (Ok done') e = refl
same-written (Ok done) (Err outside) e = cc
same-written (Err outside) (Ok done) e = cc
same-written (Err outside) (Err outside') e = refl

pub same-put : (a b : Result ℕ Outside) → says_put a ≡ says_put b → a ≡ b
same-put (Ok v) (Ok w) e = cc
same-put (Ok v) (Err outside) e = cc
same-put (Err outside) (Ok w) e = cc
same-put (Err outside) (Err outside') e = refl

-- read, at each type of numbers
pub only-read : (n : ℕ) (bytes : List ℕ) (at : ℕ) (a b : Option ℕ)
    → says_found a ≡ read_at n bytes at → says_found b ≡ read_at n bytes at → a ≡ b
only-read n bytes at a b h k = same-found a b (h ∙ sym k)

-- write, at each type of numbers: the answer and every byte
pub only-write : (n v : ℕ) (bytes : List ℕ) (at : ℕ) (a b : Result (Unit {0}) Outside) (x y : List ℕ)
    → record { said = says_written a; bytes = x } ≡ write_at n v bytes at
    → record { said = says_written b; bytes = y } ≡ write_at n v bytes at
    → (a ≡ b) × (x ≡ y)
only-write n v bytes at a b x y h k =
    let same : ◌≡◌ {A = Wrote} (record { said = says_written a; bytes = x }) (record { said = says_written b; bytes = y }) = h ∙ sym k in
    (same-written a b (ap (λ (w : Wrote). w.said) same), ap (λ (w : Wrote). w.bytes) same)

-- write_decimal, write_hexadecimal: the answer and every character
pub only-put : (characters text : List ℕ) (at : ℕ) (a b : Result ℕ Outside) (x y : List ℕ)
    → record { said = says_put a; text = x } ≡ put_at characters text at
    → record { said = says_put b; text = y } ≡ put_at characters text at
    → (a ≡ b) × (x ≡ y)
only-put characters text at a b x y h k =
    let same : ◌≡◌ {A = WroteText} (record { said = says_put a; text = x }) (record { said = says_put b; text = y }) = h ∙ sym k in
    (same-put a b (ap (λ (s : WroteText). s.said) same), ap (λ (s : WroteText). s.text) same)

-- read at any type of numbers, no two values of which are one number
pub only-read-as : {A : Type 0} (value : A → ℕ) → ((a b : A) → value a ≡ value b → a ≡ b) → (n : ℕ) (bytes : List ℕ) (at : ℕ) (a b : Option A)
    → says_found (option_map value a) ≡ read_at n bytes at → says_found (option_map value b) ≡ read_at n bytes at → a ≡ b
only-read-as value apart n bytes at a b h k = go a b (only-read n bytes at (option_map value a) (option_map value b) h k)
  where
    go : (x y : Option _) → option_map value x ≡ option_map value y → x ≡ y
    go (Some x) (Some y) e = ap Some (apart x y (cc))
    go (Some x) None e = cc
    go None (Some y) e = cc
    go None None e = refl

-- Number::lowest: the value whose number is given by an equation
pub only-lowest : {A : Type 0} (value : A → ℕ) → ((a b : A) → value a ≡ value b → a ≡ b) → (n : ℕ) (a b : A) → value a ≡ n → value b ≡ n → a ≡ b
only-lowest value apart n a b h k = apart a b (h ∙ sym k)

-- one_byte, two_bytes, three_bytes, four_bytes: a number that is given by an equation
pub only-joined : (joined a b : ℕ) → a ≡ joined → b ≡ joined → a ≡ b
only-joined joined a b h k = h ∙ sym k
