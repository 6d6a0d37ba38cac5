-- A store of some bytes leaves every other byte, and leaves lists alike that were.
use Rattle.std.specs.Prelude.{◌≡◌, refl, List, [], ◌∷◌, ℕ, zero, suc, ◌+◌, ◌<◌, length, set}
use Rattle.std.proofs.Common.{sym, ◌∙◌, arith, length-set, get_or-set_other}
use Rattle.std.proofs.lemmas.List.Edits.{sets}
use Rattle.numbers.specs.Bytes.{byte_at}

pub elsewhere : (l : List ℕ) (a : ℕ) (bytes : List ℕ) (j : ℕ) → ((k : ℕ) → k < length bytes → j ≡ a + k → ⊥) →
    byte_at (sets l a bytes) j ≡ byte_at l j
elsewhere l a [] j far = refl
elsewhere l a (x ∷ xs) j far =
    elsewhere (set l a x) (suc a) xs j (λ k h e. far (suc k) (omega arith) (omega arith))
    ∙ get_or-set_other l a j x 0 (λ e. far 0 (omega arith) (omega arith))

stored-alike : (l r : List ℕ) → length l ≡ length r → (a x j : ℕ) → byte_at l j ≡ byte_at r j → byte_at (set l a x) j ≡ byte_at (set r a x) j
stored-alike [] [] long a x j same = same
stored-alike [] (z ∷ zs) long a x j same = absurd (omega arith)
stored-alike (y ∷ ys) [] long a x j same = absurd (omega arith)
stored-alike (y ∷ ys) (z ∷ zs) long zero x zero same = refl
stored-alike (y ∷ ys) (z ∷ zs) long zero x (suc j) same = same
stored-alike (y ∷ ys) (z ∷ zs) long (suc a) x zero same = same
stored-alike (y ∷ ys) (z ∷ zs) long (suc a) x (suc j) same = stored-alike ys zs (omega arith) a x j same

pub all-stored-alike : (l r : List ℕ) → length l ≡ length r → (a : ℕ) (bytes : List ℕ) (j : ℕ) → byte_at l j ≡ byte_at r j →
    byte_at (sets l a bytes) j ≡ byte_at (sets r a bytes) j
all-stored-alike l r long a [] j same = same
all-stored-alike l r long a (x ∷ xs) j same =
    all-stored-alike (set l a x) (set r a x) (length-set l a x ∙ (long ∙ sym (length-set r a x))) (suc a) xs j (stored-alike l r long a x j same)
