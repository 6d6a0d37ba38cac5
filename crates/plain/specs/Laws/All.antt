-- What holds of each element of a list holds of what is read from it, and is kept by a store of something that it holds of.
use Rattle.std.specs.Prelude.{List, [], ◌∷◌, ◌++◌, ℕ, zero, suc, ◌-◌, ◌<◌, get_or, set, length, take, drop, replicate}
use Rattle.std.proofs.Common.{le_of_suc-le-suc, not-suc-le-zero}
use Rattle.std.proofs.lemmas.List.Edits.{sets}
use Rattle.plain.specs.All.{All}
use Rattle.plain.specs.Zeros.{padded}

module _ {A : Type 0} (P : A → Type 0) where
  -- of an element within the list
  pub all-at : (l : List A) → All P l → (i : ℕ) (d : A) → i < length l → P (get_or l i d)
  all-at [] h i d lt = absurd (not-suc-le-zero lt)
  all-at (x ∷ xs) h zero d lt = h.0
  all-at (x ∷ xs) h (suc i) d lt = all-at xs h.1 i d (le_of_suc-le-suc lt)

  -- of any, where it holds of what a read past the end gives
  pub all_read : (l : List A) → All P l → (i : ℕ) (d : A) → P d → P (get_or l i d)
  all_read [] h i d p = p
  all_read (x ∷ xs) h zero d p = h.0
  all_read (x ∷ xs) h (suc i) d p = all_read xs h.1 i d p

  pub all_set : (l : List A) → All P l → (i : ℕ) (x : A) → P x → All P (set l i x)
  all_set [] h i x p = h
  all_set (y ∷ ys) h zero x p = (p, h.1)
  all_set (y ∷ ys) h (suc i) x p = (h.0, all_set ys h.1 i x p)

  pub all-sets : (l : List A) → All P l → (i : ℕ) (xs : List A) → All P xs → All P (sets l i xs)
  all-sets l h i [] p = h
  all-sets l h i (x ∷ xs) p = all-sets (set l i x) (all_set l h i x p.0) (suc i) xs p.1

  pub all_replicate : (n : ℕ) (x : A) → P x → All P (replicate n x)
  all_replicate zero x p = tt
  all_replicate (suc n) x p = (p, all_replicate n x p)

  pub all_take : (n : ℕ) (l : List A) → All P l → All P (take n l)
  all_take zero l h = tt
  all_take (suc n) [] h = tt
  all_take (suc n) (x ∷ xs) h = (h.0, all_take n xs h.1)

  pub all_drop : (n : ℕ) (l : List A) → All P l → All P (drop n l)
  all_drop zero l h = h
  all_drop (suc n) [] h = tt
  all_drop (suc n) (x ∷ xs) h = all_drop n xs h.1

  pub all_append : (l m : List A) → All P l → All P m → All P (l ++ m)
  all_append [] m h k = k
  all_append (x ∷ xs) m h k = (h.0, all_append xs m h.1 k)

pub all-padded : (P : ℕ → Type 0) (size : ℕ) (l : List ℕ) → All P l → P 0 → All P (padded size l)
unfolding padded
all-padded P size l h zeros =
    let more = size - length l in
    all_append P l (replicate more 0) h (all_replicate P more 0 zeros)
