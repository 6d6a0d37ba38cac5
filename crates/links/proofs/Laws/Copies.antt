-- What one element of a list holds, after a store.
use Rattle.std.specs.Prelude.{List, [], ◌∷◌, ◌≡◌, refl, ℕ, zero, suc, ◌<◌, get_or, set, length}
use Rattle.std.proofs.Common.{ap, arith, get_or-set_same, get_or-set_other}

module _ {A : Type 0} (d : A) (part : A → ℕ) where
  -- a store that leaves a part as it was leaves the parts of all elements as they were
  pub part-kept : (l : List A) (i : ℕ) (x : A) → part x ≡ part (get_or l i d) → (n : ℕ) → part (get_or (set l i x) n d) ≡ part (get_or l n d)
  part-kept [] i x e n = refl
  part-kept (y ∷ ys) zero x e zero = e
  part-kept (y ∷ ys) zero x e (suc n) = refl
  part-kept (y ∷ ys) (suc i) x e zero = refl
  part-kept (y ∷ ys) (suc i) x e (suc n) = part-kept ys i x e n

  -- a store alters no part below it
  pub part-below : (l : List A) (i : ℕ) (x : A) (n : ℕ) → n < i → part (get_or (set l i x) n d) ≡ part (get_or l n d)
  part-below l i x n h = ap part (get_or-set_other l i n x d (λ (e : n ≡ i). omega arith))

  pub part-stored : (l : List A) (i : ℕ) (x : A) → i < length l → part (get_or (set l i x) i d) ≡ part x
  part-stored l i x h = ap part (get_or-set_same l i x d h)
