-- One more element of an array.
use Rattle.std.specs.Prelude.{List, [], ◌∷◌, ◌++◌, ◌≡◌, ℕ}
use Rattle.std.proofs.Common.{append_assoc, append-nil, sym, ap, ◌∙◌}
use Rattle.plain.specs.All.{All}
use Rattle.state.specs.Parts.{each}

pub each_more : {A : Type 0} (bytes : A → List ℕ) (xs : List A) (x : A) → each bytes (xs ++ (x ∷ [])) ≡ each bytes xs ++ bytes x
unfolding each
each_more bytes [] x = append-nil (bytes x)
each_more bytes (y ∷ ys) x = ap (λ (l : List ℕ). bytes y ++ l) (each_more bytes ys x) ∙ sym (append_assoc (bytes y) (each bytes ys) (bytes x))

pub all_more : {A : Type 0} (Fits : A → Type 0) (xs : List A) (x : A) → All Fits xs → Fits x → All Fits (xs ++ (x ∷ []))
all_more Fits [] x h k = (k, tt)
all_more Fits (y ∷ ys) x h k = (h.0, all_more Fits ys x h.1 k)
