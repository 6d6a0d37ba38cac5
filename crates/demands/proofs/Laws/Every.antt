-- A test that passes at each element of a list, and what follows for one of them or for all.
use Rattle.std.proofs.Common.{sym, subst, ltb→lt}
use Rattle.std.specs.Prelude.{Bool, true, ℕ, ◌<◌, T, ltb}
use mathlib.Core.List.{List, [], ◌∷◌, Memᴰ}
use Rattle.plain.specs.All.{All}
use Rattle.plain.specs.Choice.{both}
use Rattle.plain.specs.Laws.Choice.{both-parts}

abbrev pub every : {A : Type 0} → (A → Bool) → List A → Bool
every f [] = true
every f (x ∷ xs) = both (f x) (every f xs)

pub at-member : {A : Type 0} (f : A → Bool) (l : List A) (x : A) → T (every f l) → Memᴰ x l → T (f x)
at-member f [] x t e = elim e [ ]
at-member f (y ∷ ys) x t (Memᴰ.head e) = subst (λ z. T (f z)) (sym e) (both-parts (f y) (every f ys) t).0
at-member f (y ∷ ys) x t (Memᴰ.tail m) = at-member f ys x (both-parts (f y) (every f ys) t).1 m

pub all-below : (limit : ℕ) (l : List ℕ) → T (every (λ x. ltb x limit) l) → All (λ x. x < limit) l
all-below limit [] t = tt
all-below limit (x ∷ xs) t =
    let p = both-parts (ltb x limit) _ t in
    (ltb→lt x limit p.0, all-below limit xs p.1)
