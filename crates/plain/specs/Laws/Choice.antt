-- What a choice says of its parts.
use Rattle.std.specs.Prelude.{Bool, true, false, ◌≡◌, refl, T}
use Rattle.std.proofs.Common.{subst}
use Rattle.plain.specs.Choice.{pick, both, not}

both_left : (a b : Bool) → T (both a b) → T a
both_left true b t = tt
both_left false b t = t

both_right : (a b : Bool) → T (both a b) → T b
both_right true b t = t
both_right false b t = absurd t

-- both tests hold
pub both-parts : (a b : Bool) → T (both a b) → T a × T b
both-parts a b t = (both_left a b t, both_right a b t)

-- two tests that hold
pub both_hold : (a b : Bool) → T a → T b → T (both a b)
both_hold true b t u = u
both_hold false b t u = absurd t

pub both_true : (a b : Bool) → both a b ≡ true → (a ≡ true) × (b ≡ true)
both_true true b e = (refl, e)
both_true false b e = absurd (subst (λ (x : Bool). T (pick x false true)) e tt)

pub both_false : (a b : Bool) → both a b ≡ false → a ≡ true → b ≡ false
both_false true b e t = e
both_false false b e t = absurd (subst (λ (x : Bool). T (pick x false true)) t tt)

-- a test does not hold where its opposite does
pub opposed : (b : Bool) → T (not b) → T b → ⊥
opposed true other same = other
opposed false other same = same

-- a test that holds is true
pub is_true : (b : Bool) → T b → b ≡ true
is_true true t = refl
is_true false t = absurd t
