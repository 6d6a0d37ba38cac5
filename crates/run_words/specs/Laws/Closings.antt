-- How a turn is closed, by its answer and its mark.
use Rattle.std.specs.Prelude.{◌≡◌, Bool, true, false, List, ℕ, T, get_or, set}
use Rattle.std.proofs.Common.{ap, sym, subst, ◌∙◌, arith}
use Rattle.std.proofs.lemmas.List.{set-get_or}
use Rattle.machine.specs.Tasks.{ready}

-- one that can go on keeps the number that it has
pub still-ready : (kept : List ℕ) (t : ℕ) {answer : ℕ} → get_or kept t 0 ≡ ready → answer ≡ ready → kept ≡ set kept t answer
still-ready kept t is e = sym (ap (set kept t) (e ∙ sym is) ∙ set-get_or kept t 0)

-- a mark is set or not
pub not-marked : {A : Type 0} {b : Bool} → b ≡ false → b ≡ true → A
not-marked not is = absurd (subst T (sym is ∙ not) tt)

-- one that is marked does not answer that it is ready
pub marked-zero : {A : Type 0} {answer : ℕ} → answer ≡ 0 → answer ≡ ready → A
marked-zero none is = absurd (omega arith)
