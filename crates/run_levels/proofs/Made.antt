-- What `from_fn` made by a closure that every call leaves as it was.
use Rattle.std.proofs.Common.{◌≡◌, ◌≢◌, List, ℕ, zero, suc, ◌+◌, ◌<◌, ◌≤◌, get_or, ◌∙◌, subst, arith}
use Rattle.std.proofs.Math.Decide.{ℕ_discrete}
use Rattle.std.proofs.Math.Logic.{dite}
use Rattle.std.specs.Array.{IsFromFnResult, IsFromFnResultFrom}
use Rattle.std.specs.Fn.{Called}
use denote.Param.Members.{Mut}

module _ {F B : Type 0} (g : Mut F (ℕ × Unit {0}) B) (f : F) (made : List B) (count : ℕ) (d : B) (at : ℕ → B)
    (step : (i : ℕ) (y : B) (q : F) → i < count → Called g f (i, tt) y q → (q ≡ f) × (y ≡ at i))
  where
    elements : (n i : ℕ) → i + n ≡ count → IsFromFnResultFrom g f made i n → (k : ℕ) → i ≤ k → k < count → get_or made k d ≡ at k
    elements zero i e h k low high = absurd (omega arith)
    elements (suc n) i e h k low high =
        let call = step i h.1 h.0 (omega arith) h.3 in
        dite (ℕ_discrete k i) (λ (here : k ≡ i). rw here (h.2.1 d ∙ call.1))
        (λ (ne : k ≢ i). elements n (i + 1) (omega arith) (subst (λ (q : F). IsFromFnResultFrom g q made (i + 1) n) call.0 h.4) k (omega arith) high)

    -- each element is what the closure gives of its place
    pub made-at : IsFromFnResult g f made count → (k : ℕ) → k < count → get_or made k d ≡ at k
    made-at h k less = elements count 0 (omega arith) h.each k (omega arith) less
