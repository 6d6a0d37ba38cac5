-- A list made of its elements by their places.
use Rattle.std.specs.Prelude.{◌≢◌, ◌≡◌, get_or, set, length}
use Rattle.std.proofs.Math.Path.{refl, ap}
use Rattle.std.proofs.Common.{◌∙◌, le_of_suc-le-suc, not-suc-le-zero, arith}
use mathlib.Core.List.{List, ◌∷◌}
use Prim.Native.Nat.{ℕ, zero, suc, ◌<◌}
use Rattle.run_words.specs.Levels.{tabulated}

module _ {A : Type 0} where
  pub length-tabulated : (n : ℕ) (at : ℕ → A) → length (tabulated n at) ≡ n
  unfolding tabulated
  length-tabulated zero at = refl
  length-tabulated (suc n) at = ap suc (length-tabulated n (λ i. at (suc i)))

  pub tabulated-at : (n : ℕ) (at : ℕ → A) (i : ℕ) (d : A) → i < n → get_or (tabulated n at) i d ≡ at i
  unfolding tabulated
  tabulated-at zero at i d h = absurd (not-suc-le-zero h)
  tabulated-at (suc n) at zero d h = refl
  tabulated-at (suc n) at (suc i) d h = tabulated-at n (λ j. at (suc j)) i d (le_of_suc-le-suc h)

  pub tabulated-same : (n : ℕ) (old new : ℕ → A) → ((i : ℕ) → i < n → new i ≡ old i) → tabulated n new ≡ tabulated n old
  unfolding tabulated
  tabulated-same zero old new same = refl
  tabulated-same (suc n) old new same =
      ap (λ (x : A). x ∷ tabulated n (λ i. new (suc i))) (same 0 (omega arith)) ∙
      ap (λ (l : List A). old 0 ∷ l) (tabulated-same n (λ i. old (suc i)) (λ i. new (suc i)) (λ i h. same (suc i) (omega arith)))

  -- one of them anew
  pub tabulated-set : (n : ℕ) (old new : ℕ → A) (j : ℕ) (x : A) → j < n → new j ≡ x → ((i : ℕ) → i < n → i ≢ j → new i ≡ old i) →
      tabulated n new ≡ set (tabulated n old) j x
  unfolding tabulated
  tabulated-set zero old new j x h here others = absurd (not-suc-le-zero h)
  tabulated-set (suc n) old new zero x h here others =
      ap (λ (y : A). y ∷ tabulated n (λ i. new (suc i))) here ∙
      ap (λ (l : List A). x ∷ l) (tabulated-same n (λ i. old (suc i)) (λ i. new (suc i)) (λ i less. others (suc i) (omega arith) (λ e. omega arith)))
  tabulated-set (suc n) old new (suc j) x h here others =
      ap (λ (y : A). y ∷ tabulated n (λ i. new (suc i))) (others 0 (omega arith) (λ e. omega arith)) ∙
      ap (λ (l : List A). old 0 ∷ l)
      (tabulated-set n (λ i. old (suc i)) (λ i. new (suc i)) j x (le_of_suc-le-suc h) here (λ i less ne. others (suc i) (omega arith) (λ e. ne (omega arith))))
