-- Bytes stored one after another, from the highest down, are a number's bytes.
use Rattle.std.specs.Prelude.{List, ◌≡◌, ℕ, suc, ◌+◌, ◌/◌, ◌%◌, ◌^◌, set}
use Rattle.std.proofs.Common.{◌∙◌, arith}
use Rattle.std.proofs.lemmas.List.Edits.{sets}
use Rattle.numbers.specs.Bytes.{bytes_of}
use Rattle.numbers.specs.Laws.Writing.{written-parts}

pub one-stored : (l : List ℕ) (at x v : ℕ) → x ≡ v % 2 ^ 8 → set l at x ≡ sets l at (bytes_of 1 v)
one-stored l at x v ex = λ i. set l at (ex i)

pub two-stored : (l : List ℕ) (at x y v : ℕ) → x ≡ v / 2 ^ 8 % 2 ^ 8 → y ≡ v % 2 ^ 8 → set (set l at x) (at + 1) y ≡ sets l at (bytes_of 2 v)
two-stored l at x y v ex ey =
    let e₁ : at + 1 ≡ suc at = omega arith in
    λ i. set (set l at (ex i)) (e₁ i) (ey i)

pub four-stored : (l : List ℕ) (at x y z w v : ℕ)
    → x ≡ v / 2 ^ 24 % 2 ^ 8 → y ≡ v / 2 ^ 16 % 2 ^ 8 → z ≡ v / 2 ^ 8 % 2 ^ 8 → w ≡ v % 2 ^ 8
    → set (set (set (set l at x) (at + 1) y) (at + 2) z) (at + 3) w ≡ sets l at (bytes_of 4 v)
four-stored l at x y z w v ex ey ez ew =
    let e₁ : at + 1 ≡ suc at = omega arith in
    let e₂ : at + 2 ≡ suc (suc at) = omega arith in
    let e₃ : at + 3 ≡ suc (suc (suc at)) = omega arith in
    λ i. set (set (set (set l at (ex i)) (e₁ i) (ey i)) (e₂ i) (ez i)) (e₃ i) (ew i)

pub eight-stored : (l m k : List ℕ) (at v : ℕ) → m ≡ sets l at (bytes_of 4 (v / 2 ^ 32)) → k ≡ sets m (at + 4) (bytes_of 4 (v % 2 ^ 32))
    → k ≡ sets l at (bytes_of 8 v)
eight-stored l m k at v em ek =
    ek ∙ (λ i. sets (em i) (at + 4) (bytes_of 4 (v % 2 ^ 32))) ∙ written-parts 4 4 v l at
