-- No second answer: two answers, with every buffer, that meet the promise are equal.
use Rattle.std.specs.Prelude.{List, ℕ}
use Rattle.std.proofs.Math.Path.{◌≡◌, refl, ap}
use Rattle.std.proofs.Common.{◌∙◌}
use native.Mathlib.Omega.{arith}
use Rattle.plain.specs.Answer.{Answer, refuses, gives}
use Rattle.image.specs.Loading.{Reading, Read, refused_with}
use Rattle.image.specs.Laws.Only.{only-reading}
use Rattle.reader.specs.Reads.{Reads, wrong-length, refused, read, handed_out}
use Rattle.state.specs.Lent.{Lent}

-- what the reader says of an image is one thing
one-saying : (image memory : List ℕ) (x y : Reading) → Read image memory x.memory x.returned → Read image memory y.memory y.returned
    → x.returned.says ≡ y.returned.says
one-saying image memory x y h k =
    ap (λ (r : Reading). r.returned.says) (only-reading image memory x.memory y.memory x.returned y.returned h k)

module _ (image memory state result : List ℕ) where
  abbrev refusal : ℕ → Reading
  refusal number = record { memory = memory; returned = refused_with number }

  not-both : (number : ℕ) (r : Reading) → Read image memory memory (refused_with number) → Read image memory r.memory r.returned → r.returned.says ≡ gives tt → ⊥
  unfolding refused_with
  not-both number r h k good =
      let same : refuses number ≡ gives tt = one-saying image memory (refusal number) r h k ∙ good in
      let z : ◌≡◌ {A = ℕ} 0 1 = cc in
      omega arith

  pub only-reads : (a b : Lent) → Reads image memory state result a → Reads image memory state result b → a ≡ b
  unfolding refused_with
  only-reads a b (wrong-length h) (wrong-length k) = refl
  only-reads a b (wrong-length h) (refused n all long is) = absurd (h (all, long))
  only-reads a b (wrong-length h) (read r all long is good fits small) = absurd (h (all, long))
  only-reads a b (refused n all long is) (wrong-length k) = absurd (k (all, long))
  only-reads a b (refused n all long is) (refused l also too same) =
      let says : ◌≡◌ {A = Answer (Unit {0})} (refuses n) (refuses l) = one-saying image memory (refusal n) (refusal l) is same in
      let number : n ≡ l = cc in
      ap (λ (x : ℕ). record { number = x; state = state; memory = memory; result = result }) number
  only-reads a b (refused n all long is) (read r also too same good fits small) = absurd (not-both n r is same good)
  only-reads a b (read r all long is good fits small) (wrong-length k) = absurd (k (all, long))
  only-reads a b (read r all long is good fits small) (refused n also too same) = absurd (not-both n r same is good)
  only-reads a b (read r all long is good fits small) (read s also too same fine fit tiny) =
      ap handed_out (only-reading image memory r.memory s.memory r.returned s.returned is same)
