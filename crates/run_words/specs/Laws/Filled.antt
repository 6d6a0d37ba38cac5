-- A list that is filled from its front, and one whose front is copied.
use Rattle.std.specs.Prelude.{◌≡◌, refl, List, [], ◌∷◌, ◌++◌, map, ℕ, suc, ◌+◌, ◌<◌, ◌≤◌, get_or, set, take, drop, length}
use Rattle.std.proofs.Common.{ap, sym, ◌∙◌, subst, arith, length-set, take-suc, take-suc-set, take_all, drop-cons, length-take-le}
use Rattle.std.proofs.lemmas.List.{length-map, set_at}
use Rattle.std.proofs.Math.Seq.{append_snoc}
use Rattle.plain.specs.All.{All}
use Rattle.plain.specs.Laws.All.{all_append}

-- an array of structs has as many elements as the list of their values
pub length-mapped : (X Y : Type 0) (f : X → Y) (l : List X) (n : ℕ) → length (map f l) ≡ n → length l ≡ n
length-mapped X Y f l n e = sym (length-map l f) ∙ e

-- the first n are those of the whole
pub record Filled {A : Type 0} (count : ℕ) (whole made : List A) (n : ℕ) : Type 0 where
  pub whole_long : length whole ≡ count
  pub long : length made ≡ count
  pub front : take n made ≡ take n whole

module _ {A : Type 0} where
  -- one more element is copied
  pub copied_next : (from old now : List A) (n : ℕ) (d : A) → n < length from → n < length old → now ≡ take n from ++ drop n old →
      set now n (get_or from n d) ≡ take (n + 1) from ++ drop (n + 1) old
  copied_next from old now n d more room e =
      let x = get_or from n d in
      let rest = drop (suc n) old in
      let one : suc n ≡ n + 1 = omega arith in
      ap (λ (l : List A). set l n x) e ∙ ap (λ (l : List A). set (take n from ++ l) n x) (drop-cons old n d room) ∙
      set_at (take n from) (get_or old n d) rest x n (length-take-le n from (omega arith)) ∙ sym (append_snoc (take n from) x rest) ∙
      ap (λ (l : List A). l ++ rest) (sym (take-suc from n d more)) ∙ ap (λ (k : ℕ). take k from ++ drop k old) one

  -- what holds of the elements taken, and of one more
  pub taken_next : (P : A → Type 0) (from : List A) (n : ℕ) (d : A) → n < length from → All P (take n from) → P (get_or from n d) → All P (take (n + 1) from)
  taken_next P from n d more held one =
      let next : suc n ≡ n + 1 = omega arith in
      subst (λ (k : ℕ). All P (take k from)) next
      (subst (All P) (sym (take-suc from n d more)) (all_append P (take n from) (get_or from n d ∷ []) held (one, tt)))

  module _ (count : ℕ) (whole : List A) where
    pub filled_none : (made : List A) → length whole ≡ count → length made ≡ count → Filled count whole made 0
    filled_none made whole_long long = record { whole_long = whole_long; long = long; front = refl }

    pub filled_next : (made made' : List A) (n : ℕ) (d x : A) → Filled count whole made n → n < count → made' ≡ set made n x → x ≡ get_or whole n d →
        Filled count whole made' (n + 1)
    filled_next made made' n d x now more put e =
        let one : suc n ≡ n + 1 = omega arith in
        let next : take (suc n) (set made n x) ≡ take (suc n) whole =
        take-suc-set made n x (omega (arith, now.long)) ∙ ap (λ (l : List A). l ++ (x ∷ [])) now.front ∙ ap (λ (y : A). take n whole ++ (y ∷ [])) e ∙
        sym (take-suc whole n d (omega (arith, now.whole_long))) in
        record {
          whole_long = now.whole_long;
          long = ap (λ (l : List A). length l) put ∙ length-set made n x ∙ now.long;
          front = ap (λ (l : List A). take (n + 1) l) put ∙ ap (λ (k : ℕ). take k (set made n x)) (sym one) ∙ next ∙ ap (λ (k : ℕ). take k whole) one;
        }

    pub filled-all : (made : List A) (n : ℕ) → Filled count whole made n → count ≤ n → made ≡ whole
    filled-all made n now over =
        sym (take_all n made (omega (arith, now.long))) ∙ now.front ∙ take_all n whole (omega (arith, now.whole_long))
