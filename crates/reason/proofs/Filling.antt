-- Words that are put one character or one number at a time.
use Rattle.std.proofs.Common.{List, [], ◌∷◌, ◌++◌, ◌≡◌, refl, sym, ap, subst, ◌∙◌, ℕ, ◌+◌, ◌*◌, ◌≤◌, ◌<◌, length, take, ◌-◌, drop, get_or, append_assoc, add-one, drop-cons, arith}
use Rattle.std.proofs.Math.ListN.{set, drop_of_length-le}
use mathlib.Core.List.{append-nil}
use borrow.Author.Tests.{eq-eqb, ne_eqb}
use Rattle.std.proofs.lemmas.Slice.{first_rest}
use Rattle.numbers.specs.Digits.{decimal, most_decimal}
use Rattle.numbers.specs.Putting.{Appended}
use Rattle.numbers.specs.Laws.Putting.{appended-none, appended_then, appended-last, appended-long}
use Rattle.reason.specs.Words.{mark, filled}

-- a mark with a number left, and a character that is none or comes after the last number
fill-number : (c n : ℕ) (words numbers : List ℕ) → c ≡ mark → filled (c ∷ words) (n ∷ numbers) ≡ decimal n ++ filled words numbers
unfolding filled
fill-number c n words numbers e = simp (eq-eqb c mark e)

fill-letter : (c : ℕ) (words numbers : List ℕ) → (c ≡ mark → ⊥) → filled (c ∷ words) numbers ≡ c ∷ filled words numbers
unfolding filled
fill-letter c words [] e = refl
fill-letter c words (n ∷ numbers) e = simp (ne_eqb c mark e)

fill-rest : (c : ℕ) (words numbers : List ℕ) → length numbers ≡ 0 → filled (c ∷ words) numbers ≡ c ∷ filled words numbers
unfolding filled
fill-rest c words [] e = refl
fill-rest c words (n ∷ numbers) e = absurd (omega arith)

fill_none : (numbers : List ℕ) → filled [] numbers ≡ []
unfolding filled
fill_none numbers = refl

module _ (words numbers l : List ℕ) (from : ℕ) where
  -- so many of the words are put, and these numbers are left
  pub record Filling (m : List ℕ) (at : ℕ) (left : List ℕ) (i : ℕ) : Type 0 where
    pub done : List ℕ
    pub rest : filled words numbers ≡ done ++ filled (drop i words) left
    pub added : Appended l from done m at
    pub few : i ≤ length words
    pub short : at + length left * most_decimal ≤ from + i + length numbers * most_decimal
    pub as_long : length m ≡ length l

  module _ (m : List ℕ) (at : ℕ) (left : List ℕ) (i : ℕ) (f : Filling m at left i) (more : i < length words) where
    abbrev word : ℕ
    word = get_or words i 0

    abbrev after-word : List ℕ
    after-word = drop (i + 1) words

    words_are : drop i words ≡ word ∷ after-word
    words_are = drop-cons words i 0 more ∙ ap (λ (n : ℕ). word ∷ drop n words) (sym (add-one i))

    -- the text, whatever of the words is put next
    put : (text k after : List ℕ) (end : ℕ) → filled (word ∷ after-word) left ≡ text ++ filled after-word after → Appended m at text k end
        → end + length after * most_decimal ≤ at + length left * most_decimal + 1 → Filling k end after (i + 1)
    put text k after end is added less =
        let short : at + length left * most_decimal ≤ from + i + length numbers * most_decimal = f.short in
        record {
          done = f.done ++ text;
          rest =
              f.rest
              ∙ ap (λ (w : List ℕ). f.done ++ filled w left) words_are
              ∙ ap (λ (t : List ℕ). f.done ++ t) is
              ∙ sym (append_assoc f.done text (filled after-word after));
          added = appended_then f.added added;
          few = omega arith;
          short = omega arith;
          as_long = appended-long added ∙ f.as_long;
        }

    abbrev after : List ℕ
    after = take (length left - 1) (drop 1 left)

    pub filling_number : (k : List ℕ) (end : ℕ) → word ≡ mark → 1 ≤ length left → end ≤ at + most_decimal
        → Appended m at (decimal (get_or left 0 0)) k end → Filling k end after (i + 1)
    filling_number k end is some less added =
        let one : left ≡ get_or left 0 0 ∷ after = first_rest left 0 some in
        let long : length left ≡ length after + 1 = ap length one ∙ omega arith in
        put (decimal (get_or left 0 0)) k after end
        (ap (filled (word ∷ after-word)) one ∙ fill-number word (get_or left 0 0) after-word after is) added (omega arith)

    put-letter : filled (word ∷ after-word) left ≡ word ∷ filled after-word left → Filling (set m at word) (at + 1) left (i + 1)
    put-letter is = put (word ∷ []) (set m at word) left (at + 1) is (appended-last word (appended-none m at)) (omega arith)

    pub filling_other : (word ≡ mark → ⊥) → Filling (set m at word) (at + 1) left (i + 1)
    filling_other other = put-letter (fill-letter word after-word left other)

    pub filling_rest : length left ≡ 0 → Filling (set m at word) (at + 1) left (i + 1)
    filling_rest none = put-letter (fill-rest word after-word left none)

  module _ (m : List ℕ) (at : ℕ) (left : List ℕ) (i : ℕ) (f : Filling m at left i) where
    pub filling_short : at ≤ from + length words + length numbers * most_decimal
    filling_short = omega (arith, f.short, f.few)

    pub filling_ends : length words ≤ i → Appended l from (filled words numbers) m at
    filling_ends h =
        let none : drop i words ≡ [] = drop_of_length-le words {i = i} h in
        let whole : f.done ≡ filled words numbers =
        sym (append-nil f.done)
        ∙ sym (f.rest ∙ ap (λ (w : List ℕ). f.done ++ filled w left) none ∙ ap (λ (t : List ℕ). f.done ++ t) (fill_none left)) in
        subst (λ (t : List ℕ). Appended l from t m at) whole f.added
