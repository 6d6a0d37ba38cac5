-- One number of a record is changed: its bytes change, and no others.
use Rattle.std.specs.Prelude.{List, [], ◌∷◌, ◌++◌, ◌≡◌, refl, ℕ, ◌+◌, ◌*◌, ◌^◌, ◌<◌, length, drop}
use Rattle.std.proofs.Common.{append_assoc, sym, ap, ◌∙◌, arith, length-append, take_at, drop_at, drop-drop}
use Rattle.std.proofs.lemmas.List.Edits.{sets, sets-eq}
use Rattle.numbers.specs.Bytes.{number_at, bytes_of}
use Rattle.numbers.specs.Laws.Bytes.{length-bytes, number_fits}
use Rattle.state.specs.Parts.{Field, ◌of◌, number, fields_width, FieldsFit, field_bytes}
use Rattle.state.specs.Laws.Sound.{AllSound, length_fields}

-- as many bytes stored over those between two others
replaced : (p w q v : List ℕ) (at : ℕ) → length p ≡ at → length v ≡ length w → sets (p ++ (w ++ q)) at v ≡ p ++ (v ++ q)
replaced p w q v at long same =
    let l : List ℕ = p ++ (w ++ q) in
    let all : length l ≡ length p + (length w + length q) = length-append p (w ++ q) ∙ ap (λ (k : ℕ). length p + k) (length-append w q) in
    let after : drop (at + length v) l ≡ q = sym (drop-drop (length v) at l) ∙ ap (drop (length v)) (drop_at p (w ++ q) at long) ∙ drop_at w q (length v) (sym same) in
    sets-eq v l at (omega arith)
    ∙ ap (λ (t : List ℕ). (t ++ v) ++ drop (at + length v) l) (take_at p (w ++ q) at long)
    ∙ ap (λ (t : List ℕ). (p ++ v) ++ t) after
    ∙ append_assoc p v q

-- the bytes of some fields, then of others
fields-then : {A : Type 0} (fs gs : List (Field A)) (a : A) → field_bytes (fs ++ gs) a ≡ field_bytes fs a ++ field_bytes gs a
unfolding field_bytes
fields-then [] gs a = refl
fields-then (f ∷ fs) gs a =
    ap (λ (t : List ℕ). f.part.bytes (f.get a) ++ t) (fields-then fs gs a) ∙ sym (append_assoc (f.part.bytes (f.get a)) (field_bytes fs a) (field_bytes gs a))

-- a number of n bytes between fields
module _ {A : Type 0} (n : ℕ) (get : A → ℕ) (fs gs : List (Field A)) (sound : AllSound fs) where
  abbrev between : A → List ℕ
  between a = field_bytes (fs ++ (number n of get) ∷ gs) a

  its-parts : (a : A) → between a ≡ field_bytes fs a ++ (bytes_of n (get a) ++ field_bytes gs a)
  unfolding field_bytes
  its-parts a = fields-then fs ((number n of get) ∷ gs) a

  -- it is read where the fields before it end
  pub number-there : (a : A) → FieldsFit fs a → get a < 2 ^ (8 * n) → number_at n (between a) (fields_width fs) ≡ get a
  number-there a fit small =
      ap (λ (l : List ℕ). number_at n l (fields_width fs)) (its-parts a)
      ∙ number_fits n (get a) (field_bytes fs a) (field_bytes gs a) (fields_width fs) (length_fields fs sound a fit) small

  -- another number there, and everything else as it was
  pub number-changed : (a b : A) → FieldsFit fs a → field_bytes fs a ≡ field_bytes fs b → field_bytes gs a ≡ field_bytes gs b
      → between b ≡ sets (between a) (fields_width fs) (bytes_of n (get b))
  number-changed a b fit before after =
      its-parts b
      ∙ ap (λ (l : List ℕ). l ++ (bytes_of n (get b) ++ field_bytes gs b)) (sym before)
      ∙ ap (λ (l : List ℕ). field_bytes fs a ++ (bytes_of n (get b) ++ l)) (sym after)
      ∙ sym (replaced (field_bytes fs a) (bytes_of n (get a)) (field_bytes gs a) (bytes_of n (get b)) (fields_width fs)
      (length_fields fs sound a fit) (length-bytes n (get b) ∙ sym (length-bytes n (get a))))
      ∙ ap (λ (l : List ℕ). sets l (fields_width fs) (bytes_of n (get b))) (sym (its-parts a))
