-- Parts are sound: the bytes of every value that fits are as many as the width says, and no two such values share them.
use mathlib.Core.List.{List, [], ◌∷◌, ◌++◌}
use Rattle.std.specs.Prelude.{◌≡◌, take, drop}
use Rattle.std.proofs.Math.Path.{refl, sym}
use Rattle.std.proofs.Common.{ap, ◌∙◌, suc-ne-zero, zero-mul, take_at, drop_at}
use Prim.Native.Nat.{ℕ, suc, ◌+◌, ◌*◌}
use Rattle.std.proofs.Math.Nat.{suc_inj, suc-mul}
use native.Mathlib.Omega.{arith}
use Rattle.std.proofs.Math.ListN.{length, length-append}
use Rattle.numbers.specs.Laws.Bytes.{length-bytes, only-number}
use Rattle.plain.specs.All.{All}
use Rattle.state.specs.Parts.{Part, each, number, array, Field, fields_width, FieldsFit, field_bytes, fields}

pub record Sound {A : Type 0} (part : Part A) : Type 0 where
  pub long : (x : A) → part.Fits x → length (part.bytes x) ≡ part.width
  pub only : (x y : A) → part.Fits x → part.Fits y → part.bytes x ≡ part.bytes y → x ≡ y

pub number-sound : (n : ℕ) → Sound (number n)
number-sound n = record { long = λ v h. length-bytes n v; only = only-number n }

-- two lists cut at the same place
apart : (a b c d : List ℕ) → length a ≡ length c → a ++ b ≡ c ++ d → (a ≡ c) × (b ≡ d)
apart a b c d h e = (
  sym (take_at a b (length a) refl) ∙ ap (take (length a)) e ∙ take_at c d (length a) (sym h),
  sym (drop_at a b (length a) refl) ∙ ap (drop (length a)) e ∙ drop_at c d (length a) (sym h),
)

module _ {A : Type 0} (part : Part A) (sound : Sound part) where
  length-each : (xs : List A) → All part.Fits xs → length (each part.bytes xs) ≡ length xs * part.width
  unfolding each
  length-each [] h = sym (zero-mul part.width)
  length-each (x ∷ xs) h =
      let one : length (part.bytes x) ≡ part.width = sound.long x h.0 in
      let rest : length (each part.bytes xs) ≡ length xs * part.width = length-each xs h.1 in
      let more : suc (length xs) * part.width ≡ length xs * part.width + part.width = suc-mul (length xs) part.width in
      length-append (part.bytes x) (each part.bytes xs) ∙ omega arith

  only-each : (xs ys : List A) → All part.Fits xs → All part.Fits ys → length xs ≡ length ys
      → each part.bytes xs ≡ each part.bytes ys → xs ≡ ys
  unfolding each
  only-each [] [] h k l e = refl
  only-each [] (y ∷ ys) h k l e = absurd (suc-ne-zero (length ys) (sym l))
  only-each (x ∷ xs) [] h k l e = absurd (suc-ne-zero (length xs) l)
  only-each (x ∷ xs) (y ∷ ys) h k l e =
      let cut = apart (part.bytes x) (each part.bytes xs) (part.bytes y) (each part.bytes ys) (sound.long x h.0 ∙ sym (sound.long y k.0)) e in
      let head : x ≡ y = sound.only x y h.0 k.0 cut.0 in
      let tail : xs ≡ ys = only-each xs ys h.1 k.1 (suc_inj l) cut.1 in
      λ i. head i ∷ tail i

  pub array-sound : (n : ℕ) → Sound (array n part)
  array-sound n =
      record {
        long = λ xs h. length-each xs h.1 ∙ ap (λ (k : ℕ). k * part.width) h.0;
        only = λ xs ys h k e. only-each xs ys h.1 k.1 (h.0 ∙ sym k.0) e;
      }

-- facts about fields, one after the other
infixr 5 ◌and◌
abbrev pub ◌and◌ : {A B : Type 0} → A → B → A × B
a and b = (a, b)

-- each field's part is sound; two records agree in each field
abbrev pub AllSound : {A : Type 0} → List (Field A) → Type 0
AllSound [] = Unit {0}
AllSound (f ∷ fs) = Sound f.part × AllSound fs

abbrev pub Agree : {A : Type 0} → List (Field A) → A → A → Type 0
Agree [] a b = Unit {0}
Agree (f ∷ fs) a b = (f.get a ≡ f.get b) × Agree fs a b

pub length_fields : {A : Type 0} (fs : List (Field A)) → AllSound fs → (a : A) → FieldsFit fs a → length (field_bytes fs a) ≡ fields_width fs
unfolding field_bytes
length_fields [] sound a h = refl
length_fields (f ∷ fs) sound a h =
    let one : length (f.part.bytes (f.get a)) ≡ f.part.width = sound.0.long (f.get a) h.0 in
    let rest : length (field_bytes fs a) ≡ fields_width fs = length_fields fs sound.1 a h.1 in
    length-append (f.part.bytes (f.get a)) (field_bytes fs a) ∙ omega arith

only-fields : {A : Type 0} (fs : List (Field A)) → AllSound fs → (a b : A) → FieldsFit fs a → FieldsFit fs b
    → field_bytes fs a ≡ field_bytes fs b → Agree fs a b
unfolding field_bytes
only-fields [] sound a b h k e = tt
only-fields (f ∷ fs) sound a b h k e =
    let part = f.part in
    let cut =
    apart (part.bytes (f.get a)) (field_bytes fs a) (part.bytes (f.get b)) (field_bytes fs b)
    (sound.0.long (f.get a) h.0 ∙ sym (sound.0.long (f.get b) k.0)) e in
    (sound.0.only (f.get a) (f.get b) h.0 k.0 cut.0, only-fields fs sound.1 a b h.1 k.1 cut.1)

-- a record whose fields are all there
pub fields-sound : {A : Type 0} (fs : List (Field A)) → AllSound fs → ((a b : A) → Agree fs a b → a ≡ b) → Sound (fields fs)
fields-sound fs sound whole =
    record {
      long = length_fields fs sound;
      only = λ a b h k e. whole a b (only-fields fs sound a b h k e);
    }
