-- How a part of a state stands in bytes: a number, an array of one kind of part, or the fields of a record.
use Rattle.std.specs.Prelude.{List, [], ◌∷◌, ◌++◌, ◌≡◌, ℕ, ◌+◌, ◌*◌, ◌^◌, ◌<◌, length}
use Rattle.plain.specs.All.{All}
use Rattle.numbers.specs.Bytes.{bytes_of}

-- how many bytes it takes, which values they can carry, and the bytes of such a value
pub record Part (A : Type 0) : Type 1 where
  pub width : ℕ
  pub Fits : A → Type 0
  pub bytes : A → List ℕ

-- a number of so many bytes, the highest first
abbrev pub number : ℕ → Part ℕ
number n = record { width = n; Fits = λ v. v < 2 ^ (8 * n); bytes = bytes_of n }

-- the bytes of each element, one after the other
unfoldable pub each : {A : Type 0} → (A → List ℕ) → List A → List ℕ
each bytes [] = []
each bytes (x ∷ xs) = bytes x ++ each bytes xs

-- so many parts of one kind
abbrev pub array : {A : Type 0} → ℕ → Part A → Part (List A)
array n part =
    record {
      width = n * part.width;
      Fits = λ xs. (length xs ≡ n) × All part.Fits xs;
      bytes = each part.bytes;
    }

-- a field of a record, and the part that holds it
pub record Field (A : Type 0) : Type 1 where
  pub Held : Type 0
  pub part : Part Held
  pub get : A → Held

infix 68 ◌of◌
abbrev pub ◌of◌ : {A B : Type 0} → Part B → (A → B) → Field A
◌of◌ {A} {B} part get = record { Held = B; part = part; get = get }

abbrev pub fields_width : {A : Type 0} → List (Field A) → ℕ
fields_width [] = 0
fields_width (f ∷ fs) = f.part.width + fields_width fs

abbrev pub FieldsFit : {A : Type 0} → List (Field A) → A → Type 0
FieldsFit [] a = Unit {0}
FieldsFit (f ∷ fs) a = f.part.Fits (f.get a) × FieldsFit fs a

unfoldable pub field_bytes : {A : Type 0} → List (Field A) → A → List ℕ
field_bytes [] a = []
field_bytes (f ∷ fs) a = f.part.bytes (f.get a) ++ field_bytes fs a

-- the fields of a record, one after the other
abbrev pub fields : {A : Type 0} → List (Field A) → Part A
fields fs = record { width = fields_width fs; Fits = FieldsFit fs; bytes = field_bytes fs }
