-- Laws of parts that stand in a state: a number that was read, an array that is filled, the fields of a record one after the other.
use Rattle.std.specs.Prelude.{Option, Some, None, IsSome, option_map}
use mathlib.Core.List.{List, [], ◌∷◌, ◌++◌}
use mathlib.Core.Path.{◌≡◌, refl, sym, ap, subst, ◌∙◌}
use Prim.Native.Nat.{ℕ, ◌+◌, ◌*◌, ◌≤◌, ◌<◌}
use native.Mathlib.Nat.{suc-mul, zero-mul}
use native.Mathlib.Numerals.{add-one}
use native.Mathlib.Omega.{arith}
use lib.ListN.{length, take, drop, set, length-set}
use lib.Seq.{drop-drop, take-add, take-suc-set, take_all, length-take-le}
use borrow.Author.Tests.{le-leb}
use Rattle.plain.specs.Answer.{gives}
use Rattle.numbers.specs.Bytes.{number_at}
use Rattle.numbers.specs.Slices.{says_found, read_at}
use Rattle.numbers.specs.Laws.Bytes.{Bytes, number-below, spelled-number}
use Rattle.plain.specs.All.{All}
use Rattle.state.specs.Parts.{Part, each, number, array, Field, fields_width, FieldsFit, field_bytes, fields}
use Rattle.state.specs.Places.{PartStands}
use Rattle.state.specs.Laws.Arrays.{each_more, all_more}

-- a number read inside the state
module _ (n : ℕ) (s : List ℕ) (at : ℕ) (inside : at + n ≤ length s) where
  read_is : read_at n s at ≡ gives (number_at n s at)
  unfolding read_at
  read_is = simp (le-leb (at + n) (length s) inside)

  pub number-stands : Bytes s → (v : ℕ) → gives v ≡ read_at n s at → PartStands (number n) s at v
  number-stands bytes v e =
      let read = read_is in
      let is : v ≡ number_at n s at = cc in
      record {
        fit = subst (number n).Fits (sym is) (number-below n s at bytes);
        spelled = ap (number n).bytes is ∙ spelled-number n s at bytes inside;
      }

  pub there-is : (found : Option ℕ) → says_found (option_map (λ v. v) found) ≡ read_at n s at → IsSome found
  there-is (Some v) e = refl
  there-is None e = let read = read_is in cc

  pub unwrapped : (found : Option ℕ) (v : ℕ) → found ≡ Some v → says_found (option_map (λ k. k) found) ≡ read_at n s at → gives v ≡ read_at n s at
  unwrapped found v is e = ap (λ (o : Option ℕ). says_found (option_map (λ k. k) o)) (sym is) ∙ e

-- bytes, and those that begin where they end
followed : (s x y : List ℕ) (at n next m w : ℕ) → at + n ≡ next → n + m ≡ w
    → x ≡ take n (drop at s) → y ≡ take m (drop next s) → x ++ y ≡ take w (drop at s)
followed s x y at n next m w e f hx hy =
    ap (λ (l : List ℕ). l ++ y) hx
    ∙ ap (λ (l : List ℕ). take n (drop at s) ++ l) (hy ∙ ap (λ (k : ℕ). take m (drop k s)) (sym e) ∙ ap (take m) (sym (drop-drop n at s)))
    ∙ sym (take-add n m (drop at s))
    ∙ ap (λ (k : ℕ). take k (drop at s)) f

-- `Filling part s from n xs i`: of an array of n elements that is filled from its front, the first i stand in the state
module _ {A : Type 0} (part : Part A) (s : List ℕ) (from n : ℕ) where
  pub record Filling (xs : List A) (i : ℕ) : Type 0 where
    pub in_array : i ≤ n
    pub long : length xs ≡ n
    pub filled : PartStands (array i part) s from (take i xs)

  pub filling-none : (xs : List A) → length xs ≡ n → Filling xs 0
  unfolding each
  filling-none xs long =
      record {
        in_array = omega arith;
        long = long;
        filled = record { fit = (refl, tt); spelled = ap (λ (k : ℕ). take k (drop from s)) (sym (zero-mul part.width)) };
      }

  pub filling-more : {xs : List A} {i : ℕ} → Filling xs i → i < n → (x : A) → PartStands part s (from + i * part.width) x → Filling (set xs i x) (i + 1)
  filling-more {xs} {i} f less x t =
      let within : i < length xs = omega arith in
      let long : length (set xs i x) ≡ n = length-set xs i x ∙ f.long in
      let grown : take (i + 1) (set xs i x) ≡ take i xs ++ (x ∷ []) =
      ap (λ (k : ℕ). take k (set xs i x)) (add-one i) ∙ take-suc-set xs i x within in
      let wider : i * part.width + part.width ≡ (i + 1) * part.width = sym (suc-mul i part.width) ∙ ap (λ (k : ℕ). k * part.width) (sym (add-one i)) in
      record {
        in_array = omega arith;
        long = long;
        filled =
            record {
              fit = (
                length-take-le (i + 1) (set xs i x) (omega arith),
                subst (All part.Fits) (sym grown) (all_more part.Fits (take i xs) x f.filled.fit.1 t.fit),
              );
              spelled =
                  ap (each part.bytes) grown
                  ∙ each_more part.bytes (take i xs) x
                  ∙ followed s (each part.bytes (take i xs)) (part.bytes x) from (i * part.width) (from + i * part.width) part.width ((i + 1) * part.width)
                  refl wider f.filled.spelled t.spelled;
            };
      }

  pub filling-all : {xs : List A} {i : ℕ} → Filling xs i → n ≤ i → PartStands (array n part) s from xs
  filling-all {xs} {i} f end =
      let all : i ≡ n = omega arith in
      let long : length xs ≡ n = f.long in
      subst (λ (k : ℕ). PartStands (array k part) s from xs) all (subst (PartStands (array i part) s from) (take_all i xs (omega arith)) f.filled)

-- each field stands so many bytes after the place, where the one before it ends
abbrev pub StandAfter : {A : Type 0} → List (Field A) → List ℕ → ℕ → ℕ → A → Type 0
StandAfter [] s at n a = Unit {0}
StandAfter (f ∷ fs) s at n a = PartStands f.part s (at + n) (f.get a) × StandAfter fs s at (n + f.part.width) a

after-fit : {A : Type 0} (fs : List (Field A)) (s : List ℕ) (at n : ℕ) (a : A) → StandAfter fs s at n a → FieldsFit fs a
after-fit [] s at n a h = tt
after-fit (f ∷ fs) s at n a h = (h.0.fit, after-fit fs s at (n + f.part.width) a h.1)

after-spelled : {A : Type 0} (fs : List (Field A)) (s : List ℕ) (at n : ℕ) (a : A) → StandAfter fs s at n a
    → field_bytes fs a ≡ take (fields_width fs) (drop (at + n) s)
unfolding field_bytes
after-spelled [] s at n a h = refl
after-spelled (f ∷ fs) s at n a h =
    let next : at + n + f.part.width ≡ at + (n + f.part.width) = omega arith in
    followed s (f.part.bytes (f.get a)) (field_bytes fs a) (at + n) f.part.width (at + (n + f.part.width)) (fields_width fs) (fields_width (f ∷ fs))
    next refl h.0.spelled (after-spelled fs s at (n + f.part.width) a h.1)

-- the first field at the place itself, the others after it
abbrev pub StandAll : {A : Type 0} → List (Field A) → List ℕ → ℕ → A → Type 0
StandAll [] s at a = Unit {0}
StandAll (f ∷ fs) s at a = PartStands f.part s at (f.get a) × StandAfter fs s at f.part.width a

pub fields-stand : {A : Type 0} (fs : List (Field A)) (s : List ℕ) (at : ℕ) (a : A) → StandAll fs s at a → PartStands (fields fs) s at a
unfolding field_bytes
fields-stand [] s at a h = record { fit = tt; spelled = refl }
fields-stand (f ∷ fs) s at a h =
    record {
      fit = (h.0.fit, after-fit fs s at f.part.width a h.1);
      spelled =
          followed s (f.part.bytes (f.get a)) (field_bytes fs a) at f.part.width (at + f.part.width) (fields_width fs) (fields_width (f ∷ fs))
          refl refl h.0.spelled (after-spelled fs s at f.part.width a h.1);
    }
