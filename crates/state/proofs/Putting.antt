-- Laws of parts that are put after the bytes before them: a number that was written, an array that is put, the fields of a record in their order.
use Rattle.std.specs.Prelude.{Result, Ok, Err, IsOk}
use mathlib.Core.List.{List, [], ◌∷◌, ◌++◌, append_assoc, append-nil}
use mathlib.Core.Path.{◌≡◌, refl, sym, ap, subst, ◌∙◌}
use Prim.Native.Nat.{ℕ, ◌+◌, ◌*◌, ◌^◌, ◌≤◌, ◌<◌}
use native.Mathlib.Nat.{suc-mul, zero-mul}
use native.Mathlib.Numerals.{add-one}
use native.Mathlib.Omega.{arith}
use lib.ListN.{length, take, drop, get_or, length-append}
use lib.Seq.{take-suc, take_at, take_all, length-take-le, sets, sets-eq, length-sets}
use borrow.Author.Tests.{le-leb}
use Rattle.plain.specs.Answer.{refuses, gives}
use Rattle.numbers.specs.Bytes.{bytes_of}
use Rattle.numbers.specs.Slices.{too_short, says_written, Wrote, write_at}
use Rattle.numbers.specs.declared.Outside.{Outside}
use Rattle.numbers.specs.Laws.Bytes.{length-bytes}
use Rattle.plain.specs.All.{All}
use Rattle.state.specs.Parts.{Part, each, number, array, Field, fields_width, FieldsFit, field_bytes, fields}
use Rattle.state.specs.Places.{PartPut}
use Rattle.state.specs.Promise.{Gives, filled}
use Rattle.state.specs.Laws.Arrays.{each_more, all_more}

-- a number written inside the state
pub number_put : (n v : ℕ) (l : List ℕ) (at : ℕ) (w : Wrote) → at + n ≤ length l → v < 2 ^ (8 * n) → w ≡ write_at n v l at → PartPut (number n) l at v w.bytes
unfolding write_at
number_put n v l at w inside fit e =
    let vs : List ℕ = bytes_of n v in
    let long : length vs ≡ n = length-bytes n v in
    let written : w.bytes ≡ sets l at vs = ap (λ (x : Wrote). x.bytes) e ∙ simp (le-leb (at + n) (length l) inside) in
    let front : length (take at l ++ vs) ≡ at + n = length-append (take at l) vs ∙ omega (arith, length-take-le at l (omega arith)) in
    record {
      fit = fit;
      bytes-are = ap (take (at + n)) (written ∙ sets-eq vs l at (omega arith)) ∙ take_at (take at l ++ vs) (drop (at + length vs) l) (at + n) front;
      as_long = ap length written ∙ length-sets l at vs;
    }

-- and nothing is outside there
pub is_written : (n v : ℕ) (l : List ℕ) (at : ℕ) (done : Result (Unit {0}) Outside) (m : List ℕ) → at + n ≤ length l
    → record { said = says_written done; bytes = m } ≡ write_at n v l at → IsOk done
unfolding write_at
is_written n v l at (Ok tt) m inside e = refl
is_written n v l at (Err outside) m inside e =
    let said : refuses too_short ≡ gives tt = ap (λ (w : Wrote). w.said) e ∙ simp (le-leb (at + n) (length l) inside) in
    cc

-- `Putting part l from n xs m i`: of an array of n elements that is put from its front, the first i have been put
module _ {A : Type 0} (part : Part A) (l : List ℕ) (from n : ℕ) (xs : List A) where
  pub record Putting (m : List ℕ) (i : ℕ) : Type 0 where
    pub in_array : i ≤ n
    pub long : length xs ≡ n
    pub done : PartPut (array i part) l from (take i xs) m

  pub putting-none : length xs ≡ n → Putting l 0
  unfolding each
  putting-none long =
      let start : from + 0 * part.width ≡ from = omega (arith, zero-mul part.width) in
      record {
        in_array = omega arith;
        long = long;
        done =
            record {
              fit = (refl, tt);
              bytes-are = ap (λ (k : ℕ). take k l) start ∙ sym (append-nil (take from l));
              as_long = refl;
            };
      }

  pub putting-more : {m : List ℕ} {i : ℕ} → Putting m i → i < n → (x d : A) → x ≡ get_or xs i d → {k : List ℕ}
      → PartPut part m (from + i * part.width) x k → Putting k (i + 1)
  putting-more {m} {i} p less x d is {k} q =
      let long : length xs ≡ n = p.long in
      let wider : i * part.width + part.width ≡ (i + 1) * part.width = sym (suc-mul i part.width) ∙ ap (λ (j : ℕ). j * part.width) (sym (add-one i)) in
      let end : from + (i + 1) * part.width ≡ from + i * part.width + part.width = omega arith in
      let grown : take (i + 1) xs ≡ take i xs ++ (x ∷ []) =
      ap (λ (j : ℕ). take j xs) (add-one i) ∙ take-suc xs i d (omega arith) ∙ ap (λ (y : A). take i xs ++ (y ∷ [])) (sym is) in
      record {
        in_array = omega arith;
        long = long;
        done =
            record {
              fit = (
                length-take-le (i + 1) xs (omega arith),
                subst (All part.Fits) (sym grown) (all_more part.Fits (take i xs) x p.done.fit.1 q.fit),
              );
              bytes-are =
                  ap (λ (j : ℕ). take j k) end
                  ∙ q.bytes-are
                  ∙ ap (λ (t : List ℕ). t ++ part.bytes x) p.done.bytes-are
                  ∙ append_assoc (take from l) (each part.bytes (take i xs)) (part.bytes x)
                  ∙ ap (λ (t : List ℕ). take from l ++ t) (sym (each_more part.bytes (take i xs) x) ∙ ap (each part.bytes) (sym grown));
              as_long = q.as_long ∙ p.done.as_long;
            };
      }

  pub putting-all : {m : List ℕ} {i : ℕ} → Putting m i → n ≤ i → PartPut (array n part) l from xs m
  putting-all {m} {i} p end =
      let all : i ≡ n = omega arith in
      let long : length xs ≡ n = p.long in
      subst (λ (k : ℕ). PartPut (array k part) l from xs m) all (subst (λ (ys : List A). PartPut (array i part) l from ys m) (take_all i xs (omega arith)) p.done)

-- an array of a known length
pub put-counted : {A : Type 0} (part : Part A) (n : ℕ) (xs : List A) {l m : List ℕ} {at : ℕ} → n ≡ length xs
    → PartPut (array (length xs) part) l at xs m → PartPut (array n part) l at xs m
put-counted part n xs {l} {m} {at} e p = subst (λ (k : ℕ). PartPut (array k part) l at xs m) (sym e) p

-- fields that are put so many bytes after the place, each where the one before it ends
infixr 5 ◌then◌
pub data PutAfter {A : Type 0} (a : A) : List (Field A) → List ℕ → ℕ → ℕ → List ℕ → Type 1 where
  none : {l : List ℕ} {at n : ℕ} → PutAfter a [] l at n l
  ◌then◌ : {f : Field A} {fs : List (Field A)} {l m k : List ℕ} {at n : ℕ}
      → PartPut f.part l (at + n) (f.get a) m → PutAfter a fs m at (n + f.part.width) k → PutAfter a (f ∷ fs) l at n k

record AfterPut {A : Type 0} (fs : List (Field A)) (a : A) (l : List ℕ) (at n : ℕ) (k : List ℕ) : Type 0 where
  fit : FieldsFit fs a
  bytes-are : take (at + (n + fields_width fs)) k ≡ take (at + n) l ++ field_bytes fs a
  as_long : length k ≡ length l

after-put : {A : Type 0} (fs : List (Field A)) (a : A) (l : List ℕ) (at n : ℕ) (k : List ℕ) → PutAfter a fs l at n k → AfterPut fs a l at n k
unfolding field_bytes
after-put [] a l at n k none =
    let end : at + (n + 0) ≡ at + n = omega arith in
    record { fit = tt; bytes-are = ap (λ (j : ℕ). take j l) end ∙ sym (append-nil (take (at + n) l)); as_long = refl }
after-put (f ∷ fs) a l at n k (◌then◌ {m = m} p ps) =
    let q = after-put fs a m at (n + f.part.width) k ps in
    let next : at + (n + f.part.width) ≡ at + n + f.part.width = omega arith in
    let end : at + (n + fields_width (f ∷ fs)) ≡ at + (n + f.part.width + fields_width fs) = omega arith in
    record {
      fit = (p.fit, q.fit);
      bytes-are =
          ap (λ (j : ℕ). take j k) end
          ∙ q.bytes-are
          ∙ ap (λ (t : List ℕ). t ++ field_bytes fs a) (ap (λ (j : ℕ). take j m) next ∙ p.bytes-are)
          ∙ append_assoc (take (at + n) l) (f.part.bytes (f.get a)) (field_bytes fs a);
      as_long = q.as_long ∙ p.as_long;
    }

-- the first field at the place itself, the others after it
infixr 5 ◌first◌
pub data PutAll {A : Type 0} (a : A) : List (Field A) → List ℕ → ℕ → List ℕ → Type 1 where
  ◌first◌ : {f : Field A} {fs : List (Field A)} {l m k : List ℕ} {at : ℕ}
      → PartPut f.part l at (f.get a) m → PutAfter a fs m at f.part.width k → PutAll a (f ∷ fs) l at k

pub fields-put : {A : Type 0} (fs : List (Field A)) (a : A) (l : List ℕ) (at : ℕ) (k : List ℕ) → PutAll a fs l at k → PartPut (fields fs) l at a k
unfolding field_bytes
fields-put {A = A} [] a l at k x' = elim x' [ ]
fields-put (f ∷ fs) a l at k (◌first◌ {m = m} p ps) =
    let q = after-put fs a m at f.part.width k ps in
    record {
      fit = (p.fit, q.fit);
      bytes-are =
          q.bytes-are
          ∙ ap (λ (t : List ℕ). t ++ field_bytes fs a) p.bytes-are
          ∙ append_assoc (take at l) (f.part.bytes (f.get a)) (field_bytes fs a);
      as_long = q.as_long ∙ p.as_long;
    }

-- a buffer that is all put
pub put_whole : {A : Type 0} (part : Part A) (x : A) (l m : List ℕ) → length l ≡ part.width → PartPut part l 0 x m → Gives part x l (gives tt) m
put_whole part x l m long p =
    let same : length m ≡ length l = p.as_long in
    subst (Gives part x l (gives tt)) (sym p.bytes-are ∙ take_all (0 + part.width) m (omega arith)) (filled long p.fit)
