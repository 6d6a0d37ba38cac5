-- Bytes written among the bytes of a list of numbers: the numbers in which they lie are read anew, and the others stay.
use Rattle.std.specs.Prelude.{List, [], ◌∷◌, ◌++◌, ◌≡◌, refl, ℕ, zero, suc, ◌+◌, ◌*◌, ◌^◌, ◌≤◌, ◌<◌, length, set}
use Rattle.std.proofs.Common.{append-nil, sym, ap, ◌∙◌, subst, zero-add, suc-add, arith, length-set, length-append, take_all}
use Rattle.std.proofs.lemmas.List.Edits.{sets}
use Rattle.std.proofs.Math.Seq.{length-sets}
use Rattle.std.proofs.lemmas.List.{set-append_left}
use Rattle.plain.specs.All.{All}
use Rattle.plain.specs.Laws.All.{all_read, all-sets, all_append}
use Rattle.numbers.specs.Bytes.{number_at, bytes_of}
use Rattle.numbers.specs.Lists.{list_at, bytes_of_list, AllBelow}
use Rattle.numbers.specs.Laws.Bytes.{Bytes, bytes-first, number-front, number-after}
use Rattle.numbers.specs.Laws.Lists.{length-list, length-list-at, list-append, list_read, spelled-list, list-below}

-- ---- bytes

pub spelled-bytes : (n v : ℕ) → All (λ b. b < 2 ^ 8) (bytes_of n v)
spelled-bytes zero v = tt
spelled-bytes (suc n) v = subst (All (λ b. b < 2 ^ 8)) (sym (bytes-first n v)) (omega arith, spelled-bytes n v)

pub list-bytes : (n : ℕ) (vs : List ℕ) → All (λ b. b < 2 ^ 8) (bytes_of_list n vs)
unfolding bytes_of_list
list-bytes n [] = tt
list-bytes n (v ∷ vs) = all_append (λ b. b < 2 ^ 8) (bytes_of n v) (bytes_of_list n vs) (spelled-bytes n v) (list-bytes n vs)

pub bytes-at : (l : List ℕ) → All (λ b. b < 2 ^ 8) l → Bytes l
bytes-at l h i = all_read (λ b. b < 2 ^ 8) l h i 0 (omega arith)

-- ---- stores into the middle of a list

pub set_after : (p l : List ℕ) (i a : ℕ) → set (p ++ l) (length p + i) a ≡ p ++ set l i a
set_after [] l i a = ap (λ (k : ℕ). set l k a) (zero-add i)
set_after (x ∷ p) l i a = ap (λ (k : ℕ). set (x ∷ (p ++ l)) k a) (suc-add (length p) i) ∙ ap (λ (r : List ℕ). x ∷ r) (set_after p l i a)

sets-inside : (p w q : List ℕ) (i : ℕ) (bs : List ℕ) → i + length bs ≤ length w → sets (p ++ (w ++ q)) (length p + i) bs ≡ p ++ (sets w i bs ++ q)
sets-inside p w q i [] h = refl
sets-inside p w q i (b ∷ bs) h =
    let next : suc (length p + i) ≡ length p + suc i = omega arith in
    let one : set (p ++ (w ++ q)) (length p + i) b ≡ p ++ (set w i b ++ q) =
    set_after p (w ++ q) i b ∙ ap (λ (r : List ℕ). p ++ r) (set-append_left w q i b (omega arith)) in
    ap (λ (l : List ℕ). sets l (suc (length p + i)) bs) one
    ∙ ap (λ (k : ℕ). sets (p ++ (set w i b ++ q)) k bs) next
    ∙ sets-inside p (set w i b) q (suc i) bs (omega (arith, length-set w i b))

-- ---- numbers before, some numbers, numbers after

module _ (n : ℕ) (front mid back : List ℕ) where
  abbrev pub whole : List ℕ
  whole = front ++ (mid ++ back)

  parts : bytes_of_list n whole ≡ bytes_of_list n front ++ (bytes_of_list n mid ++ bytes_of_list n back)
  parts = list-append n front (mid ++ back) ∙ ap (λ (r : List ℕ). bytes_of_list n front ++ r) (list-append n mid back)

  -- a number that lies in the middle is read there
  pub number-inside : (k o : ℕ) → o + k ≤ n * length mid → number_at k (bytes_of_list n whole) (n * length front + o) ≡ number_at k (bytes_of_list n mid) o
  number-inside k o h =
      ap (λ (l : List ℕ). number_at k l (n * length front + o)) parts
      ∙ ap (λ (a : ℕ). number_at k (bytes_of_list n front ++ (bytes_of_list n mid ++ bytes_of_list n back)) (a + o)) (sym (length-list n front))
      ∙ number-after k (bytes_of_list n front) (bytes_of_list n mid ++ bytes_of_list n back) o
      ∙ number-front k (bytes_of_list n mid) (bytes_of_list n back) o (omega (arith, length-list n mid))

  -- bytes that are written in the middle alter its numbers alone
  module _ (o : ℕ) (bs : List ℕ) (bytes : All (λ b. b < 2 ^ 8) bs) (within : o + length bs ≤ n * length mid) where
    -- the middle's bytes and numbers afterwards
    abbrev written : List ℕ
    written = sets (bytes_of_list n mid) o bs

    abbrev anew : List ℕ
    anew = list_at n (length mid) written 0

    written-bytes : Bytes written
    written-bytes = bytes-at written (all-sets (λ b. b < 2 ^ 8) (bytes_of_list n mid) (list-bytes n mid) o bs bytes)

    written-spells : bytes_of_list n anew ≡ written
    written-spells =
        let long : length written ≡ n * length mid = length-sets (bytes_of_list n mid) o bs ∙ length-list n mid in
        spelled-list n (length mid) written 0 written-bytes (omega arith)
        ∙ take_all (n * length mid) written (omega arith)

    below-append : (l m : List ℕ) → AllBelow (2 ^ (8 * n)) l → AllBelow (2 ^ (8 * n)) m → AllBelow (2 ^ (8 * n)) (l ++ m)
    below-append [] m h k = k
    below-append (x ∷ xs) m h k = (h.0, below-append xs m h.1 k)

    pub rewritten : AllBelow (2 ^ (8 * n)) front → AllBelow (2 ^ (8 * n)) back →
        list_at n (length whole) (sets (bytes_of_list n whole) (n * length front + o) bs) 0 ≡
        front ++ (list_at n (length mid) (sets (bytes_of_list n mid) o bs) 0 ++ back)
    rewritten below-front below-back =
        let left = bytes_of_list n front in
        let right = bytes_of_list n back in
        let new = front ++ (anew ++ back) in
        let stored : sets (bytes_of_list n whole) (n * length front + o) bs ≡ left ++ (written ++ right) =
        ap (λ (l : List ℕ). sets l (n * length front + o) bs) parts
        ∙ ap (λ (a : ℕ). sets (left ++ (bytes_of_list n mid ++ right)) (a + o) bs) (sym (length-list n front))
        ∙ sets-inside left (bytes_of_list n mid) right o bs (omega (arith, length-list n mid)) in
        let spelled : left ++ (written ++ right) ≡ bytes_of_list n new ++ [] =
        ap (λ (w : List ℕ). left ++ (w ++ right)) (sym written-spells)
        ∙ sym (list-append n front (anew ++ back) ∙ ap (λ (r : List ℕ). left ++ r) (list-append n anew back))
        ∙ sym (append-nil (bytes_of_list n new)) in
        let middle : length anew ≡ length mid = length-list-at n (length mid) written 0 in
        let long : length whole ≡ length new =
        length-append front (mid ++ back) ∙ (ap (λ (k : ℕ). length front + k) (length-append mid back ∙ (ap (λ (k : ℕ). k + length back) (sym middle) ∙ sym (length-append anew back))) ∙ sym (length-append front (anew ++ back))) in
        ap (λ (l : List ℕ). list_at n (length whole) l 0) (stored ∙ spelled)
        ∙ ap (λ (k : ℕ). list_at n k (bytes_of_list n new ++ []) 0) long
        ∙ list_read n new [] [] 0 refl (below-append front (anew ++ back) below-front (below-append anew back (list-below n (length mid) written 0 written-bytes) below-back))
