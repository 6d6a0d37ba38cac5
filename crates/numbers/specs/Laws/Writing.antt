-- Laws of numbers that are written: what is then read there.
use Rattle.std.specs.Prelude.{List, [], ◌∷◌, ◌++◌, ◌≡◌, ℕ, suc, ◌+◌, ◌*◌, ◌/◌, ◌%◌, ◌^◌, ◌≤◌, length, take, drop, set}
use Rattle.std.proofs.Common.{append_assoc, sym, ap, ◌∙◌, add-zero, arith, length-take-le}
use Rattle.std.proofs.lemmas.List.Edits.{sets, sets-eq}
use Rattle.std.proofs.lemmas.List.{set_comm}
use Rattle.numbers.specs.Bytes.{number_at, bytes_of}
use Rattle.numbers.specs.Laws.Bytes.{length-bytes, bytes-parts, bytes_low, number_read}

-- elements stored from a place on, then more after them
pub sets-append : (xs ys l : List ℕ) (a : ℕ) → sets l a (xs ++ ys) ≡ sets (sets l a xs) (a + length xs) ys
sets-append [] ys l a = ap (λ (k : ℕ). sets l k ys) (sym (add-zero a))
sets-append (x ∷ xs) ys l a =
    let e : suc a + length xs ≡ a + suc (length xs) = omega arith in
    sets-append xs ys (set l a x) (suc a) ∙ ap (λ (k : ℕ). sets (sets (set l a x) (suc a) xs) k ys) e

-- the last element may as well be stored first
pub sets_last : (xs l : List ℕ) (a x : ℕ) → sets l a (xs ++ (x ∷ [])) ≡ sets (set l (a + length xs) x) a xs
sets_last [] l a x = ap (λ (k : ℕ). set l k x) (sym (add-zero a))
sets_last (y ∷ ys) l a x =
    let e : suc a + length ys ≡ a + suc (length ys) = omega arith in
    sets_last ys (set l a y) (suc a) x
    ∙ ap (λ (m : List ℕ). sets m (suc a) ys)
    (set_comm l a (suc a + length ys) y x (λ (same : a ≡ suc a + length ys). omega arith) ∙ ap (λ (k : ℕ). set (set l k x) a y) e)

-- the high bytes written, then the low ones after them
pub written-parts : (m n v : ℕ) (l : List ℕ) (a : ℕ)
    → sets (sets l a (bytes_of m (v / 2 ^ (8 * n)))) (a + m) (bytes_of n (v % 2 ^ (8 * n))) ≡ sets l a (bytes_of (m + n) v)
written-parts m n v l a =
    let high : List ℕ = bytes_of m (v / 2 ^ (8 * n)) in
    ap (sets (sets l a high) (a + m)) (bytes_low n v)
    ∙ ap (λ (k : ℕ). sets (sets l a high) (a + k) (bytes_of n v)) (sym (length-bytes m (v / 2 ^ (8 * n))))
    ∙ sym (sets-append high (bytes_of n v) l a)
    ∙ ap (sets l a) (sym (bytes-parts m n v))

-- what is read where it was written
pub read-written : (n v : ℕ) (l : List ℕ) (a : ℕ) → a + n ≤ length l → number_at n (sets l a (bytes_of n v)) a ≡ v % 2 ^ (8 * n)
read-written n v l a h =
    let long : length (bytes_of n v) ≡ n = length-bytes n v in
    ap (λ (m : List ℕ). number_at n m a) (sets-eq (bytes_of n v) l a (omega arith) ∙ append_assoc (take a l) (bytes_of n v) (drop (a + length (bytes_of n v)) l))
    ∙ number_read n v (take a l) (drop (a + length (bytes_of n v)) l) a (length-take-le a l (omega arith))
