-- Laws of lists of numbers: what is spelled is read, and what is read is spelled.
use Rattle.std.specs.Prelude.{List, [], ◌∷◌, ◌++◌, ◌≡◌, refl, ℕ, zero, suc, ◌+◌, ◌*◌, ◌^◌, ◌≤◌, length, take, drop}
use Rattle.std.proofs.Common.{append_assoc, append-nil, sym, ap, ◌∙◌, mul-suc, mul-zero, arith, length-append, drop-drop, take-add}
use Rattle.numbers.specs.Bytes.{number_at, bytes_of}
use Rattle.numbers.specs.Lists.{list_at, bytes_of_list, AllBelow}
use Rattle.numbers.specs.Laws.Bytes.{Bytes, length-bytes, number_fits, number-below, spelled-number}

pub length-list : (n : ℕ) (vs : List ℕ) → length (bytes_of_list n vs) ≡ n * length vs
unfolding bytes_of_list
length-list n [] = sym (mul-zero n)
length-list n (v ∷ vs) =
    let one : length (bytes_of n v) ≡ n = length-bytes n v in
    let rest : length (bytes_of_list n vs) ≡ n * length vs = length-list n vs in
    let more : n * suc (length vs) ≡ n * length vs + n = mul-suc n (length vs) in
    length-append (bytes_of n v) (bytes_of_list n vs) ∙ omega arith

pub length-list-at : (n count : ℕ) (l : List ℕ) (a : ℕ) → length (list_at n count l a) ≡ count
unfolding list_at
length-list-at n zero l a = refl
length-list-at n (suc count) l a = ap suc (length-list-at n count l (a + n))

pub list-append : (n : ℕ) (vs ws : List ℕ) → bytes_of_list n (vs ++ ws) ≡ bytes_of_list n vs ++ bytes_of_list n ws
unfolding bytes_of_list
list-append n [] ws = refl
list-append n (v ∷ vs) ws =
    ap (λ (l : List ℕ). bytes_of n v ++ l) (list-append n vs ws) ∙ sym (append_assoc (bytes_of n v) (bytes_of_list n vs) (bytes_of_list n ws))

-- one number more
pub list-more : (n : ℕ) (vs : List ℕ) (v : ℕ) → bytes_of_list n (vs ++ (v ∷ [])) ≡ bytes_of_list n vs ++ bytes_of n v
unfolding bytes_of_list
list-more n vs v = list-append n vs (v ∷ []) ∙ ap (λ (l : List ℕ). bytes_of_list n vs ++ l) (append-nil (bytes_of n v))

-- what is spelled is read
pub list_read : (n : ℕ) (vs p q : List ℕ) (a : ℕ) → length p ≡ a → AllBelow (2 ^ (8 * n)) vs → list_at n (length vs) (p ++ (bytes_of_list n vs ++ q)) a ≡ vs
unfolding list_at bytes_of_list
list_read n [] p q a long fit = refl
list_read n (v ∷ vs) p q a long fit =
    let one : length (bytes_of n v) ≡ n = length-bytes n v in
    let longer : length (p ++ bytes_of n v) ≡ a + n = length-append p (bytes_of n v) ∙ omega arith in
    let after : p ++ ((bytes_of n v ++ bytes_of_list n vs) ++ q) ≡ p ++ (bytes_of n v ++ (bytes_of_list n vs ++ q)) =
    ap (λ (l : List ℕ). p ++ l) (append_assoc (bytes_of n v) (bytes_of_list n vs) q) in
    ap (λ (l : List ℕ). number_at n l a ∷ list_at n (length vs) l (a + n)) after
    ∙ ap (λ (x : ℕ). x ∷ list_at n (length vs) (p ++ (bytes_of n v ++ (bytes_of_list n vs ++ q))) (a + n)) (number_fits n v p (bytes_of_list n vs ++ q) a long fit.0)
    ∙ ap (λ (l : List ℕ). v ∷ list_at n (length vs) l (a + n)) (sym (append_assoc p (bytes_of n v) (bytes_of_list n vs ++ q)))
    ∙ ap (λ (l : List ℕ). v ∷ l) (list_read n vs (p ++ bytes_of n v) q (a + n) longer fit.1)

-- what is read is spelled
pub spelled-list : (n count : ℕ) (l : List ℕ) (a : ℕ) → Bytes l → a + n * count ≤ length l → bytes_of_list n (list_at n count l a) ≡ take (n * count) (drop a l)
unfolding list_at bytes_of_list
spelled-list n zero l a bytes h = ap (λ (k : ℕ). take k (drop a l)) (sym (mul-zero n))
spelled-list n (suc count) l a bytes h =
    let more : n * suc count ≡ n * count + n = mul-suc n count in
    let e : n + n * count ≡ n * suc count = omega arith in
    ap (λ (front : List ℕ). front ++ bytes_of_list n (list_at n count l (a + n))) (spelled-number n l a bytes (omega arith))
    ∙ ap (λ (rest : List ℕ). take n (drop a l) ++ rest) (spelled-list n count l (a + n) bytes (omega arith))
    ∙ ap (λ (rest : List ℕ). take n (drop a l) ++ take (n * count) rest) (sym (drop-drop n a l))
    ∙ sym (take-add n (n * count) (drop a l))
    ∙ ap (λ (k : ℕ). take k (drop a l)) e

pub list-below : (n count : ℕ) (l : List ℕ) (a : ℕ) → Bytes l → AllBelow (2 ^ (8 * n)) (list_at n count l a)
unfolding list_at
list-below n zero l a bytes = tt
list-below n (suc count) l a bytes = (number-below n l a bytes, list-below n count l (a + n) bytes)

-- no two lists of as many numbers share their bytes
pub only-list : (n : ℕ) (vs ws : List ℕ) → length vs ≡ length ws → AllBelow (2 ^ (8 * n)) vs → AllBelow (2 ^ (8 * n)) ws → bytes_of_list n vs ≡ bytes_of_list n ws → vs ≡ ws
only-list n vs ws long hv hw e =
    sym (list_read n vs [] [] 0 refl hv)
    ∙ ap (λ (l : List ℕ). list_at n (length vs) (l ++ []) 0) e
    ∙ ap (λ (k : ℕ). list_at n k (bytes_of_list n ws ++ []) 0) long
    ∙ list_read n ws [] [] 0 refl hw
