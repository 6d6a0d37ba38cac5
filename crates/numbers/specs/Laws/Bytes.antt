-- Laws of numbers as bytes, for every count of bytes: what is spelled is read, and what is read is spelled.
use Rattle.std.specs.Prelude.{List, [], ◌∷◌, ◌++◌, ◌≡◌, refl, ℕ, zero, suc, ◌+◌, ◌*◌, ◌/◌, ◌%◌, ◌^◌, ◌≤◌, ◌<◌, length, take, drop}
use Rattle.std.proofs.Common.{sym, ap, ◌∙◌, add-zero, suc-add, zero-add, div-one, mod-eq_of_lt, arith, length-drop, take-suc, get_or-append-add, get_or-drop}
use Rattle.std.proofs.Math.ListN.{get_or-append}
use Rattle.numbers.specs.Bytes.{byte_at, number_at, bytes_of}
use Rattle.numbers.specs.Laws.Powers.{power-suc, div_power, mod-last}

-- every element is a byte
abbrev pub Bytes : List ℕ → Type 0
Bytes bytes = (i : ℕ) → byte_at bytes i < 2 ^ 8

-- ---- one byte more

pub number-last : (n : ℕ) (l : List ℕ) (a : ℕ) → number_at (suc n) l a ≡ number_at n l a * 2 ^ 8 + byte_at l (a + n)
number-last zero l a = let same : byte_at l a ≡ byte_at l (a + zero) = ap (byte_at l) (sym (add-zero a)) in omega arith
number-last (suc n) l a = refl

pub bytes-first : (n v : ℕ) → bytes_of (suc n) v ≡ v / 2 ^ (8 * n) % 2 ^ 8 ∷ bytes_of n v
bytes-first zero v = ap (λ (x : ℕ). x % 2 ^ 8 ∷ []) (sym (div-one v))
bytes-first (suc n) v = refl

-- the high bytes, then the low ones
pub bytes-parts : (m n v : ℕ) → bytes_of (m + n) v ≡ bytes_of m (v / 2 ^ (8 * n)) ++ bytes_of n v
bytes-parts zero n v = ap (λ (k : ℕ). bytes_of k v) (zero-add n)
bytes-parts (suc m) n v =
    ap (λ (k : ℕ). bytes_of k v) (suc-add m n)
    ∙ bytes-first (m + n) v
    ∙ ap (λ (x : ℕ). x % 2 ^ 8 ∷ bytes_of (m + n) v) (sym (div_power m n v))
    ∙ ap (λ (l : List ℕ). v / 2 ^ (8 * n) / 2 ^ (8 * m) % 2 ^ 8 ∷ l) (bytes-parts m n v)
    ∙ ap (λ (l : List ℕ). l ++ bytes_of n v) (sym (bytes-first m (v / 2 ^ (8 * n))))

pub bytes-last : (n v : ℕ) → bytes_of (suc n) v ≡ bytes_of n (v / 2 ^ 8) ++ (v % 2 ^ 8 ∷ [])
bytes-last n v = let e : suc n ≡ n + 1 = omega arith in ap (λ (k : ℕ). bytes_of k v) e ∙ bytes-parts n 1 v

pub length-bytes : (n v : ℕ) → length (bytes_of n v) ≡ n
length-bytes zero v = refl
length-bytes (suc n) v = ap length (bytes-first n v) ∙ ap suc (length-bytes n v)

-- ---- where a number stands

-- the same bytes at two places are the same number
pub same_number : (n : ℕ) (l m : List ℕ) (a b : ℕ) → ((i : ℕ) → i < n → byte_at l (a + i) ≡ byte_at m (b + i)) → number_at n l a ≡ number_at n m b
same_number zero l m a b same = refl
same_number (suc n) l m a b same =
    let front : number_at n l a ≡ number_at n m b = same_number n l m a b (λ i h. same i (omega arith)) in
    let last : byte_at l (a + n) ≡ byte_at m (b + n) = same n (omega arith) in
    let left = number-last n l a in
    let right = number-last n m b in
    omega arith

-- in the first part of a list
pub number-front : (n : ℕ) (l q : List ℕ) (a : ℕ) → a + n ≤ length l → number_at n (l ++ q) a ≡ number_at n l a
number-front n l q a h = same_number n (l ++ q) l a a (λ i less. get_or-append l q 0 (a + i) (omega arith))

-- in the part after it
pub number-after : (n : ℕ) (p l : List ℕ) (a : ℕ) → number_at n (p ++ l) (length p + a) ≡ number_at n l a
number-after n p l a =
    same_number n (p ++ l) l (length p + a) a
    (λ i less.
    let e : length p + a + i ≡ length p + (a + i) = omega arith in
    ap (byte_at (p ++ l)) e ∙ get_or-append-add p l (a + i) 0)

-- ---- what is spelled is read

pub number_spelled : (n v : ℕ) → number_at n (bytes_of n v) 0 ≡ v % 2 ^ (8 * n)
number_spelled zero v = omega arith
number_spelled (suc n) v =
    let l : List ℕ = bytes_of n (v / 2 ^ 8) in
    let long : length l ≡ n = length-bytes n (v / 2 ^ 8) in
    let rest : number_at n l 0 ≡ v / 2 ^ 8 % 2 ^ (8 * n) = number_spelled n (v / 2 ^ 8) in
    let front : number_at n (l ++ (v % 2 ^ 8 ∷ [])) 0 ≡ number_at n l 0 = number-front n l (v % 2 ^ 8 ∷ []) 0 (omega arith) in
    let e : 0 + n ≡ length l + 0 = omega arith in
    let last : byte_at (l ++ (v % 2 ^ 8 ∷ [])) (0 + n) ≡ v % 2 ^ 8 =
    ap (byte_at (l ++ (v % 2 ^ 8 ∷ []))) e ∙ get_or-append-add l (v % 2 ^ 8 ∷ []) 0 0 in
    let joined = number-last n (l ++ (v % 2 ^ 8 ∷ [])) 0 in
    let low = mod-last n v in
    ap (λ (bytes : List ℕ). number_at (suc n) bytes 0) (bytes-last n v) ∙ omega arith

-- a number's bytes inside a list
pub number_read : (n v : ℕ) (p q : List ℕ) (a : ℕ) → length p ≡ a → number_at n (p ++ (bytes_of n v ++ q)) a ≡ v % 2 ^ (8 * n)
number_read n v p q a long =
    let e : a ≡ length p + 0 = omega arith in
    let fit : length (bytes_of n v) ≡ n = length-bytes n v in
    ap (number_at n (p ++ (bytes_of n v ++ q))) e
    ∙ number-after n p (bytes_of n v ++ q) 0
    ∙ number-front n (bytes_of n v) q 0 (omega arith)
    ∙ number_spelled n v

pub number_fits : (n v : ℕ) (p q : List ℕ) (a : ℕ) → length p ≡ a → v < 2 ^ (8 * n) → number_at n (p ++ (bytes_of n v ++ q)) a ≡ v
number_fits n v p q a long fits = number_read n v p q a long ∙ mod-eq_of_lt fits

-- no two numbers within n bytes share them
pub only-number : (n v w : ℕ) → v < 2 ^ (8 * n) → w < 2 ^ (8 * n) → bytes_of n v ≡ bytes_of n w → v ≡ w
only-number n v w hv hw e =
    sym (number_spelled n v ∙ mod-eq_of_lt hv) ∙ ap (λ (l : List ℕ). number_at n l 0) e ∙ (number_spelled n w ∙ mod-eq_of_lt hw)

-- ---- what is read is spelled

pub number-below : (n : ℕ) (l : List ℕ) (a : ℕ) → Bytes l → number_at n l a < 2 ^ (8 * n)
number-below zero l a bytes = omega arith
number-below (suc n) l a bytes =
    let front : number_at n l a < 2 ^ (8 * n) = number-below n l a bytes in
    let last : byte_at l (a + n) < 2 ^ 8 = bytes (a + n) in
    let joined = number-last n l a in
    let power = power-suc n in
    omega arith

bytes-joined : (n x b : ℕ) → b < 2 ^ 8 → bytes_of (suc n) (x * 2 ^ 8 + b) ≡ bytes_of n x ++ (b ∷ [])
bytes-joined n x b h =
    let high : (x * 2 ^ 8 + b) / 2 ^ 8 ≡ x = omega arith in
    let low : (x * 2 ^ 8 + b) % 2 ^ 8 ≡ b = omega arith in
    bytes-last n (x * 2 ^ 8 + b) ∙ ap (λ (y : ℕ). bytes_of n y ++ ((x * 2 ^ 8 + b) % 2 ^ 8 ∷ [])) high ∙ ap (λ (y : ℕ). bytes_of n x ++ (y ∷ [])) low

-- higher bytes than the n lowest do not count
pub bytes_low : (n v : ℕ) → bytes_of n (v % 2 ^ (8 * n)) ≡ bytes_of n v
bytes_low zero v = refl
bytes_low (suc n) v =
    ap (bytes_of (suc n)) (mod-last n v)
    ∙ bytes-joined n (v / 2 ^ 8 % 2 ^ (8 * n)) (v % 2 ^ 8) (omega arith)
    ∙ ap (λ (l : List ℕ). l ++ (v % 2 ^ 8 ∷ [])) (bytes_low n (v / 2 ^ 8))
    ∙ sym (bytes-last n v)

pub spelled-number : (n : ℕ) (l : List ℕ) (a : ℕ) → Bytes l → a + n ≤ length l → bytes_of n (number_at n l a) ≡ take n (drop a l)
spelled-number zero l a bytes h = refl
spelled-number (suc n) l a bytes h =
    ap (bytes_of (suc n)) (number-last n l a)
    ∙ bytes-joined n (number_at n l a) (byte_at l (a + n)) (bytes (a + n))
    ∙ ap (λ (front : List ℕ). front ++ (byte_at l (a + n) ∷ [])) (spelled-number n l a bytes (omega arith))
    ∙ ap (λ (b : ℕ). take n (drop a l) ++ (b ∷ [])) (sym (get_or-drop a l n 0))
    ∙ sym (take-suc (drop a l) n 0 (simp length-drop (omega arith)))
