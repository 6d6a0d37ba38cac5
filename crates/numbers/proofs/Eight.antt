-- Fewer bytes as the last of eight: joined behind zeros, and the lowest of a number.
use Rattle.std.specs.Prelude.{List, ◌++◌, ◌≡◌, refl, ℕ, zero, suc, ◌+◌, ◌-◌, ◌*◌, ◌/◌, ◌^◌, ◌≤◌, ◌<◌, length, take, drop, replicate}
use Rattle.std.specs.Int.{w64, from_be_bytes}
use Rattle.std.proofs.Common.{sym, ap, ◌∙◌, add-zero, zero-add, arith, get_or-append-add}
use Rattle.std.proofs.Math.ListN.{get_or-append}
use Rattle.std.proofs.lemmas.List.{drop_at, take_all, length-replicate, get_or-replicate, take-replicate}
use Rattle.std.proofs.lemmas.List.Edits.{paste_all}
use Rattle.std.proofs.lemmas.Slice.{put_mid-paste}
use borrow.Rule.Slice.PartMut.{put_mid}
use Rattle.numbers.specs.Bytes.{byte_at, number_at, bytes_of}
use Rattle.numbers.specs.Laws.Bytes.{number-last, bytes-parts, length-bytes}

-- ---- joined behind zeros

number_of_zeros : (m : ℕ) (l : List ℕ) → ((i : ℕ) → i < m → byte_at l i ≡ 0) → number_at m l 0 ≡ 0
number_of_zeros zero l zeros = refl
number_of_zeros (suc m) l zeros =
    let front : number_at m l 0 ≡ 0 = number_of_zeros m l (λ i less. zeros i (omega arith)) in
    let last : byte_at l (0 + m) ≡ 0 = ap (byte_at l) (zero-add m) ∙ zeros m (omega arith) in
    let joined = number-last m l 0 in
    omega arith

number_behind_zeros : (m n : ℕ) (l part : List ℕ) → ((i : ℕ) → i < m → byte_at l i ≡ 0)
    → ((i : ℕ) → i < n → byte_at l (m + i) ≡ byte_at part i) → number_at (m + n) l 0 ≡ number_at n part 0
number_behind_zeros m zero l part zeros same = ap (λ (k : ℕ). number_at k l 0) (add-zero m) ∙ number_of_zeros m l zeros
number_behind_zeros m (suc n) l part zeros same =
    let front : number_at (m + n) l 0 ≡ number_at n part 0 =
    number_behind_zeros m n l part zeros (λ i less. same i (omega arith)) in
    let last : byte_at l (0 + (m + n)) ≡ byte_at part (0 + n) =
    ap (byte_at l) (zero-add (m + n)) ∙ same n (omega arith) ∙ ap (byte_at part) (sym (zero-add n)) in
    let left = number-last (m + n) l 0 in
    let right = number-last n part 0 in
    let e : m + suc n ≡ suc (m + n) = omega arith in
    ap (λ (k : ℕ). number_at k l 0) e ∙ omega arith

number_of_eight : (l : List ℕ) → from_be_bytes w64 l ≡ number_at 8 l 0
number_of_eight l = omega arith

behind_zeros : (m : ℕ) (part rest : List ℕ) → m + length part ≡ 8
    → number_at 8 (replicate m 0 ++ (part ++ rest)) 0 ≡ number_at (length part) part 0
behind_zeros m part rest e =
    let zeros : List ℕ = replicate m 0 in
    let long : length zeros ≡ m = length-replicate m 0 in
    ap (λ (k : ℕ). number_at k (zeros ++ (part ++ rest)) 0) (sym e)
    ∙ number_behind_zeros m (length part) (zeros ++ (part ++ rest)) part
    (λ i less. get_or-append zeros (part ++ rest) 0 i (omega arith) ∙ get_or-replicate m i 0 0 less)
    (λ i less.
    ap (λ (k : ℕ). byte_at (zeros ++ (part ++ rest)) (k + i)) (sym long)
    ∙ get_or-append-add zeros (part ++ rest) i 0
    ∙ get_or-append part rest 0 i less)

pub joined-eight : (part now : List ℕ) → length part ≤ 8 → now ≡ part
    → from_be_bytes w64 (put_mid (8 - length part) (8 - (8 - length part)) (replicate 8 0) now)
    ≡ number_at (length part) part 0
joined-eight part now few e =
    let m : ℕ = 8 - length part in
    let rest : List ℕ = drop (m + (8 - m)) (replicate 8 0) in
    let filled : put_mid m (8 - m) (replicate 8 0) now ≡ replicate m 0 ++ (part ++ rest) =
    put_mid-paste m (8 - m) (replicate 8 0) now part (8 - m) e refl (omega arith)
    ∙ paste_all (replicate 8 0) m part (8 - m) (omega arith)
    ∙ ap (λ (zeros : List ℕ). zeros ++ (part ++ rest)) (take-replicate m 8 0 (omega arith)) in
    number_of_eight (put_mid m (8 - m) (replicate 8 0) now)
    ∙ ap (λ (l : List ℕ). number_at 8 l 0) filled
    ∙ behind_zeros m part rest (omega arith)

-- ---- the lowest

pub last-bytes : (n v : ℕ) (all : List ℕ) → n ≤ 8 → all ≡ bytes_of 8 v
    → take (8 - (8 - n)) (drop (8 - n) all) ≡ bytes_of n v
last-bytes n v all few e =
    let high : List ℕ = bytes_of (8 - n) (v / 2 ^ (8 * n)) in
    let eight : 8 ≡ 8 - n + n = omega arith in
    let parts : all ≡ high ++ bytes_of n v = e ∙ ap (λ (k : ℕ). bytes_of k v) eight ∙ bytes-parts (8 - n) n v in
    let long : length high ≡ 8 - n = length-bytes (8 - n) (v / 2 ^ (8 * n)) in
    let short : length (bytes_of n v) ≤ 8 - (8 - n) = omega (arith, length-bytes n v) in
    ap (λ (l : List ℕ). take (8 - (8 - n)) (drop (8 - n) l)) parts
    ∙ ap (take (8 - (8 - n))) (drop_at high (bytes_of n v) (8 - n) long)
    ∙ take_all (8 - (8 - n)) (bytes_of n v) short
