-- Laws of the loops that place zeros and cells, and that add up bytes.
use mathlib.Core.List.{List, [], ◌∷◌, ◌++◌}
use mathlib.Core.Path.{◌≡◌, refl, sym, ap, ◌∙◌}
use Prim.Native.Nat.{ℕ, zero, suc, ◌+◌, ◌-◌, ◌*◌, ◌≤◌, ◌<◌}
use native.Mathlib.Nat.{mul-zero, mul-suc}
use native.Mathlib.Numerals.{add-one}
use native.Mathlib.Omega.{arith}
use lib.ListN.{length, take, drop, set, replicate, length-append}
use Rattle.std.proofs.Common.{sum}
use Rattle.std.proofs.lemmas.List.Sums.{sum_by-cons}
use lib.Seq.{drop-cons, set_at, append_snoc}
use Rattle.numbers.specs.Bytes.{byte_at, number_at}
use Rattle.numbers.specs.Lists.{list_at}
use Rattle.numbers.specs.Laws.Lists.{length-list-at}
use Rattle.plain.specs.Zeros.{padded}
use Rattle.machine.specs.Sum.{sum_of}
use Rattle.image.specs.Format.{budget_of, cell_width}

-- the first zero of the padding becomes one more number
pub set_padded : (size : ℕ) (xs : List ℕ) (v : ℕ) → length xs < size → set (padded size xs) (length xs) v ≡ padded size (xs ++ (v ∷ []))
unfolding padded
set_padded size xs v h =
    let rest : ℕ = size - suc (length xs) in
    let left : size - length xs ≡ suc rest = omega arith in
    let long : length (xs ++ (v ∷ [])) ≡ length xs + 1 = length-append xs (v ∷ []) in
    let less : rest ≡ size - length (xs ++ (v ∷ [])) = omega arith in
    ap (λ (n : ℕ). set (xs ++ replicate n 0) (length xs) v) left
    ∙ set_at xs 0 (replicate rest 0) v (length xs) refl
    ∙ sym (append_snoc xs v (replicate rest 0))
    ∙ ap (λ (n : ℕ). (xs ++ (v ∷ [])) ++ replicate n 0) less

-- one more number stands at the end
pub list_more : (w : ℕ) (file : List ℕ) (at n : ℕ) → list_at w (suc n) file at ≡ list_at w n file at ++ (number_at w file (at + w * n) ∷ [])
unfolding list_at
list_more w file at zero =
    let none : w * 0 ≡ 0 = mul-zero w in
    let e : at ≡ at + w * 0 = omega arith in
    ap (λ (k : ℕ). number_at w file k ∷ []) e
list_more w file at (suc n) =
    let more : w * suc n ≡ w * n + w = mul-suc w n in
    let e : at + w + w * n ≡ at + w * suc n = omega arith in
    ap (λ (l : List ℕ). number_at w file at ∷ l)
    (list_more w file (at + w) n ∙ ap (λ (k : ℕ). list_at w n file (at + w) ++ (number_at w file k ∷ [])) e)

pub value_placed : (w size : ℕ) (file values : List ℕ) (at i v : ℕ) → i < size → v ≡ number_at w file (at + w * i) → values ≡ padded size (list_at w i file at)
    → set values i v ≡ padded size (list_at w (i + 1) file at)
value_placed w size file values at i v h e f =
    let long : length (list_at w i file at) ≡ i = length-list-at w i file at in
    ap (λ (l : List ℕ). set l i v) f
    ∙ ap (λ (k : ℕ). set (padded size (list_at w i file at)) k v) (sym long)
    ∙ set_padded size (list_at w i file at) v (omega arith)
    ∙ ap (λ (x : ℕ). padded size (list_at w i file at ++ (x ∷ []))) e
    ∙ ap (padded size) (sym (list_more w file at i))
    ∙ ap (λ (n : ℕ). padded size (list_at w n file at)) (sym (add-one i))

-- bytes are read as they stand
pub bytes_read : (file : List ℕ) (at n : ℕ) → at + n ≤ length file → list_at 1 n file at ≡ take n (drop at file)
unfolding list_at
bytes_read file at zero h = refl
bytes_read file at (suc n) h =
    ap (λ (l : List ℕ). byte_at file at ∷ l) (bytes_read file (at + 1) n (omega arith))
    ∙ ap (λ (k : ℕ). byte_at file at ∷ take n (drop k file)) (add-one at)
    ∙ ap (take (suc n)) (sym (drop-cons file at 0 (omega arith)))

-- and so does a slice of them
pub bytes_between : (file : List ℕ) (at n : ℕ) → at + n ≤ length file → take (at + n - at) (drop at file) ≡ list_at 1 n file at
bytes_between file at n h =
    let count : at + n - at ≡ n = omega arith in
    ap (λ (k : ℕ). take k (drop at file)) count ∙ sym (bytes_read file at n h)

-- the budget of a file that gives one
pub first_budget : (file : List ℕ) (at n : ℕ) → (n ≡ 0 → ⊥) → budget_of (list_at cell_width n file at) ≡ number_at cell_width file at
unfolding list_at
first_budget file at zero some = absurd (some refl)
first_budget file at (suc n) some = refl

-- the library's sum is that of a memory
pub sum_is : (l : List ℕ) → sum l ≡ sum_of l
unfolding sum_of
sum_is [] = refl
sum_is (b ∷ bs) = sum_by-cons (λ x. x) b bs ∙ ap (λ (n : ℕ). b + n) (sum_is bs)
