-- The memory sum: what a store makes of it, how far it moves from run to run, and how great it can be.
use Rattle.std.specs.Prelude.{List, [], ◌∷◌, ◌++◌, ◌≡◌, refl, ℕ, zero, suc, ◌+◌, ◌-◌, ◌*◌, ◌^◌, ◌≤◌, ◌<◌, get_or, set, length, replicate}
use Rattle.std.proofs.Common.{sym, le_of_suc-le-suc, not-suc-le-zero, zero-mul, suc-mul, arith, length-set, get_or-set_other}
use Rattle.std.proofs.lemmas.List.Edits.{sets}
use Rattle.plain.specs.Zeros.{padded}
use Rattle.machine.specs.Fits.{AllBytes}
use Rattle.machine.specs.Limits.{memory_length, most_sum}
use Rattle.machine.specs.Sum.{sum_of, sum_after}

-- what so many bytes from a place on add up to
abbrev pub standing : ℕ → List ℕ → ℕ → ℕ
standing zero l i = 0
standing (suc n) l i = get_or l i 0 + standing n l (suc i)

-- one byte is put in the place of another
pub sum-set : (l : List ℕ) (i x : ℕ) → i < length l → sum_of (set l i x) + get_or l i 0 ≡ sum_of l + x
unfolding sum_of
sum-set [] i x h = absurd (not-suc-le-zero h)
sum-set (y ∷ ys) zero x h = omega arith
sum-set (y ∷ ys) (suc i) x h = let rest = sum-set ys i x (le_of_suc-le-suc h) in omega (arith, rest)

-- a store before some bytes leaves them
standing-behind : (n : ℕ) (l : List ℕ) (i k x : ℕ) → i < k → standing n (set l i x) k ≡ standing n l k
standing-behind zero l i k x h = refl
standing-behind (suc n) l i k x h =
    let here = get_or-set_other l i k x 0 (λ same. omega arith) in
    let rest = standing-behind n l i (suc k) x (omega arith) in
    omega (arith, here, rest)

-- some bytes are put in the place of others
pub sum-sets : (xs l : List ℕ) (i : ℕ) → i + length xs ≤ length l → sum_of (sets l i xs) + standing (length xs) l i ≡ sum_of l + sum_of xs
unfolding sum_of
sum-sets [] l i h = refl
sum-sets (x ∷ xs) l i h =
    let long = length-set l i x in
    let first = sum-set l i x (omega arith) in
    let rest = sum-sets xs (set l i x) (suc i) (omega (arith, long)) in
    let kept = standing-behind (length xs) l i (suc i) x (omega arith) in
    omega (arith, first, rest, kept)

-- two parts of a memory
pub sum-append : (l k : List ℕ) → sum_of (l ++ k) ≡ sum_of l + sum_of k
unfolding sum_of
sum-append [] k = omega arith
sum-append (b ∷ bs) k = let rest = sum-append bs k in omega (arith, rest)

-- bytes that are all alike
pub sum_alike : (n b : ℕ) → sum_of (replicate n b) ≡ n * b
unfolding sum_of
sum_alike zero b = sym (zero-mul b)
sum_alike (suc n) b = let rest = sum_alike n b in let more = suc-mul n b in omega (arith, rest, more)

-- zeros behind leave a sum
pub sum-padded : (size : ℕ) (l : List ℕ) → sum_of (padded size l) ≡ sum_of l
unfolding padded
sum-padded size l =
    let both = sum-append l (replicate (size - length l) 0) in
    let none = sum_alike (size - length l) 0 in
    omega (arith, both, none)

-- a sum of bytes is at most 255 for each
pub sum-most : (l : List ℕ) → AllBytes l → sum_of l ≤ 255 * length l
unfolding sum_of
sum-most [] h = omega arith
sum-most (b ∷ bs) h = let rest = sum-most bs h.1 in let here = h.0 in omega (arith, rest, here)

pub memory-sum : (mem : List ℕ) → AllBytes mem → length mem ≡ memory_length → sum_of mem ≤ most_sum
memory-sum mem bytes long = let most = sum-most mem bytes in omega (arith, most, long)

-- from one memory to a second and from there to a third
pub sum-onward : (sum : ℕ) (a b c : List ℕ) → sum_after (sum_after sum a b) b c ≡ sum_after sum a c
unfolding sum_after
sum-onward sum a b c = omega arith

-- a memory that stays leaves its sum
pub sum-stays : (sum : ℕ) (mem : List ℕ) → sum < 2 ^ 32 → sum_after sum mem mem ≡ sum
unfolding sum_after
sum-stays sum mem h = omega arith

-- a true sum becomes a true one
pub sum-true : (before after : List ℕ) → sum_of after < 2 ^ 32 → sum_after (sum_of before) before after ≡ sum_of after
unfolding sum_after
sum-true before after h = omega arith
