-- Cells as integers, and integers as a sign and a size.
use Rattle.std.specs.Prelude.{◌≡◌, ℕ, zero, suc, ◌+◌, ◌-◌, ◌*◌, ◌%◌, ◌<◌, ◌≤◌, Bool, true, false, cond, ℤ, pos, negsuc, ◌+ℤ◌, ◌-ℤ◌, ◌*ℤ◌, neg_ℤ, refl}
use Rattle.std.proofs.Common.{sym, ap, ◌∙◌, mul-zero, zero-mul, mod-eq_of_lt, arith, lt-ltb, le-ltb}
use Rattle.std.proofs.Math.Nat.{mod_self}
use Rattle.std.proofs.Math.IntN.{sub_ℕ, neg_ℤ-+ℤ, +ℤ_comm}
use Rattle.word.specs.Integers.{signed_at}
use Rattle.word.specs.Quotients.{apart}
use Rattle.word.specs.Laws.Tests.{either_order}

-- the integer of a sign, true below zero, and a size
abbrev pub signed_by : Bool → ℕ → ℤ
signed_by true size = neg_ℤ (pos size)
signed_by false size = pos size

-- a size taken from zero in a range, or as it is
abbrev pub held_at : ℕ → Bool → ℕ → ℕ
held_at half true size = (half + half - size) % (half + half)
held_at half false size = size

pub times : (s t : Bool) (m n : ℕ) → signed_by s m *ℤ signed_by t n ≡ signed_by (apart s t) (m * n)
times false false m n = refl
times false true m zero = rw (mul-zero m)
times false true m (suc n) = refl
times true false zero n = rw (zero-mul n)
times true false (suc m) n = refl
times true true zero zero = refl
times true true zero (suc n) = rw (zero-mul (suc n))
times true true (suc m) zero = rw (mul-zero (suc m))
times true true (suc m) (suc n) = refl

pub plus : (s : Bool) (m n : ℕ) → signed_by s m +ℤ signed_by s n ≡ signed_by s (m + n)
plus true m n = sym (neg_ℤ-+ℤ (pos m) (pos n))
plus false m n = refl

sub-below : (a b : ℕ) → a < b → sub_ℕ a b ≡ negsuc (b - suc a)
sub-below a b h = ap (λ (t : Bool). cond t (negsuc (b - suc a)) (pos (a - b))) (lt-ltb a b h)

sub-above : (a b : ℕ) → b ≤ a → sub_ℕ a b ≡ pos (a - b)
sub-above a b h = ap (λ (t : Bool). cond t (negsuc (b - suc a)) (pos (a - b))) (le-ltb a b h)

-- what is at most n, less n
pub less : (x n : ℕ) → x ≤ n → pos x -ℤ pos n ≡ neg_ℤ (pos (n - x))
less x zero h = ap pos e ∙ sym (ap (λ (k : ℕ). neg_ℤ (pos k)) f)
  where
    e : x + zero ≡ zero
    e = omega arith

    f : zero - x ≡ zero
    f = omega arith
less x (suc n) h = either_order (suc x) (suc n) below at
  where
    below : x < suc n → sub_ℕ x (suc n) ≡ neg_ℤ (pos (suc n - x))
    below p =
        let e : suc n - x ≡ suc (suc n - suc x) = omega arith in
        sub-below x (suc n) p ∙ sym (ap (λ (k : ℕ). neg_ℤ (pos k)) e)

    at : suc n < suc x → sub_ℕ x (suc n) ≡ neg_ℤ (pos (suc n - x))
    at p =
        let e : suc n - x ≡ zero = omega arith in
        let f : x - suc n ≡ zero = omega arith in
        sub-above x (suc n) (omega arith) ∙ ap pos f ∙ sym (ap (λ (k : ℕ). neg_ℤ (pos k)) e)

-- a size taken off a number that is no larger
pub less-size : (size n : ℕ) → n ≤ size → neg_ℤ (pos size) +ℤ pos n ≡ neg_ℤ (pos (size - n))
less-size size n h = +ℤ_comm (neg_ℤ (pos size)) (pos n) ∙ less n size h

pub signed_low : (half x : ℕ) → x < half → signed_at half x ≡ pos x
signed_low half x h = ap (λ (t : Bool). cond t (pos x) (pos x -ℤ pos (half + half))) (lt-ltb x half h)

pub signed_high : (half x : ℕ) → half ≤ x → x ≤ half + half → signed_at half x ≡ neg_ℤ (pos (half + half - x))
signed_high half x h top = ap (λ (t : Bool). cond t (pos x) (pos x -ℤ pos (half + half))) (le-ltb x half h) ∙ less x (half + half) top

pub signed-negsuc : (half x : ℕ) → half ≤ x → x < half + half → signed_at half x ≡ negsuc (half + half - suc x)
signed-negsuc half x h top =
    let e : half + half - x ≡ suc (half + half - suc x) = omega arith in
    signed_high half x h (omega arith) ∙ ap (λ (k : ℕ). neg_ℤ (pos k)) e

-- a size that is held with a sign is read back, at most half the range below zero and less than half above
pub read_back : (half : ℕ) (s : Bool) (size : ℕ) → 0 < half → size ≤ half → (s ≡ false → size < half) → signed_at half (held_at half s size) ≡ signed_by s size
read_back half false size some small fits = signed_low half size (fits refl)
read_back half true zero some small fits = rw (zero_held) (signed_low half 0 some)
  where
    zero_held : (half + half - zero) % (half + half) ≡ 0
    zero_held = ap (λ (n : ℕ). n % (half + half)) (omega arith) ∙ mod_self (half + half)
read_back half true (suc size) some small fits =
    let e : (half + half - suc size) % (half + half) ≡ half + half - suc size = mod-eq_of_lt (omega arith) in
    let f : half + half - (half + half - suc size) ≡ suc size = omega arith in
    ap (signed_at half) e ∙ signed_high half (half + half - suc size) (omega arith) (omega arith) ∙ ap (λ (k : ℕ). neg_ℤ (pos k)) f
