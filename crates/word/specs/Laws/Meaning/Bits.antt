-- AND, OR, XOR, INVERT, LSL and LSR bit by bit.
use Rattle.std.specs.Prelude.{◌≡◌, ℕ, zero, suc, ◌+◌, ◌-◌, ◌*◌, ◌/◌, ◌%◌, ◌^◌, ◌<◌, min, max, bit_and, bit_or, bit_xor, refl}
use Rattle.std.proofs.Common.{sym, ap, ◌∙◌, mod-lt, add-mul, arith, pow_pos, pow-add, shr-shr, shr_lt}
use Rattle.std.proofs.Math.Arith.{digits_div}
use Rattle.std.specs.Int.Bits.{differ, and_step, or_step, xor_step}
use Rattle.std.proofs.lemmas.Nat.{and_shr, or_shr, xor_shr, shl-shr}
use Rattle.std.proofs.Math.Pow.{split, field, mod-mod-pow}
use Rattle.word.specs.Bits.{and_bits_of, or_bits_of, invert_of, xor_bits_of}
use Rattle.word.specs.Shifts.{shift_left_of, shift_right_of}
use Rattle.word.specs.declared.Outcome.TheVariants.{Single}

-- bit k of a number
abbrev pub bit_at : ℕ → ℕ → ℕ
bit_at k x = x / 2 ^ k % 2

-- what takes two numbers bit by bit, from the least up: each bit of the result is made of the bits at its place
bitwise : (made bit : ℕ → ℕ → ℕ) →
    ((a b k : ℕ) → made a b / 2 ^ k ≡ made (a / 2 ^ k) (b / 2 ^ k)) →
    ((a b : ℕ) → made a b ≡ made (a / 2) (b / 2) * 2 + bit (a % 2) (b % 2)) →
    ((a b : ℕ) → bit (a % 2) (b % 2) < 2) →
    (x y k : ℕ) → bit_at k (made x y) ≡ bit (bit_at k x) (bit_at k y)
bitwise made bit shifted step small x y k =
    let a = x / 2 ^ k in
    let b = y / 2 ^ k in
    ap (λ (n : ℕ). n % 2) (shifted x y k) ∙ last_bit (made a b) (made (a / 2) (b / 2)) (bit (a % 2) (b % 2)) (small a b) (step a b)
  where
    last_bit : (n q r : ℕ) → r < 2 → n ≡ q * 2 + r → n % 2 ≡ r
    last_bit n q r h e = omega arith

-- both bits
pub and-means : (x y flag : ℕ) → (z : ℕ) × (and_bits_of x y flag ≡ Single z flag) × ((k : ℕ) → bit_at k z ≡ min (bit_at k x) (bit_at k y))
and-means x y flag = (bit_and x y, refl, bitwise bit_and min and_shr and_step (λ a b. omega arith) x y)

-- either bit
pub or-means : (x y flag : ℕ) → (z : ℕ) × (or_bits_of x y flag ≡ Single z flag) × ((k : ℕ) → bit_at k z ≡ max (bit_at k x) (bit_at k y))
or-means x y flag = (bit_or x y, refl, bitwise bit_or max or_shr or_step (λ a b. omega arith) x y)

-- of two bits, whether they differ is their sum without its carry
differs : (m n : ℕ) → m < 2 → n < 2 → differ m n ≡ (m + n) % 2
differs zero zero hm hn = refl
differs zero (suc zero) hm hn = refl
differs (suc zero) zero hm hn = refl
differs (suc zero) (suc zero) hm hn = refl
differs (suc (suc m)) n hm hn = absurd (omega arith)
differs zero (suc (suc n)) hm hn = absurd (omega arith)
differs (suc zero) (suc (suc n)) hm hn = absurd (omega arith)

xor-by-sums : (a b : ℕ) → bit_xor a b ≡ bit_xor (a / 2) (b / 2) * 2 + (a % 2 + b % 2) % 2
xor-by-sums a b = xor_step a b ∙ ap (λ (n : ℕ). bit_xor (a / 2) (b / 2) * 2 + n) (differs (a % 2) (b % 2) (omega arith) (omega arith))

-- one bit and not the other: the sum of the two bits without its carry
pub xor-means : (x y flag : ℕ) → (z : ℕ) × (xor_bits_of x y flag ≡ Single z flag) × ((k : ℕ) → bit_at k z ≡ (bit_at k x + bit_at k y) % 2)
xor-means x y flag = (bit_xor x y, refl, bitwise bit_xor (λ m n. (m + n) % 2) xor_shr xor-by-sums (λ a b. omega arith) x y)

-- the bits above place k of an inverted cell
inverted-high : (j k x : ℕ) → 1 + j + k ≡ 32 → x < 2 ^ 32 → (2 ^ 32 - 1 - x) / 2 ^ k ≡ 2 ^ (1 + j) - 1 - x / 2 ^ k
inverted-high j k x e hx =
    let q = x / 2 ^ k in
    let high = 2 ^ (1 + j) - 1 - q in
    let all : 2 ^ 32 ≡ 2 ^ (1 + j) * 2 ^ k = ap (λ (n : ℕ). 2 ^ n) (sym e) ∙ pow-add 2 (1 + j) k in
    let fits : q < 2 ^ (1 + j) = shr_lt (1 + j) k (rw e hx) in
    let count : high + q + 1 ≡ 2 ^ (1 + j) = omega arith in
    let sum : high * 2 ^ k + q * 2 ^ k + 1 * 2 ^ k ≡ 2 ^ 32 = sym (add-mul (high + q) 1 (2 ^ k) ∙ ap (λ (n : ℕ). n + 1 * 2 ^ k) (add-mul high q (2 ^ k))) ∙ ap (λ (n : ℕ). n * 2 ^ k) count ∙ sym all in
    let low : x % 2 ^ k < 2 ^ k = mod-lt x (pow_pos k) in
    let parts : 2 ^ 32 - 1 - x ≡ high * 2 ^ k + (2 ^ k - 1 - x % 2 ^ k) = omega (arith, split x k) in
    ap (λ (n : ℕ). n / 2 ^ k) parts ∙ digits_div high (omega arith)

inverted-bit : (q p : ℕ) → q < 2 * p → (2 * p - 1 - q) % 2 ≡ 1 - q % 2
inverted-bit q p h = omega arith

-- every bit of a cell turned
pub invert-means : (k x flag : ℕ) → k < 32 → x < 2 ^ 32 → bit_at k (invert_of x flag).value ≡ 1 - bit_at k x
invert-means k x flag hk hx =
    let j = 31 - k in
    let e : 1 + j + k ≡ 32 = omega arith in
    let fits : x / 2 ^ k < 2 ^ (1 + j) = shr_lt (1 + j) k (rw e hx) in
    ap (λ (n : ℕ). n % 2) (inverted-high j k x e hx ∙ ap (λ (n : ℕ). n - 1 - x / 2 ^ k) (pow-add 2 1 j))
    ∙ inverted-bit (x / 2 ^ k) (2 ^ j) (rw (pow-add 2 1 j) at fits)

-- LSL moves each bit up one place and brings in a 0
pub shift-left-means : (k x flag : ℕ) → 1 + k < 32 → bit_at (1 + k) (shift_left_of x flag).value ≡ bit_at k x
shift-left-means k x flag hk =
    let j = 30 - k in
    let e : j + 1 + (1 + k) ≡ 32 = omega arith in
    ap (λ (n : ℕ). x * 2 % 2 ^ n / 2 ^ (1 + k) % 2) (sym e)
    ∙ ap (λ (n : ℕ). n % 2) (field (x * 2) (j + 1) (1 + k))
    ∙ mod-mod-pow (x * 2 / 2 ^ (1 + k)) j 1
    ∙ ap (λ (n : ℕ). n % 2) (sym (shr-shr (x * 2) 1 k) ∙ ap (λ (n : ℕ). n / 2 ^ k) (shl-shr x 1))

pub shift-left-zero : (x flag : ℕ) → bit_at 0 (shift_left_of x flag).value ≡ 0
shift-left-zero x flag = omega arith

-- LSR moves each bit down one place and brings in a 0
pub shift-right-means : (k x flag : ℕ) → bit_at k (shift_right_of x flag).value ≡ bit_at (1 + k) x
shift-right-means k x flag = ap (λ (n : ℕ). n % 2) (shr-shr x 1 k)

pub shift-right-zero : (x flag : ℕ) → x < 2 ^ 32 → bit_at 31 (shift_right_of x flag).value ≡ 0
shift-right-zero x flag hx = omega arith
