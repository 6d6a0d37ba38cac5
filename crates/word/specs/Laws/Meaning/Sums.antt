-- Sums and differences with their carry or borrow are whole: of the numbers below 2 ^ 32 and the flags 0 and 1, these alone make the equation true.
-- NEGATE, 1+ and 1- leave the flag, so theirs hold modulo 2 ^ 32.
use Rattle.std.specs.Prelude.{◌≡◌, ℕ, ◌+◌, ◌-◌, ◌*◌, ◌%◌, ◌^◌, ◌<◌, ◌≤◌, Bool, true, false, nat_le, nat_lt, refl}
use Rattle.std.proofs.Common.{arith, leb-true, leb-false, ltb-true, ltb-false}
use Rattle.word.specs.Sums.{carry_of, borrow_of, plus_of, minus_of, add_extended_of, subtract_extended_of, negate_of, increment_of, decrement_of}
use Rattle.word.specs.Laws.Bounds.{bit_le}
use Rattle.word.specs.declared.Outcome.TheVariants.{Single}

sum-whole : (n : ℕ) → n < 2 ^ 33 → n % 2 ^ 32 + carry_of n * 2 ^ 32 ≡ n
sum-whole n h = go (nat_le (2 ^ 32) n) refl
  where
    go : (t : Bool) → nat_le (2 ^ 32) n ≡ t → n % 2 ^ 32 + carry_of n * 2 ^ 32 ≡ n
    go true e = rw e (omega (arith, leb-true (2 ^ 32) n e))
    go false e = rw e (omega (arith, leb-false (2 ^ 32) n e))

difference-whole : (x off : ℕ) → x < 2 ^ 32 → off ≤ 2 ^ 32 → (x + 2 ^ 33 - off) % 2 ^ 32 + off ≡ x + borrow_of x off * 2 ^ 32
difference-whole x off hx h = go (nat_lt x off) refl
  where
    go : (t : Bool) → nat_lt x off ≡ t → (x + 2 ^ 33 - off) % 2 ^ 32 + off ≡ x + borrow_of x off * 2 ^ 32
    go true e = rw e (omega (arith, ltb-true x off e))
    go false e = rw e (omega (arith, ltb-false x off e))

pub plus-means : (x y flag : ℕ) → x < 2 ^ 32 → y < 2 ^ 32 →
    (sum carry : ℕ) × (plus_of x y flag ≡ Single sum carry) × (sum < 2 ^ 32) × (carry ≤ 1) × (sum + carry * 2 ^ 32 ≡ x + y)
plus-means x y flag hx hy =
    let n = x + y in
    (n % 2 ^ 32, carry_of n, refl, omega arith, bit_le (nat_le (2 ^ 32) n), sum-whole n (omega arith))

pub minus-means : (x y flag : ℕ) → x < 2 ^ 32 → y < 2 ^ 32 →
    (rest borrow : ℕ) × (minus_of x y flag ≡ Single rest borrow) × (rest < 2 ^ 32) × (borrow ≤ 1) × (rest + y ≡ x + borrow * 2 ^ 32)
minus-means x y flag hx hy =
    ((x + 2 ^ 33 - y) % 2 ^ 32, borrow_of x y, refl, omega arith, bit_le (nat_lt x y), difference-whole x y hx (omega arith))

pub negate-means : (x flag : ℕ) → x < 2 ^ 32 →
    ((negate_of x flag).value < 2 ^ 32) × ((negate_of x flag).flag ≡ flag) × (((negate_of x flag).value + x) % 2 ^ 32 ≡ 0)
negate-means x flag hx = (omega arith, refl, omega arith)

pub increment-means : (x flag : ℕ) → x < 2 ^ 32 →
    ((increment_of x flag).value < 2 ^ 32) × ((increment_of x flag).flag ≡ flag) × (((increment_of x flag).value + 2 ^ 32 - 1) % 2 ^ 32 ≡ x)
increment-means x flag hx = (omega arith, refl, omega arith)

pub decrement-means : (x flag : ℕ) → x < 2 ^ 32 →
    ((decrement_of x flag).value < 2 ^ 32) × ((decrement_of x flag).flag ≡ flag) × (((decrement_of x flag).value + 1) % 2 ^ 32 ≡ x)
decrement-means x flag hx = (omega arith, refl, omega arith)

-- ADDX
pub add-means : (x y flag : ℕ) → x < 2 ^ 32 → y < 2 ^ 32 → flag ≤ 1 →
    (sum carry : ℕ) × (add_extended_of x y flag ≡ Single sum carry) × (sum < 2 ^ 32) × (carry ≤ 1) × (sum + carry * 2 ^ 32 ≡ x + y + flag)
add-means x y flag hx hy hf =
    let n = x + y + flag in
    (n % 2 ^ 32, carry_of n, refl, omega arith, bit_le (nat_le (2 ^ 32) n), sum-whole n (omega arith))

-- SUBX
pub subtract-means : (x y flag : ℕ) → x < 2 ^ 32 → y < 2 ^ 32 → flag ≤ 1 →
    (rest borrow : ℕ) × (subtract_extended_of x y flag ≡ Single rest borrow) × (rest < 2 ^ 32) × (borrow ≤ 1) × (rest + (y + flag) ≡ x + borrow * 2 ^ 32)
subtract-means x y flag hx hy hf =
    ((x + 2 ^ 33 - (y + flag)) % 2 ^ 32, borrow_of x (y + flag), refl, omega arith, bit_le (nat_lt x (y + flag)), difference-whole x (y + flag) hx (omega arith))
