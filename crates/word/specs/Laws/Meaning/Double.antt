-- Sums and differences of double length: + or - on the low cells, then ADDX or SUBX on the high cells with the flag that it left, make the sum
-- or the difference of two numbers of 64 bits, modulo 2 ^ 64, and the flag its carry or borrow.
use Rattle.std.specs.Prelude.{◌≡◌, ℕ, ◌+◌, ◌-◌, ◌*◌, ◌%◌, ◌^◌, ◌<◌, ◌≤◌, Bool, true, false, nat_le, nat_lt, refl}
use Rattle.std.proofs.Common.{arith, leb-true, leb-false, ltb-true, ltb-false}
use Rattle.word.specs.Truth.{bit_of}
use Rattle.word.specs.Double.{double}
use Rattle.word.specs.Sums.{plus_of, minus_of, add_extended_of, subtract_extended_of}
use Rattle.word.specs.Laws.Meaning.Sums.{plus-means, minus-means, add-means, subtract-means}
use Rattle.word.specs.declared.Outcome.TheVariants.{Single}

-- where a number below 2 ^ 64 and a bit make up n, the number is n modulo 2 ^ 64, and the bit tells whether n has more than 64 bits
cut : (number bit n : ℕ) → number < 2 ^ 64 → bit ≤ 1 → number + bit * 2 ^ 64 ≡ n → (number ≡ n % 2 ^ 64) × (bit ≡ bit_of (nat_le (2 ^ 64) n))
cut number bit n below small whole = go (nat_le (2 ^ 64) n) refl
  where
    go : (t : Bool) → nat_le (2 ^ 64) n ≡ t → (number ≡ n % 2 ^ 64) × (bit ≡ bit_of (nat_le (2 ^ 64) n))
    go true e = (omega (arith, leb-true (2 ^ 64) n e), rw e (omega (arith, leb-true (2 ^ 64) n e)))
    go false e = (omega (arith, leb-false (2 ^ 64) n e), rw e (omega (arith, leb-false (2 ^ 64) n e)))

-- where they make up x less y, the number is that modulo 2 ^ 64, and the bit tells whether more is taken off than is there
taken : (number bit x y : ℕ) → number < 2 ^ 64 → bit ≤ 1 → x < 2 ^ 64 → y < 2 ^ 64 → number + y ≡ x + bit * 2 ^ 64 →
    (number ≡ (x + 2 ^ 64 - y) % 2 ^ 64) × (bit ≡ bit_of (nat_lt x y))
taken number bit x y below small x-fits y-fits whole = go (nat_lt x y) refl
  where
    go : (t : Bool) → nat_lt x y ≡ t → (number ≡ (x + 2 ^ 64 - y) % 2 ^ 64) × (bit ≡ bit_of (nat_lt x y))
    go true e = (omega (arith, ltb-true x y e), rw e (omega (arith, ltb-true x y e)))
    go false e = (omega (arith, ltb-false x y e), rw e (omega (arith, ltb-false x y e)))

module _ (xl xh yl yh flag : ℕ) (hxl : xl < 2 ^ 32) (hxh : xh < 2 ^ 32) (hyl : yl < 2 ^ 32) (hyh : yh < 2 ^ 32) where
  pub double-sum-means : (low carry high out : ℕ) × (plus_of xl yl flag ≡ Single low carry) × (add_extended_of xh yh carry ≡ Single high out) ×
      (double low high ≡ (double xl xh + double yl yh) % 2 ^ 64) × (out ≡ bit_of (nat_le (2 ^ 64) (double xl xh + double yl yh)))
  double-sum-means =
      let (low, carry, is-low, low_below, carry-small, low-whole) = plus-means xl yl flag hxl hyl in
      let (high, out, is-high, high-below, out-small, high-whole) = add-means xh yh carry hxh hyh carry-small in
      let (number, bit) = cut (double low high) out (double xl xh + double yl yh) (omega arith) out-small (omega arith) in
      (low, carry, high, out, is-low, is-high, number, bit)

  pub double-difference-means : (low borrow high out : ℕ) × (minus_of xl yl flag ≡ Single low borrow) × (subtract_extended_of xh yh borrow ≡ Single high out) ×
      (double low high ≡ (double xl xh + 2 ^ 64 - double yl yh) % 2 ^ 64) × (out ≡ bit_of (nat_lt (double xl xh) (double yl yh)))
  double-difference-means =
      let (low, borrow, is-low, low_below, borrow-small, low-whole) = minus-means xl yl flag hxl hyl in
      let (high, out, is-high, high-below, out-small, high-whole) = subtract-means xh yh borrow hxh hyh borrow-small in
      let (number, bit) = taken (double low high) out (double xl xh) (double yl yh) (omega arith) out-small (omega arith) (omega arith) (omega arith) in
      (low, borrow, high, out, is-low, is-high, number, bit)
