-- Bounds of the parts that the definitions are made of.
use Rattle.std.specs.Prelude.{ℕ, ◌*◌, ◌^◌, ◌<◌, ◌≤◌, Bool, true, false}
use Rattle.std.proofs.Common.{le_of_lt, lt_of_le_of_lt, mul-le-mul_left, mul-lt-mul_of_pos_right, arith, lit<, lit≤, pow_pos}
use Rattle.word.specs.Truth.{truth_of, bit_of}
use Rattle.word.specs.Quotients.{with_sign}

-- the product of two cells has 64 bits
pub product-below : {x y : ℕ} → x < 2 ^ 32 → y < 2 ^ 32 → x * y < 2 ^ 64
product-below {x} {y} hx hy = lt_of_le_of_lt (mul-le-mul_left x (le_of_lt hy)) (mul-lt-mul_of_pos_right hx (pow_pos 32))

pub truth-below : (holds : Bool) → truth_of holds < 2 ^ 32
truth-below true = lit< tt
truth-below false = lit< tt

pub bit_le : (holds : Bool) → bit_of holds ≤ 1
bit_le true = lit≤ tt
bit_le false = lit≤ tt

pub sign_below : (negative : Bool) {size : ℕ} → size < 2 ^ 32 → with_sign negative size < 2 ^ 32
sign_below true h = omega arith
sign_below false h = h
