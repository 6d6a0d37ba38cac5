-- Divisions: the remainder under, the quotient on top; the flag stays as it came. A divisor of zero is refused.
use Rattle.std.specs.Prelude.{ℕ, ◌-◌, ◌/◌, ◌%◌, ◌^◌, Bool, true, false, not, ◌==◌, nat_le}
use Rattle.word.specs.declared.Outcome.{Outcome}
use Rattle.word.specs.declared.Outcome.TheVariants.{Double, DivisorZero}

abbrev pub unless_zero : Bool → Outcome → Outcome
unless_zero true divided = DivisorZero
unless_zero false divided = divided

abbrev pub is_negative : ℕ → Bool
is_negative x = nat_le (2 ^ 31) x

-- the cell that holds a size with the sign asked for
abbrev pub with_sign : Bool → ℕ → ℕ
with_sign true size = (2 ^ 32 - size) % 2 ^ 32
with_sign false size = size

-- how far a cell lies from zero
abbrev pub magnitude_of : ℕ → ℕ
magnitude_of x = with_sign (is_negative x) x

abbrev pub apart : Bool → Bool → Bool
apart true b = not b
apart false b = b

-- DIVS: the quotient is cut toward zero, and the remainder has the dividend's sign
abbrev pub divide_signed_of : ℕ → ℕ → ℕ → Outcome
divide_signed_of x y flag =
    unless_zero (y == 0)
    (Double (with_sign (is_negative x) (magnitude_of x % magnitude_of y))
    (with_sign (apart (is_negative x) (is_negative y)) (magnitude_of x / magnitude_of y))
    flag)

-- DIVU
abbrev pub divide_unsigned_of : ℕ → ℕ → ℕ → Outcome
divide_unsigned_of x y flag = unless_zero (y == 0) (Double (x % y) (x / y) flag)
