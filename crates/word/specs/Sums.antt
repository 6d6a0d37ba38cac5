-- Sums and differences of cells. They wrap at 2 ^ 32. After +, -, ADDX and SUBX the flag is the carry or the borrow; NEGATE, 1+ and 1- leave it
-- as it came, which is request P2's rule in the place of document 01's.
use Rattle.std.specs.Prelude.{ℕ, ◌+◌, ◌-◌, ◌%◌, ◌^◌, nat_le, nat_lt}
use Rattle.word.specs.Truth.{bit_of}
use Rattle.word.specs.declared.Changed.{Changed}
use Rattle.word.specs.declared.Outcome.{Outcome}
use Rattle.word.specs.declared.Outcome.TheVariants.{Single}

-- the carry: the unwrapped sum has more than 32 bits
abbrev pub carry_of : ℕ → ℕ
carry_of sum = bit_of (nat_le (2 ^ 32) sum)

-- the borrow: more is taken off x than x holds
abbrev pub borrow_of : ℕ → ℕ → ℕ
borrow_of x off = bit_of (nat_lt x off)

abbrev pub sum_of : ℕ → Changed
sum_of sum = record { value = sum % 2 ^ 32; flag = carry_of sum }

-- taken from 2 ^ 33 more, which no cell and flag together pass, so that it is no less than 0
abbrev pub difference_of : ℕ → ℕ → Changed
difference_of x off = record { value = (x + 2 ^ 33 - off) % 2 ^ 32; flag = borrow_of x off }

-- one cell in the place of two
abbrev pub alone : Changed → Outcome
alone c = Single c.value c.flag

-- +
abbrev pub plus_of : ℕ → ℕ → ℕ → Outcome
plus_of x y flag = alone (sum_of (x + y))

-- -
abbrev pub minus_of : ℕ → ℕ → ℕ → Outcome
minus_of x y flag = alone (difference_of x y)

-- NEGATE, which is 0 - x
abbrev pub negate_of : ℕ → ℕ → Changed
negate_of x flag = record { value = (difference_of 0 x).value; flag = flag }

-- 1+
abbrev pub increment_of : ℕ → ℕ → Changed
increment_of x flag = record { value = (sum_of (x + 1)).value; flag = flag }

-- 1-
abbrev pub decrement_of : ℕ → ℕ → Changed
decrement_of x flag = record { value = (difference_of x 1).value; flag = flag }

-- ADDX adds the old flag too
abbrev pub add_extended_of : ℕ → ℕ → ℕ → Outcome
add_extended_of x y flag = alone (sum_of (x + y + flag))

-- SUBX subtracts the old flag too
abbrev pub subtract_extended_of : ℕ → ℕ → ℕ → Outcome
subtract_extended_of x y flag = alone (difference_of x (y + flag))
