-- Comparisons of cells: a truth cell, and the flag as it came.
use Rattle.std.specs.Prelude.{ℕ, Bool, not, pos, ◌==◌, int_lt, nat_lt}
use Rattle.word.specs.Integers.{signed}
use Rattle.word.specs.Truth.{truth_of}
use Rattle.word.specs.declared.Changed.{Changed}
use Rattle.word.specs.declared.Outcome.{Outcome}
use Rattle.word.specs.declared.Outcome.TheVariants.{Single}

-- one cell tested: its truth in its place
abbrev pub told_of : Bool → ℕ → Changed
told_of holds flag = record { value = truth_of holds; flag = flag }

-- =
abbrev pub equal_of : ℕ → ℕ → ℕ → Outcome
equal_of x y flag = Single (truth_of (x == y)) flag

-- <>
abbrev pub unequal_of : ℕ → ℕ → ℕ → Outcome
unequal_of x y flag = Single (truth_of (not (x == y))) flag

-- <, of the integers that the cells hold
abbrev pub less_of : ℕ → ℕ → ℕ → Outcome
less_of x y flag = Single (truth_of (int_lt (signed x) (signed y))) flag

-- >
abbrev pub greater_of : ℕ → ℕ → ℕ → Outcome
greater_of x y flag = Single (truth_of (int_lt (signed y) (signed x))) flag

-- U<, of the cells as they are
abbrev pub below_of : ℕ → ℕ → ℕ → Outcome
below_of x y flag = Single (truth_of (nat_lt x y)) flag

-- U>
abbrev pub above_of : ℕ → ℕ → ℕ → Outcome
above_of x y flag = Single (truth_of (nat_lt y x)) flag

-- 0=
abbrev pub zero_equal_of : ℕ → ℕ → Changed
zero_equal_of x flag = told_of (x == 0) flag

-- 0<>
abbrev pub zero_unequal_of : ℕ → ℕ → Changed
zero_unequal_of x flag = told_of (not (x == 0)) flag

-- 0<
abbrev pub zero_less_of : ℕ → ℕ → Changed
zero_less_of x flag = told_of (int_lt (signed x) (pos 0)) flag

-- 0>
abbrev pub zero_greater_of : ℕ → ℕ → Changed
zero_greater_of x flag = told_of (int_lt (pos 0) (signed x)) flag
