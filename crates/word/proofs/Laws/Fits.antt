-- What the operations leave fits: every cell is below 2 ^ 32.
use Rattle.std.specs.Prelude.{ℕ, ◌*◌, ◌%◌, ◌^◌, ◌<◌, Bool, true, false, not, pos, ◌==◌, int_lt, nat_lt}
use Rattle.std.proofs.Common.{lt_of_le_of_lt, div-le_self, arith}
use Rattle.std.proofs.Math.Nat.{mod-le}
use Rattle.std.specs.Int.Bits.{and_lt}
use Rattle.std.proofs.lemmas.Nat.{or_lt, xor_lt}
use Rattle.word.specs.Laws.Bounds.{product-below, truth-below, sign_below}
use Rattle.word.specs.Integers.{signed}
use Rattle.word.specs.Products.{wide, cells_of}
use Rattle.word.specs.Quotients.{unless_zero, is_negative, magnitude_of, apart}
use Rattle.word.specs.Dispatch.{one_cell_of, two_cells_of}
use Rattle.word.specs.declared.Outcome.{Outcome}
use Rattle.word.specs.declared.Outcome.TheVariants.{Single, Double, DivisorZero}
use Rattle.word.specs.declared.OneCell.{OneCell}
use Rattle.word.specs.declared.OneCell.TheVariants.{Negate, Increment, Decrement, Halve, ZeroEqual, ZeroUnequal, ZeroLess, ZeroGreater, Invert, ShiftLeft, ShiftRight, ExtendByte, ExtendWord}
use Rattle.word.specs.declared.TwoCells.{TwoCells}
use Rattle.word.specs.declared.TwoCells.TheVariants.{Plus, Minus, AddExtended, SubtractExtended, Equal, Unequal, Less, Greater, Below, Above, AndBits, OrBits, XorBits, MultiplySigned, MultiplyUnsigned, DivideSigned, DivideUnsigned}

pub one-fits : (op : OneCell) (x flag : ℕ) → x < 2 ^ 32 → (one_cell_of op x flag).value < 2 ^ 32
unfolding one_cell_of
one-fits Negate x flag hx = omega arith
one-fits Increment x flag hx = omega arith
one-fits Decrement x flag hx = omega arith
one-fits Halve x flag hx = omega arith
one-fits ZeroEqual x flag hx = truth-below (x == 0)
one-fits ZeroUnequal x flag hx = truth-below (not (x == 0))
one-fits ZeroLess x flag hx = truth-below (int_lt (signed x) (pos 0))
one-fits ZeroGreater x flag hx = truth-below (int_lt (pos 0) (signed x))
one-fits Invert x flag hx = omega arith
one-fits ShiftLeft x flag hx = omega arith
one-fits ShiftRight x flag hx = omega arith
one-fits ExtendByte x flag hx = omega arith
one-fits ExtendWord x flag hx = omega arith

-- the cells of an outcome, if it has any
abbrev pub CellsFit : Outcome → Type 0
CellsFit (Single value flag) = value < 2 ^ 32
CellsFit (Double lower upper flag) = (lower < 2 ^ 32) × (upper < 2 ^ 32)
CellsFit DivisorZero = Unit {0}

unless-fits : (zero : Bool) (divided : Outcome) → CellsFit divided → CellsFit (unless_zero zero divided)
unless-fits true divided h = tt
unless-fits false divided h = h

magnitude-below : (x : ℕ) → x < 2 ^ 32 → magnitude_of x < 2 ^ 32
magnitude-below x hx = sign_below (is_negative x) hx

signed-fits : (x y flag : ℕ) → x < 2 ^ 32 → CellsFit (two_cells_of DivideSigned x y flag)
unfolding two_cells_of
signed-fits x y flag hx =
    let m = magnitude_of x in
    let n = magnitude_of y in
    unless-fits (y == 0) _
    (sign_below (is_negative x) (lt_of_le_of_lt (mod-le m n) (magnitude-below x hx)), sign_below (apart (is_negative x) (is_negative y)) (lt_of_le_of_lt (div-le_self m n) (magnitude-below x hx)))

product-fits : (product flag : ℕ) → CellsFit (cells_of (product % 2 ^ 64) flag)
product-fits product flag = (omega arith, omega arith)

pub two-fit : (op : TwoCells) (x y flag : ℕ) → x < 2 ^ 32 → y < 2 ^ 32 → CellsFit (two_cells_of op x y flag)
unfolding two_cells_of
two-fit Plus x y flag hx hy = omega arith
two-fit Minus x y flag hx hy = omega arith
two-fit AddExtended x y flag hx hy = omega arith
two-fit SubtractExtended x y flag hx hy = omega arith
two-fit Equal x y flag hx hy = truth-below (x == y)
two-fit Unequal x y flag hx hy = truth-below (not (x == y))
two-fit Less x y flag hx hy = truth-below (int_lt (signed x) (signed y))
two-fit Greater x y flag hx hy = truth-below (int_lt (signed y) (signed x))
two-fit Below x y flag hx hy = truth-below (nat_lt x y)
two-fit Above x y flag hx hy = truth-below (nat_lt y x)
two-fit AndBits x y flag hx hy = and_lt 32 x y hx hy
two-fit OrBits x y flag hx hy = or_lt 32 x y hx hy
two-fit XorBits x y flag hx hy = xor_lt 32 x y hx hy
two-fit MultiplySigned x y flag hx hy = product-fits (wide x * wide y) flag
two-fit MultiplyUnsigned x y flag hx hy = (omega arith, omega (arith, product-below hx hy))
two-fit DivideSigned x y flag hx hy = signed-fits x y flag hx
two-fit DivideUnsigned x y flag hx hy = unless-fits (y == 0) _ (lt_of_le_of_lt (mod-le x y) hx, lt_of_le_of_lt (div-le_self x y) hx)
