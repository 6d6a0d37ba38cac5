-- The operations by name: what each leaves of its cells and the flag.
use Rattle.std.specs.Prelude.{ℕ}
use Rattle.word.specs.Sums.{plus_of, minus_of, negate_of, increment_of, decrement_of, add_extended_of, subtract_extended_of}
use Rattle.word.specs.Compare.{equal_of, unequal_of, less_of, greater_of, below_of, above_of, zero_equal_of, zero_unequal_of, zero_less_of, zero_greater_of}
use Rattle.word.specs.Bits.{and_bits_of, or_bits_of, invert_of, xor_bits_of}
use Rattle.word.specs.Shifts.{halve_of, shift_left_of, shift_right_of, extend_byte_of, extend_word_of}
use Rattle.word.specs.Products.{multiply_signed_of, multiply_unsigned_of}
use Rattle.word.specs.Quotients.{divide_signed_of, divide_unsigned_of}
use Rattle.word.specs.declared.Changed.{Changed}
use Rattle.word.specs.declared.Outcome.{Outcome}
use Rattle.word.specs.declared.OneCell.{OneCell}
use Rattle.word.specs.declared.OneCell.TheVariants.{Negate, Increment, Decrement, Halve, ZeroEqual, ZeroUnequal, ZeroLess, ZeroGreater, Invert, ShiftLeft, ShiftRight, ExtendByte, ExtendWord}
use Rattle.word.specs.declared.TwoCells.{TwoCells}
use Rattle.word.specs.declared.TwoCells.TheVariants.{Plus, Minus, AddExtended, SubtractExtended, Equal, Unequal, Less, Greater, Below, Above, AndBits, OrBits, XorBits, MultiplySigned, MultiplyUnsigned, DivideSigned, DivideUnsigned}

unfoldable pub one_cell_of : OneCell → ℕ → ℕ → Changed
one_cell_of Negate x flag = negate_of x flag
one_cell_of Increment x flag = increment_of x flag
one_cell_of Decrement x flag = decrement_of x flag
one_cell_of Halve x flag = halve_of x flag
one_cell_of ZeroEqual x flag = zero_equal_of x flag
one_cell_of ZeroUnequal x flag = zero_unequal_of x flag
one_cell_of ZeroLess x flag = zero_less_of x flag
one_cell_of ZeroGreater x flag = zero_greater_of x flag
one_cell_of Invert x flag = invert_of x flag
one_cell_of ShiftLeft x flag = shift_left_of x flag
one_cell_of ShiftRight x flag = shift_right_of x flag
one_cell_of ExtendByte x flag = extend_byte_of x flag
one_cell_of ExtendWord x flag = extend_word_of x flag

unfoldable pub two_cells_of : TwoCells → ℕ → ℕ → ℕ → Outcome
two_cells_of Plus x y flag = plus_of x y flag
two_cells_of Minus x y flag = minus_of x y flag
two_cells_of AddExtended x y flag = add_extended_of x y flag
two_cells_of SubtractExtended x y flag = subtract_extended_of x y flag
two_cells_of Equal x y flag = equal_of x y flag
two_cells_of Unequal x y flag = unequal_of x y flag
two_cells_of Less x y flag = less_of x y flag
two_cells_of Greater x y flag = greater_of x y flag
two_cells_of Below x y flag = below_of x y flag
two_cells_of Above x y flag = above_of x y flag
two_cells_of AndBits x y flag = and_bits_of x y flag
two_cells_of OrBits x y flag = or_bits_of x y flag
two_cells_of XorBits x y flag = xor_bits_of x y flag
two_cells_of MultiplySigned x y flag = multiply_signed_of x y flag
two_cells_of MultiplyUnsigned x y flag = multiply_unsigned_of x y flag
two_cells_of DivideSigned x y flag = divide_signed_of x y flag
two_cells_of DivideUnsigned x y flag = divide_unsigned_of x y flag
