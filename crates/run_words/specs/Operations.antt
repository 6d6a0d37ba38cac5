-- The operation on two cells that a code names, as the run asks for it.
use Rattle.std.specs.Prelude.{ℕ, eqb}
use Rattle.plain.specs.Choice.{pick}
use Rattle.word.specs.declared.TwoCells.{TwoCells}
use Rattle.word.specs.declared.TwoCells.TheVariants.{Plus, Minus, AddExtended, SubtractExtended, Equal, Unequal, Less, Greater, Below, Above, AndBits, OrBits, XorBits, MultiplySigned, MultiplyUnsigned, DivideSigned, DivideUnsigned}

abbrev pub two_of : ℕ → TwoCells
two_of code =
    pick (eqb code 0x0E) Plus (
    pick (eqb code 0x0F) Minus (
    pick (eqb code 0x14) AddExtended (
    pick (eqb code 0x15) SubtractExtended (
    pick (eqb code 0x16) Equal (
    pick (eqb code 0x17) Unequal (
    pick (eqb code 0x18) Less (
    pick (eqb code 0x19) Greater (
    pick (eqb code 0x1A) Below (
    pick (eqb code 0x1B) Above (
    pick (eqb code 0x21) AndBits (
    pick (eqb code 0x22) OrBits (
    pick (eqb code 0x24) XorBits (
    pick (eqb code 0x29) MultiplySigned (
    pick (eqb code 0x2A) MultiplyUnsigned (
    pick (eqb code 0x2B) DivideSigned DivideUnsigned)))))))))))))))
