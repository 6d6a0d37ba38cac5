-- Worked samples of the definitions, each by computation.
use Rattle.std.specs.Prelude.{◌≡◌, [], ◌∷◌, refl}
use Rattle.plain.specs.Answer.{refuses, gives}
use Rattle.word.specs.Sums.{plus_of, increment_of, negate_of, add_extended_of, subtract_extended_of}
use Rattle.word.specs.Compare.{less_of, below_of}
use Rattle.word.specs.Bits.{xor_bits_of, invert_of}
use Rattle.word.specs.Shifts.{halve_of, extend_byte_of}
use Rattle.word.specs.Products.{multiply_signed_of, multiply_unsigned_of}
use Rattle.word.specs.Quotients.{divide_signed_of, divide_unsigned_of}
use Rattle.word.specs.Outcomes.{leaves, says_outcome}
use Rattle.word.specs.declared.Outcome.TheVariants.{Single, Double}

plus-carries : plus_of 0xffffffff 1 0 ≡ Single 0 1
plus-carries = refl

increment-wraps : increment_of 0xffffffff 0 ≡ record { value = 0; flag = 0 }
increment-wraps = refl

carry-is-added : add_extended_of 0 0 1 ≡ Single 1 0
carry-is-added = refl

-- the subtrahend and the flag together take 33 bits
borrow-of-33-bits : subtract_extended_of 5 0xffffffff 1 ≡ Single 5 1
borrow-of-33-bits = refl

zero-negated : negate_of 0 1 ≡ record { value = 0; flag = 1 }
zero-negated = refl

minus-one-is-less : less_of 0xffffffff 0 0 ≡ Single 0xffffffff 0
minus-one-is-less = refl

all-ones-is-not-below : below_of 0xffffffff 0 1 ≡ Single 0 1
all-ones-is-not-below = refl

xor-with-ones : xor_bits_of 0x12345678 0xffffffff 0 ≡ Single 0xedcba987 0
xor-with-ones = refl

inverted : invert_of 0x12345678 0 ≡ record { value = 0xedcba987; flag = 0 }
inverted = refl

halved-below-zero : halve_of 0x80000001 0 ≡ record { value = 0xc0000000; flag = 0 }
halved-below-zero = refl

byte-extended : extend_byte_of 0x80 1 ≡ record { value = 0xffffff80; flag = 1 }
byte-extended = refl

largest-squared : multiply_unsigned_of 0xffffffff 0xffffffff 0 ≡ Double 1 0xfffffffe 0
largest-squared = refl

minus-one-squared : multiply_signed_of 0xffffffff 0xffffffff 0 ≡ Double 1 0 0
minus-one-squared = refl

-- -7 by 2: remainder -1, quotient -3
cut-toward-zero : divide_signed_of 0xfffffff9 2 0 ≡ Double 0xffffffff 0xfffffffd 0
cut-toward-zero = refl

-- the same in document 01's terms, and a refusal
remainder-under-quotient : says_outcome (divide_signed_of 0xfffffff9 2 0) ≡ gives (leaves (0xffffffff ∷ 0xfffffffd ∷ []) 0)
remainder-under-quotient = refl

divisor-zero-is-13 : says_outcome (divide_unsigned_of 0 0 1) ≡ refuses 13
divisor-zero-is-13 = refl
