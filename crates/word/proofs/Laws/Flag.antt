-- The flag moves by the operations that are named here and by no other, and it stays 0 or 1, whatever numbers the cells hold.
use Rattle.std.specs.Prelude.{◌≡◌, ℕ, ◌+◌, ◌^◌, ◌≤◌, Bool, true, false, List, [], ◌∷◌, ◌==◌, nat_le, nat_lt, refl}
use mathlib.Core.List.{Memᴰ}
use Rattle.word.specs.Truth.{bit_of}
use Rattle.word.specs.Quotients.{unless_zero}
use Rattle.word.specs.Dispatch.{one_cell_of, two_cells_of}
use Rattle.word.specs.Laws.Bounds.{bit_le}
use Rattle.word.specs.declared.Outcome.{Outcome}
use Rattle.word.specs.declared.Outcome.TheVariants.{Single, Double, DivisorZero}
use Rattle.word.specs.declared.OneCell.{OneCell}
use Rattle.word.specs.declared.OneCell.TheVariants.{Negate, Increment, Decrement, Halve, ZeroEqual, ZeroUnequal, ZeroLess, ZeroGreater, Invert, ShiftLeft, ShiftRight, ExtendByte, ExtendWord}
use Rattle.word.specs.declared.TwoCells.{TwoCells}
use Rattle.word.specs.declared.TwoCells.TheVariants.{Plus, Minus, AddExtended, SubtractExtended, Equal, Unequal, Less, Greater, Below, Above, AndBits, OrBits, XorBits, MultiplySigned, MultiplyUnsigned, DivideSigned, DivideUnsigned}

-- no operation on one cell moves the flag
pub one-leaves : (op : OneCell) (x flag : ℕ) → (one_cell_of op x flag).flag ≡ flag
unfolding one_cell_of
one-leaves Negate x flag = refl
one-leaves Increment x flag = refl
one-leaves Decrement x flag = refl
one-leaves Halve x flag = refl
one-leaves ZeroEqual x flag = refl
one-leaves ZeroUnequal x flag = refl
one-leaves ZeroLess x flag = refl
one-leaves ZeroGreater x flag = refl
one-leaves Invert x flag = refl
one-leaves ShiftLeft x flag = refl
one-leaves ShiftRight x flag = refl
one-leaves ExtendByte x flag = refl
one-leaves ExtendWord x flag = refl

-- of those on two cells, these do: +, -, ADDX, SUBX
abbrev pub two_movers : List TwoCells
two_movers = Plus ∷ Minus ∷ AddExtended ∷ SubtractExtended ∷ []

-- a fact about the flag of an outcome, if it has one
abbrev pub OfFlag : (ℕ → Type 0) → Outcome → Type 0
OfFlag P (Single value flag) = P flag
OfFlag P (Double lower upper flag) = P flag
OfFlag P DivisorZero = Unit {0}

abbrev pub FlagFits : Outcome → Type 0
FlagFits = OfFlag (λ flag. flag ≤ 1)

unless-zero : (P : ℕ → Type 0) (zero : Bool) (divided : Outcome) → OfFlag P divided → OfFlag P (unless_zero zero divided)
unless-zero P true divided h = tt
unless-zero P false divided h = h

-- what holds of the flag as it came, and of a bit where the operation moves it, holds of the flag afterwards
two-bit : (P : ℕ → Type 0) (op : TwoCells) (x y flag : ℕ) → P flag → (Memᴰ op two_movers → (s : Bool) → P (bit_of s)) → OfFlag P (two_cells_of op x y flag)
unfolding two_cells_of
two-bit P Plus x y flag kept moved = moved (Memᴰ.head refl) (nat_le (2 ^ 32) (x + y))
two-bit P Minus x y flag kept moved = moved (Memᴰ.tail (Memᴰ.head refl)) (nat_lt x y)
two-bit P AddExtended x y flag kept moved = moved (Memᴰ.tail (Memᴰ.tail (Memᴰ.head refl))) (nat_le (2 ^ 32) (x + y + flag))
two-bit P SubtractExtended x y flag kept moved = moved (Memᴰ.tail (Memᴰ.tail (Memᴰ.tail (Memᴰ.head refl)))) (nat_lt x (y + flag))
two-bit P Equal x y flag kept moved = kept
two-bit P Unequal x y flag kept moved = kept
two-bit P Less x y flag kept moved = kept
two-bit P Greater x y flag kept moved = kept
two-bit P Below x y flag kept moved = kept
two-bit P Above x y flag kept moved = kept
two-bit P AndBits x y flag kept moved = kept
two-bit P OrBits x y flag kept moved = kept
two-bit P XorBits x y flag kept moved = kept
two-bit P MultiplySigned x y flag kept moved = kept
two-bit P MultiplyUnsigned x y flag kept moved = kept
two-bit P DivideSigned x y flag kept moved = unless-zero P (y == 0) _ kept
two-bit P DivideUnsigned x y flag kept moved = unless-zero P (y == 0) _ kept

-- an operation on two cells that is not named leaves the flag as it came
pub two-leaves : (op : TwoCells) (x y flag : ℕ) → (Memᴰ op two_movers → ⊥) → OfFlag (λ f. f ≡ flag) (two_cells_of op x y flag)
two-leaves op x y flag other = two-bit (λ f. f ≡ flag) op x y flag refl (λ named s. absurd (other named))

pub two-flag : (op : TwoCells) (x y flag : ℕ) → flag ≤ 1 → FlagFits (two_cells_of op x y flag)
two-flag op x y flag h = two-bit (λ f. f ≤ 1) op x y flag h (λ named s. bit_le s)
