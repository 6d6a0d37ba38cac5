-- The codes: what depends on a code alone, with no memory and no machine at hand.
use Rattle.std.specs.Prelude.{Bool, true, false, List, [], ◌∷◌, map, ℕ, suc, ltb, get_or, take}
use Rattle.plain.specs.Choice.{pick}
use Rattle.word.specs.declared.OneCell.{OneCell}
use Rattle.word.specs.declared.OneCell.TheVariants.{Negate, Increment, Decrement, Halve, ZeroEqual, ZeroUnequal, ZeroLess, ZeroGreater, Invert, ShiftLeft, ShiftRight, ExtendByte, ExtendWord}
use Rattle.word.specs.declared.TwoCells.{TwoCells}
use Rattle.word.specs.declared.TwoCells.TheVariants.{Plus, Minus, AddExtended, SubtractExtended, Equal, Unequal, Less, Greater, Below, Above, AndBits, OrBits, XorBits, MultiplySigned, MultiplyUnsigned, DivideSigned, DivideUnsigned}
use Rattle.machine.specs.declared.Width.{Width}
use Rattle.machine.specs.declared.Width.TheVariants.{Byte, Word, Long}

-- the instructions on parameter cells alone
pub data Shuffle : Type 0 where
  NOP DROP DUP SWAP OVER NIP ROT PSP-AT ZERO DUP-NONZERO PAUSE : Shuffle
  deriving Discrete as Shuffle-discrete

-- those that only go elsewhere
pub data Jump : Type 0 where
  JMP BEQ BRA : Jump

-- those on the return, subroutine and exception stacks
pub data Link : Type 0 where
  >R R-AT R> CATCH RESETSP THROW JSL JSR EXIT RTI : Link

-- all of them, by what they share: arithmetic on one cell or two, fetches and stores by width
pub data Op : Type 0 where
  SHUFFLE : Shuffle → Op
  JUMP : Jump → Op
  LINK : Link → Op
  ONE : OneCell → Op
  TWO : TwoCells → Op
  FETCH STORE : Width → Op
  LITERAL : Op

-- what follows a code in memory
pub data Operand : Type 0 where
  none : Operand
  -- a number of so many bytes
  number : ℕ → Operand
  -- the second byte of a branch's offset
  offset : Operand

-- a code's entry: whether it is known, its instruction, its operand, the cells that it takes, the most that it puts, its clock cycles
pub record Entry : Type 0 where
  pub known : Bool
  pub op : Op
  pub operand : Operand
  pub takes : ℕ
  pub puts : ℕ
  pub cycles : ℕ

abbrev pub entry : Op → Operand → ℕ → ℕ → ℕ → Entry
entry op operand takes puts cycles =
    record { known = true; op = op; operand = operand; takes = takes; puts = puts; cycles = cycles }

-- an unknown code is one byte, counts as 1 in the cycle table and is never carried out
abbrev pub unknown : Entry
unknown = record { known = false; op = SHUFFLE NOP; operand = none; takes = 0; puts = 0; cycles = 1 }

-- how many bytes an instruction with this operand has
abbrev pub bytes_with : Operand → ℕ
bytes_with none = 1
bytes_with (number bytes) = suc bytes
bytes_with offset = 2

-- codes 00 to 3E stand in a table; the cycle table of document 01 ends before the last, PAUSE
abbrev pub cycles_end : ℕ
cycles_end = 0x3E

abbrev pub code_pause : ℕ
code_pause = 0x3E

unfoldable pub table : List Entry
table =
    -- instruction, operand, cells taken, cells put, cycles; behind them code and name
    entry (SHUFFLE NOP) none 0 0 1 ∷  -- 00 NOP
    entry (SHUFFLE DROP) none 1 0 1 ∷  -- 01 DROP
    entry (SHUFFLE DUP) none 1 2 1 ∷  -- 02 DUP
    entry (SHUFFLE SWAP) none 2 2 1 ∷  -- 03 SWAP
    entry (SHUFFLE OVER) none 2 3 1 ∷  -- 04 OVER
    entry (SHUFFLE NIP) none 2 1 1 ∷  -- 05 NIP
    entry (SHUFFLE ROT) none 3 3 1 ∷  -- 06 ROT
    entry (LINK >R) none 1 0 1 ∷  -- 07 >R
    entry (LINK R-AT) none 0 1 1 ∷  -- 08 R@
    entry (LINK R>) none 0 1 1 ∷  -- 09 R>
    entry (SHUFFLE PSP-AT) none 0 1 1 ∷  -- 0A PSP@
    entry (LINK CATCH) none 1 0 2 ∷  -- 0B CATCH
    entry (LINK RESETSP) none 0 0 1 ∷  -- 0C RESETSP
    entry (LINK THROW) none 1 1 3 ∷  -- 0D THROW
    entry (TWO Plus) none 2 1 1 ∷  -- 0E +
    entry (TWO Minus) none 2 1 1 ∷  -- 0F -
    entry (ONE Negate) none 1 1 1 ∷  -- 10 NEGATE
    entry (ONE Increment) none 1 1 1 ∷  -- 11 1+
    entry (ONE Decrement) none 1 1 1 ∷  -- 12 1-
    entry (ONE Halve) none 1 1 1 ∷  -- 13 2/
    entry (TWO AddExtended) none 2 1 1 ∷  -- 14 ADDX
    entry (TWO SubtractExtended) none 2 1 1 ∷  -- 15 SUBX
    entry (TWO Equal) none 2 1 1 ∷  -- 16 =
    entry (TWO Unequal) none 2 1 1 ∷  -- 17 <>
    entry (TWO Less) none 2 1 1 ∷  -- 18 <
    entry (TWO Greater) none 2 1 1 ∷  -- 19 >
    entry (TWO Below) none 2 1 1 ∷  -- 1A U<
    entry (TWO Above) none 2 1 1 ∷  -- 1B U>
    entry (ONE ZeroEqual) none 1 1 1 ∷  -- 1C 0=
    entry (ONE ZeroUnequal) none 1 1 1 ∷  -- 1D 0<>
    entry (ONE ZeroLess) none 1 1 1 ∷  -- 1E 0<
    entry (ONE ZeroGreater) none 1 1 1 ∷  -- 1F 0>
    entry (SHUFFLE ZERO) none 0 1 1 ∷  -- 20 ZERO
    entry (TWO AndBits) none 2 1 1 ∷  -- 21 AND
    entry (TWO OrBits) none 2 1 1 ∷  -- 22 OR
    entry (ONE Invert) none 1 1 1 ∷  -- 23 INVERT
    entry (TWO XorBits) none 2 1 1 ∷  -- 24 XOR
    entry (ONE ShiftLeft) none 1 1 1 ∷  -- 25 LSL
    entry (ONE ShiftRight) none 1 1 1 ∷  -- 26 LSR
    entry (ONE ExtendByte) none 1 1 1 ∷  -- 27 XBYTE
    entry (ONE ExtendWord) none 1 1 1 ∷  -- 28 XWORD
    entry (TWO MultiplySigned) none 2 2 5 ∷  -- 29 MULTS
    entry (TWO MultiplyUnsigned) none 2 2 5 ∷  -- 2A MULTU
    entry (TWO DivideSigned) none 2 2 42 ∷  -- 2B DIVS
    entry (TWO DivideUnsigned) none 2 2 41 ∷  -- 2C DIVU
    entry (FETCH Long) none 1 1 2 ∷  -- 2D FETCH.L
    entry (STORE Long) none 2 0 2 ∷  -- 2E STORE.L
    entry (FETCH Word) none 1 1 2 ∷  -- 2F FETCH.W
    entry (STORE Word) none 2 0 2 ∷  -- 30 STORE.W
    entry (FETCH Byte) none 1 1 2 ∷  -- 31 FETCH.B
    entry (STORE Byte) none 2 0 2 ∷  -- 32 STORE.B
    entry (SHUFFLE DUP-NONZERO) none 1 2 2 ∷  -- 33 ?DUP
    entry LITERAL (number 1) 0 1 2 ∷  -- 34 #.B
    entry LITERAL (number 2) 0 1 2 ∷  -- 35 #.W
    entry LITERAL (number 4) 0 1 2 ∷  -- 36 #.L
    entry (JUMP JMP) none 1 0 2 ∷  -- 37 JMP
    entry (LINK JSL) (number 3) 0 0 2 ∷  -- 38 JSL
    entry (LINK JSR) none 1 0 2 ∷  -- 39 JSR
    unknown ∷  -- 3A unknown
    unknown ∷  -- 3B unknown
    entry (LINK RTI) none 0 0 2 ∷  -- 3C RTI
    entry (LINK EXIT) none 0 0 2 ∷  -- 3D EXIT
    entry (SHUFFLE PAUSE) none 0 0 1 ∷ []  -- 3E PAUSE

-- the branches
abbrev pub entry_beq : Entry
entry_beq = entry (JUMP BEQ) offset 1 0 2

abbrev pub entry_bra : Entry
entry_bra = entry (JUMP BRA) offset 0 0 2

-- 80 to BF is BEQ, C0 to FF is BRA, 3F to 7F are unknown
unfoldable pub entry_at : ℕ → Entry
entry_at code = pick (ltb code 0x80) (get_or table code unknown) (pick (ltb code 0xC0) entry_beq entry_bra)

-- the cycles of a code; THROW of 0 is the one exception (Step.antt)
abbrev pub cycles_of : ℕ → ℕ
cycles_of code = (entry_at code).cycles

-- the cycle table: one count for each code from 00 to 3D
unfoldable pub cycle_table : List ℕ
unfolding table
cycle_table = map (λ e. e.cycles) (take cycles_end table)
