-- The instructions on the linked stacks and the arithmetic on two cells stand at one code each.
use Rattle.std.specs.Prelude.{◌≡◌, Bool, true, ℕ, ◌≤◌, T, eqb}
use Rattle.std.proofs.Common.{sym, subst, eqb→eq, lit≤}
use Rattle.plain.specs.Choice.{pick, decided}
use Rattle.word.specs.declared.TwoCells.{TwoCells}
use Rattle.word.specs.declared.TwoCells.TheVariants.{Plus, Minus, AddExtended, SubtractExtended, Equal, Unequal, Less, Greater, Below, Above, AndBits, OrBits, XorBits, MultiplySigned, MultiplyUnsigned, DivideSigned, DivideUnsigned}
use Rattle.machine.specs.Codes.{DUP-NONZERO, Shuffle-discrete, Link, >R, R-AT, R>, CATCH, RESETSP, THROW, JSL, JSR, EXIT, RTI, Op, SHUFFLE, JUMP, LINK, ONE, TWO, FETCH, STORE, LITERAL, table, entry_at}
use Rattle.machine.proofs.Laws.Tables.{Everywhere, at-code}

-- where they stand
abbrev pub code_of : Link → ℕ
code_of >R = 0x07
code_of R-AT = 0x08
code_of R> = 0x09
code_of CATCH = 0x0B
code_of RESETSP = 0x0C
code_of THROW = 0x0D
code_of JSL = 0x38
code_of JSR = 0x39
code_of EXIT = 0x3D
code_of RTI = 0x3C

abbrev pub code_of_two : TwoCells → ℕ
code_of_two Plus = 0x0E
code_of_two Minus = 0x0F
code_of_two AddExtended = 0x14
code_of_two SubtractExtended = 0x15
code_of_two Equal = 0x16
code_of_two Unequal = 0x17
code_of_two Less = 0x18
code_of_two Greater = 0x19
code_of_two Below = 0x1A
code_of_two Above = 0x1B
code_of_two AndBits = 0x21
code_of_two OrBits = 0x22
code_of_two XorBits = 0x24
code_of_two MultiplySigned = 0x29
code_of_two MultiplyUnsigned = 0x2A
code_of_two DivideSigned = 0x2B
code_of_two DivideUnsigned = 0x2C

-- an entry of one of them stands at its code; so does ?DUP
at_code : ℕ → Op → Bool
at_code code (SHUFFLE o) = pick (decided (Shuffle-discrete o DUP-NONZERO)) (eqb code 0x33) true
at_code code (JUMP o) = true
at_code code (LINK o) = eqb code (code_of o)
at_code code (ONE o) = true
at_code code (TWO o) = eqb code (code_of_two o)
at_code code (FETCH w) = true
at_code code (STORE w) = true
at_code code LITERAL = true

stands : Everywhere (λ code e. at_code code e.op)
unfolding table at_code
stands = record { in_table = tt; past = λ code. tt; branches = λ code. (tt, tt) }

stands_at : (code : ℕ) (op : Op) → (entry_at code).op ≡ op → T (at_code code op)
stands_at code op is = subst (λ (x : Op). T (at_code code x)) is (at-code (λ code e. at_code code e.op) stands code)

-- so the instruction tells its code
pub marked : (code : ℕ) (o : Link) → (entry_at code).op ≡ LINK o → code ≡ code_of o
unfolding at_code
marked code o is = eqb→eq code (code_of o) (stands_at code (LINK o) is)

pub marked-two : (code : ℕ) (o : TwoCells) → (entry_at code).op ≡ TWO o → code ≡ code_of_two o
unfolding at_code
marked-two code o is = eqb→eq code (code_of_two o) (stands_at code (TWO o) is)

pub marked-dup : (code : ℕ) → (entry_at code).op ≡ SHUFFLE DUP-NONZERO → code ≡ 0x33
unfolding at_code
marked-dup code is = eqb→eq code 0x33 (stands_at code (SHUFFLE DUP-NONZERO) is)

-- CATCH takes a cell
pub catch-takes : (code : ℕ) → (entry_at code).op ≡ LINK CATCH → 1 ≤ (entry_at code).takes
unfolding entry_at table
catch-takes code is = subst (λ (n : ℕ). 1 ≤ (entry_at n).takes) (sym (marked code CATCH is)) (lit≤ tt)
