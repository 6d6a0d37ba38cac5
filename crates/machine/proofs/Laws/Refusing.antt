-- No two refusals have one number, and so no two answers say the same.
use Rattle.std.specs.Prelude.{Result, Ok, Err, ◌≡◌, refl, ℕ, eqb}
use Rattle.std.proofs.Common.{sym, ap, ◌∙◌}
use Rattle.plain.specs.Choice.{pick}
use Rattle.machine.specs.Refusals.{number_of, says}
use Rattle.machine.specs.declared.refusal.Refusal.{Refusal}
use Rattle.machine.specs.declared.refusal.Refusal.TheVariants as refusal

abbrev refusal_at : ℕ → Refusal
refusal_at n =
    pick (eqb n 2) refusal.NotAsAsked (
    pick (eqb n 3) refusal.InstructionOutside (
    pick (eqb n 4) refusal.UnknownCode (
    pick (eqb n 5) refusal.TooFewCells (
    pick (eqb n 6) refusal.NoReturnCell (
    pick (eqb n 7) refusal.NoExceptionLevel (
    pick (eqb n 8) refusal.CellsFull (
    pick (eqb n 9) refusal.ReturnsFull (
    pick (eqb n 10) refusal.SubroutinesFull (
    pick (eqb n 11) refusal.ExceptionsFull (
    pick (eqb n 12) refusal.AccessOutside (
    pick (eqb n 13) refusal.DivisorZero (
    pick (eqb n 14) refusal.BadImage (
    pick (eqb n 16) refusal.NoRoutine (
    refusal.OthersPart))))))))))))))

back : (a : Refusal) → refusal_at (number_of a) ≡ a
back refusal.NotAsAsked = refl
back refusal.InstructionOutside = refl
back refusal.UnknownCode = refl
back refusal.TooFewCells = refl
back refusal.NoReturnCell = refl
back refusal.NoExceptionLevel = refl
back refusal.CellsFull = refl
back refusal.ReturnsFull = refl
back refusal.SubroutinesFull = refl
back refusal.ExceptionsFull = refl
back refusal.AccessOutside = refl
back refusal.DivisorZero = refl
back refusal.BadImage = refl
back refusal.NoRoutine = refl
back refusal.OthersPart = refl

pub same-refusal : (a b : Refusal) → number_of a ≡ number_of b → a ≡ b
same-refusal a b e = sym (back a) ∙ ap refusal_at e ∙ back b

pub same-said : {A : Type 0} (a b : Result A Refusal) → says a ≡ says b → a ≡ b
same-said (Ok x) (Ok y) e = cc
same-said (Ok x) (Err why) e = cc
same-said (Err why) (Ok y) e = cc
same-said (Err why) (Err other) e = ap Err (same-refusal why other (cc))

-- no second answer of the conversion to a number
pub only-number : (a : Refusal) (m n : ℕ) → m ≡ number_of a → n ≡ number_of a → m ≡ n
only-number a m n h k = h ∙ sym k
