-- The answer number of each refusal.
use Rattle.std.specs.Prelude.{Result, Ok, Err, ℕ}
use Rattle.plain.specs.Answer.{Answer, refuses, gives}
use Rattle.machine.specs.declared.refusal.Refusal.{Refusal}
use Rattle.machine.specs.declared.refusal.Refusal.TheVariants as refusal

abbrev pub number_of : Refusal → ℕ
number_of refusal.NotAsAsked = 2
number_of refusal.InstructionOutside = 3
number_of refusal.UnknownCode = 4
number_of refusal.TooFewCells = 5
number_of refusal.NoReturnCell = 6
number_of refusal.NoExceptionLevel = 7
number_of refusal.CellsFull = 8
number_of refusal.ReturnsFull = 9
number_of refusal.SubroutinesFull = 10
number_of refusal.ExceptionsFull = 11
number_of refusal.AccessOutside = 12
number_of refusal.DivisorZero = 13
number_of refusal.BadImage = 14
number_of refusal.NoRoutine = 16
number_of refusal.OthersPart = 17

-- what a function's answer says: a refusal by its number, or what it gives
abbrev pub says : {A : Type 0} → Result A Refusal → Answer A
says (Ok values) = gives values
says (Err why) = refuses (number_of why)
