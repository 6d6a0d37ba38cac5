-- What the answers of the run's functions say, beside what every answer says (`says` in machine/specs/Refusals.antt).
use Rattle.std.specs.Prelude.{Result, Ok, Err}
use Rattle.plain.specs.Answer.{Answer, refuses, gives}
use Rattle.machine.specs.Fetch.{Instruction}
use Rattle.machine.specs.Refusals.{number_of}
use Rattle.machine.specs.Step.{Stepped, refused}
use Rattle.machine.specs.declared.refusal.Refusal.{Refusal}
use Rattle.machine.specs.declared.Reach.{Reach}
use Rattle.run_words.specs.Machines.{in_reach}
use Rattle.run_words.specs.declared.Fetched.{Fetched}
use Rattle.run_words.specs.declared.Exit.{Exit}
use Rattle.run_words.specs.declared.Exit.TheVariants as exit

-- whoever fetches it
abbrev pub says_fetched : Result Fetched Refusal → Reach → Answer Instruction
says_fetched (Ok i) reach = gives (in_reach reach i.code i.operand i.next)
says_fetched (Err why) reach = refuses (number_of why)

-- the end of the program
abbrev pub says_exit : Exit → Answer (Unit {0})
says_exit exit.Frame = gives tt
says_exit exit.Program = refuses 0

-- what an answer means for the step: refused with its number, or what follows from its values
abbrev pub step_by : {A : Type 0} → Answer A → (A → Stepped) → Stepped
step_by (refuses number) after = refused number
step_by (gives values) after = after values
