-- The linked stacks, an instruction and a result, each made of its parts.
use Rattle.std.specs.Prelude.{List, ℕ}
use Rattle.links.specs.declared.Frame.{Frame}
use Rattle.links.specs.declared.Level.{Level}
use Rattle.links.specs.declared.Links.{Links}
use Rattle.machine.specs.Reach.{none}
use Rattle.machine.specs.Fetch.{Instruction}
use Rattle.machine.specs.declared.Machine.{Machine}
use Rattle.machine.specs.declared.Steps.{Steps}
use Rattle.machine.specs.declared.Cycles.{Cycles}
use Rattle.machine.specs.declared.Ran.{Ran}
use Rattle.machine.specs.declared.Reach.{Reach}

abbrev pub links_of : List ℕ → ℕ → List Frame → ℕ → List Level → ℕ → Links
links_of returns r frames s levels e =
    record { returns = returns; r = r; frames = frames; s = s; levels = levels; e = e }

-- a machine with other parameter cells, depth, counter and flag
abbrev pub with_stack : List ℕ → ℕ → ℕ → ℕ → Machine → Machine
with_stack cells p counter flag m = record { cells = cells; p = p; links = m.links; counter = counter; flag = flag; thrown = m.thrown; lines = m.lines }

-- an instruction all of whose bytes may be read
abbrev pub in_reach : Reach → ℕ → ℕ → ℕ → Instruction
in_reach reach code operand next = record { code = code; operand = operand; next = next; reach = reach; bar = none }

abbrev pub ran_of : ℕ → Steps → Cycles → Machine → Ran
ran_of answer steps cycles machine = record { answer = answer; steps = steps; cycles = cycles; machine = machine }
