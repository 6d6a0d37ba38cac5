-- One instruction: refused with a number, or carried out.
use Rattle.std.specs.Prelude.{List, [], ◌∷◌, ℕ, ◌+◌, eqb, length}
use Rattle.std.proofs.lemmas.List.Edits.{sets}
use Rattle.plain.specs.Choice.{pick, both}
use Rattle.links.specs.Actions.{Act, still, push, call, catch, exit, pop, throw, keep, reset, act}
use Rattle.machine.specs.Codes.{entry_at, cycles_of}
use Rattle.machine.specs.Fetch.{Instruction, instruction_at}
use Rattle.machine.specs.Rows.{Row, row_of, top}
use Rattle.machine.specs.Checks.{Test, tests}
use Rattle.machine.specs.Lines.{released}
use Rattle.machine.specs.declared.LastThrow.{LastThrow}
use Rattle.machine.specs.declared.Machine.{Machine}
use Rattle.machine.specs.declared.Reach.{Reach}

pub data Stepped : Type 0 where
  -- the answer number, 0 at the end of the program; nothing is altered
  refused : ℕ → Stepped
  -- the memory and the machine afterwards, and the instruction's clock cycles
  done : List ℕ → Machine → ℕ → Stepped

-- request P6: THROW of non-zero notes its own address and the number thrown; everything else keeps what was noted last
abbrev pub noted : Act → Machine → LastThrow
noted still m = m.thrown
noted (push x) m = m.thrown
noted (call address) m = m.thrown
noted (catch address p) m = m.thrown
noted exit m = m.thrown
noted pop m = m.thrown
noted throw m = record { address = m.counter; code = top m }
noted (keep locals cells) m = m.thrown
noted reset m = m.thrown

-- the machine after a row: its cells put, its links acted on, its counter and flag as the row says, a THROW noted, and the block
-- released where the row says so
abbrev pub put : Row → Machine → Machine
put row m =
    record {
      cells = sets m.cells row.keeps row.puts;
      p = row.keeps + length row.puts;
      links = act row.link m.links;
      counter = row.goes;
      flag = row.flag;
      thrown = noted row.link m;
      lines = pick row.releases (released m.lines) m.lines;
    }

-- the cycle table's one exception
abbrev pub cycles_of_throw_of_zero : ℕ
cycles_of_throw_of_zero = 1

-- the cycle table's count, but for THROW of 0
abbrev pub cost_of : Instruction → Machine → ℕ
cost_of i m = pick (both (eqb i.code 0x0D) (eqb (top m) 0)) cycles_of_throw_of_zero (cycles_of i.code)

-- refused by the first test that holds
abbrev pub unless : List Test → Stepped → Stepped
unless [] result = result
unless (t ∷ ts) result = pick t.holds (refused t.number) (unless ts result)

-- an instruction whose row is known
abbrev pub carry : Instruction → Row → Machine → Stepped
carry i row m = unless (tests i m row) (done row.memory (put row m) (cost_of i m))

-- an instruction that was fetched
unfoldable pub carried : Instruction → List ℕ → Machine → Stepped
carried i mem m = carry i (row_of i mem m (entry_at i.code).op) m

-- the row of the instruction at the program counter, and the tests before it
abbrev pub row_at : Reach → List ℕ → Machine → Row
row_at reach mem m = row_of (instruction_at reach mem m.counter) mem m (entry_at (instruction_at reach mem m.counter).code).op

abbrev pub tests_at : Reach → List ℕ → Machine → List Test
tests_at reach mem m = tests (instruction_at reach mem m.counter) m (row_at reach mem m)

-- the instruction at the program counter is carried out under a reach, or refused
unfoldable pub step_of : Reach → List ℕ → Machine → Stepped
step_of reach mem m = carried (instruction_at reach mem m.counter) mem m
