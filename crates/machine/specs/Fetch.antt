-- The instruction at the program counter: its code, its operand and the address of the following instruction.
use Rattle.std.specs.Prelude.{List, ℕ, ◌+◌, ◌-◌, ◌*◌, ◌/◌, ◌%◌, ◌^◌}
use Rattle.numbers.specs.Bytes.{byte_at, number_at}
use Rattle.machine.specs.Reach.{Bar, bar_of}
use Rattle.machine.specs.Codes.{Operand, none, number, offset, bytes_with, Entry, entry_at}
use Rattle.machine.specs.declared.Reach.{Reach}

pub record Instruction : Type 0 where
  pub code : ℕ
  pub operand : ℕ
  pub next : ℕ
  -- who carries it out, and what bars its bytes
  pub reach : Reach
  pub bar : Bar

-- a 14-bit two's complement offset as a 32-bit number: the sign bit is worth 2^32 - 2^14 more
abbrev pub extended : ℕ → ℕ
extended n = n + n / 2 ^ 13 * (2 ^ 32 - 2 ^ 14)

-- a branch's offset: the low 6 bits of its first byte, then its second byte
abbrev pub offset_at : List ℕ → ℕ → ℕ
offset_at mem a = byte_at mem a % 2 ^ 6 * 2 ^ 8 + byte_at mem (a + 1)

-- a branch's target, from the following instruction
abbrev pub target_at : List ℕ → ℕ → ℕ
target_at mem a = ((a + 2) + extended (offset_at mem a)) % 2 ^ 32

-- the number that follows a code, big endian; a branch's target; 0 where there is none
abbrev pub operand_at : Operand → List ℕ → ℕ → ℕ
operand_at none mem a = 0
operand_at (number bytes) mem a = number_at bytes mem (a + 1)
operand_at offset mem a = target_at mem a

-- a code with its entry, at an address; addresses of instructions wrap
abbrev pub instruction : ℕ → Entry → Reach → List ℕ → ℕ → Instruction
instruction code e reach mem a =
    record {
      code = code;
      operand = operand_at e.operand mem a;
      next = (a + bytes_with e.operand) % 2 ^ 32;
      reach = reach;
      bar = bar_of reach a (bytes_with e.operand);
    }

unfoldable pub instruction_at : Reach → List ℕ → ℕ → Instruction
instruction_at reach mem a = instruction (byte_at mem a) (entry_at (byte_at mem a)) reach mem a
