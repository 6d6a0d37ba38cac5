-- An instruction has from one to five bytes.
use Rattle.std.specs.Prelude.{ℕ, ◌≤◌, leb}
use Rattle.std.proofs.Common.{arith, leb→le}
use Rattle.machine.specs.Codes.{Operand, none, number, offset, bytes_with, table, entry_at}
use Rattle.machine.proofs.Laws.Tables.{Everywhere, at-code}

pub a_byte : (kind : Operand) → 1 ≤ bytes_with kind
a_byte none = omega arith
a_byte (number bytes) = omega arith
a_byte offset = omega arith

short : Everywhere (λ code e. leb (bytes_with e.operand) 5)
unfolding table
short = record { in_table = tt; past = λ code. tt; branches = λ code. (tt, tt) }

pub five-bytes : (code : ℕ) → bytes_with (entry_at code).operand ≤ 5
five-bytes code = leb→le (bytes_with (entry_at code).operand) 5 (at-code (λ code e. leb (bytes_with e.operand) 5) short code)
