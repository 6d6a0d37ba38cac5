-- C0 and above is BRA, 80 and above BEQ.
use Prim.Native.Nat.{◌≤◌, ◌<◌}
use native.Mathlib.Omega.{arith}
use borrow.Author.Tests.{lt-ltb, le-ltb}
use Rattle.machine.specs.Codes.{entry_at}
use borrow.Author.Rules.{rules}
use Rattle.run_cells.proofs.dispatch.branches.Goals as goal

pub returns-then-code-gt191 : goal.returns-then-code-gt191
unfolding entry_at
returns-then-code-gt191 c = c.branch-cells.ensures c.args.code (let low : 0x80 ≤ c.args.code = omega arith in let from80 = le-ltb c.args.code 0x80 low in let from_c0 = (le-ltb c.args.code 0xC0 c.if-code-gt191.true) in record { known = rw (from80, from_c0); names = rw (from80, from_c0); asks = rw (from80, from_c0) })

pub returns : goal.returns
unfolding entry_at
returns c = let high : c.args.code < 0xC0 = omega arith in c.branch_on_zero.ensures c.args.code (let low : 0x80 ≤ c.args.code = omega arith in let from80 = le-ltb c.args.code 0x80 low in let from_c0 = (lt-ltb c.args.code 0xC0 high) in record { known = rw (from80, from_c0); names = rw (from80, from_c0); asks = rw (from80, from_c0) })
