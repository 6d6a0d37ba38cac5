-- Too few cells is test 5; else the stores are those of the row.
use native.Mathlib.Omega.{arith}
use Rattle.run_words.specs.Laws.Shuffles.{nip-few, nip-went}
use borrow.Author.Rules.{rules}
use Rattle.run_cells.proofs.cells.nip.Goals as goal

pub returns-then-p-lt2 : goal.returns-then-p-lt2
returns-then-p-lt2 c = λ operand. nip-few operand c.args.next c.args.cells.now c.args.p c.args.flag c.if-p-lt2.true

pub returns : goal.returns
returns c = λ operand. nip-went operand c.args.next c.args.cells.now c.args.p c.args.flag (omega arith) (omega arith)
