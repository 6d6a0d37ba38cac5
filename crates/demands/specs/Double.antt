-- Sums and differences of double length, as word writers make them: one code on the low cells, any that leave the flag, one on the high cells.
use Rattle.std.specs.Prelude.{◌≡◌, ℕ}
use Rattle.word.specs.Double.{double}
use Rattle.machine.specs.Rows.{top, second}
use Rattle.machine.specs.Step.{done, step_of}
use Rattle.machine.specs.declared.Reach.{Reach}
use Rattle.demands.specs.History.{World, code_at, History, LeavesBytes}
use Rattle.demands.specs.Flag.{NoneMoves}

-- one code is carried out at a and leads to b; from there none moves the flag until c; there the other code is carried out and leads to d
pub record LowThenHigh (low_code high_code : ℕ) (a b c d : World) : Type 0 where
  pub low-code : code_at a ≡ low_code
  pub low-reach : Reach
  pub low-cost : ℕ
  pub low-done : step_of low-reach a.memory a.machine ≡ done b.memory b.machine low-cost
  pub between : History b c
  pub none_moves : NoneMoves between
  pub leaves-bytes : LeavesBytes between
  pub high-code : code_at c ≡ high_code
  pub high-reach : Reach
  pub high-cost : ℕ
  pub high-done : step_of high-reach c.memory c.machine ≡ done d.memory d.machine high-cost

-- the number whose low cell is on top at w and whose high cell is on top at v: an operand before the two codes, the result after them;
-- and the operand under it
abbrev pub on_top : World → World → ℕ
on_top w v = double (top w.machine) (top v.machine)

abbrev pub deeper : World → World → ℕ
deeper w v = double (second w.machine) (second v.machine)
