-- A run of what an image spells, by way of the bytes that the reader hands out.
use Rattle.std.specs.Prelude.{List, ◌≡◌, ℕ}
use Rattle.plain.specs.Answer.{gives}
use Rattle.numbers.specs.Bytes.{number_at}
use Rattle.machine.specs.Sum.{run_summed}
use Rattle.image.specs.Loading.{Reading, Read}
use Rattle.host.specs.Handed.{handed_back}
use Rattle.state.specs.Lent.{Lent}

-- `RunsRead image memory budget sum ran`: the image is good, and what is handed back is the run of what it spells, with this sum
pub record RunsRead (image memory : List ℕ) (budget sum : ℕ) (ran : Lent) : Type 0 where
  pub reading : Reading
  pub is_read : Read image memory reading.memory reading.returned
  pub good : reading.returned.says ≡ gives tt
  pub runs : ran ≡ handed_back (run_summed reading.memory reading.returned.machine budget sum)

-- the sum that the reader's result tells, in its bytes from 8 on
abbrev pub sum_read : Lent → ℕ
sum_read out = number_at 8 out.result 8
