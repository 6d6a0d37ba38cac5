-- The whole job: what comes of an image, a lent memory and a lent buffer for the text.
use Rattle.std.specs.Prelude.{List, ◌≡◌, ℕ, eqb}
use Rattle.plain.specs.Answer.{Answer, refuses, gives}
use Rattle.plain.specs.Choice.{pick}
use Rattle.machine.specs.Run.{After, run_of}
use Rattle.image.specs.Loading.{Reading, Read, other_memory}
use Rattle.report.specs.Printing.{Reported, report_of, refusal_of, untouched}

-- the answer, and both lent buffers afterwards
pub record Benched : Type 0 where
  pub printed : Answer ℕ
  pub memory : List ℕ
  pub out : List ℕ

abbrev pub with : List ℕ → Reported → Benched
with memory reported = record { printed = reported.printed; memory = memory; out = reported.out }

-- the text of a run, and the memory as the run left it, even where the buffer is too short for the text
abbrev pub after_run : After → List ℕ → Benched
after_run after out = with after.memory (report_of after.ran out)

-- by what the reader says: a good image is run; a memory of another length has no text; any other refusal is printed
abbrev pub after_read : Answer (Unit {0}) → Reading → List ℕ → Benched
after_read (gives _) read out = after_run (run_of read.memory read.returned.machine read.returned.budget) out
after_read (refuses number) read out = with read.memory (pick (eqb number other_memory) (untouched out) (refusal_of number out))

unfoldable pub bench_of : Reading → List ℕ → Benched
bench_of read out = after_read read.returned.says read out

-- `Benches image memory out done`: the image is read into the memory, and what was read is run and printed
pub record Benches (image memory out : List ℕ) (done : Benched) : Type 0 where
  pub reading : Reading
  pub is_read : Read image memory reading.memory reading.returned
  pub comes-to : done ≡ bench_of reading out
