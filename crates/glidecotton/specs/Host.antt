-- The same job for a host, which takes one number for an answer.
use Rattle.std.specs.Prelude.{List, ◌≡◌, ℕ}
use Rattle.plain.specs.Answer.{Answer, refuses, gives}
use Rattle.glidecotton.specs.Bench.{Benched, Benches}

-- how long the text is, or the number of the refusal
abbrev pub number_of : Answer ℕ → ℕ
number_of (gives count) = count
number_of (refuses number) = number

-- the number, and both lent buffers afterwards
pub record Hosted : Type 0 where
  pub number : ℕ
  pub memory : List ℕ
  pub out : List ℕ

abbrev pub hosted : Benched → Hosted
hosted done = record { number = number_of done.printed; memory = done.memory; out = done.out }

-- `Hosts image memory out answer`: it is a bench's, its answer as a number
pub record Hosts (image memory out : List ℕ) (answer : Hosted) : Type 0 where
  pub done : Benched
  pub benched : Benches image memory out done
  pub same : answer ≡ hosted done
