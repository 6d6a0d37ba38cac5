-- What stands in a row behind those of the levels.
use Rattle.std.specs.Prelude.{ℕ}
use Rattle.machine.specs.declared.LastThrow.{LastThrow}
use Rattle.machine.specs.declared.Lines.{Lines}

-- what belongs to the machine: the last THROW and the interrupt lines
pub record Aside : Type 0 where
  pub thrown : LastThrow
  pub lines : Lines

-- and what the run keeps: what the memory lost, modulo 2^32, and whether a line might enter
pub record Note : Type 0 where
  pub aside : Aside
  pub lost : ℕ
  pub heeds : ℕ

abbrev pub aside_of : LastThrow → Lines → Aside
aside_of thrown lines = record { thrown = thrown; lines = lines }

abbrev pub note_of : Aside → ℕ → ℕ → Note
note_of aside lost heeds = record { aside = aside; lost = lost; heeds = heeds }

abbrev pub with_thrown : LastThrow → Note → Note
with_thrown thrown n = note_of (aside_of thrown n.aside.lines) n.lost n.heeds

abbrev pub with_lines : Lines → Note → Note
with_lines lines n = note_of (aside_of n.aside.thrown lines) n.lost n.heeds

abbrev pub with_lost : ℕ → Note → Note
with_lost lost n = note_of n.aside lost n.heeds

abbrev pub heeding : Note → Note
heeding n = note_of n.aside n.lost 1
