-- Document 01's sample, with the two numbers of request P6: the run's text, byte by byte, and the text of refusal 14.
use Rattle.std.specs.Prelude.{[], ◌∷◌, ◌≡◌, refl, replicate}
use Rattle.links.specs.Fresh.{fresh_links}
use Rattle.machine.specs.Lines.{no_lines}
use Rattle.machine.specs.State.{no_throw}
use Rattle.machine.specs.declared.Ran.{Ran}
use Rattle.numbers.specs.Digits.{digits, decimal, hexadecimal}
use Rattle.report.specs.Text.{field, line, cell_line, cell_lines, text_of, refusal_text}

abbrev pub sample_ran : Ran
sample_ran =
    record {
      answer = 0;
      steps = record { 0 = 3 };
      cycles = record { 0 = 5 };
      machine = record { cells = 0x0C ∷ replicate 63 0; p = 1; links = fresh_links; counter = 5; flag = 0; thrown = no_throw; lines = no_lines };
    }

pub sample-text : text_of sample_ran ≡
    0x30 ∷ 0x20 ∷ 0x33 ∷ 0x20 ∷ 0x35 ∷ 0x20 ∷ 0x35 ∷ 0x20 ∷ 0x31 ∷ 0x20 ∷ 0x30 ∷ 0x20 ∷ 0x30 ∷ 0x20 ∷ 0x30 ∷ 0x20 ∷
    0x30 ∷ 0x20 ∷ 0x30 ∷ 0x0A ∷
    0x30 ∷ 0x30 ∷ 0x30 ∷ 0x30 ∷ 0x30 ∷ 0x30 ∷ 0x30 ∷ 0x43 ∷ 0x0A ∷ []
unfolding fresh_links digits decimal hexadecimal field line cell_line cell_lines text_of
sample-text = refl

pub sample-refusal : refusal_text 14 ≡ 0x31 ∷ 0x34 ∷ 0x0A ∷ []
unfolding digits decimal field refusal_text
sample-refusal = refl
