-- What a call answers and leaves in the lent buffer.
use Rattle.std.specs.Prelude.{List, ◌++◌, ℕ, leb, length, drop}
use Rattle.plain.specs.Answer.{Answer, refuses, gives, not_as_asked}
use Rattle.plain.specs.Choice.{pick}
use Rattle.machine.specs.declared.Ran.{Ran}
use Rattle.report.specs.Text.{text_of, refusal_text}
use Rattle.links.specs.Depths.{cells_depth}

-- how long the text is, or the number of the refusal, and the buffer afterwards
pub record Reported : Type 0 where
  pub printed : Answer ℕ
  pub out : List ℕ

-- a buffer too short, or a state that is none
abbrev pub untouched : List ℕ → Reported
untouched out = record { printed = refuses not_as_asked; out = out }

-- the text from the start of the buffer, the rest as it was; a buffer too short is untouched
unfoldable pub printed_in : List ℕ → List ℕ → Reported
printed_in text out =
    pick (leb (length text) (length out))
    (record { printed = gives (length text); out = text ++ drop (length text) out })
    (untouched out)

-- a machine whose P passes its depth has no cells to print
unfoldable pub report_of : Ran → List ℕ → Reported
report_of ran out = pick (leb ran.machine.p cells_depth) (printed_in (text_of ran) out) (untouched out)

unfoldable pub refusal_of : ℕ → List ℕ → Reported
refusal_of number out = printed_in (refusal_text number) out
