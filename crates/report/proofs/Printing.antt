-- A text that fits the buffer; the text of a run and that of a refused image, from the lines that were put.
use mathlib.Core.List.{List, ◌++◌}
use mathlib.Core.Path.{◌≡◌, sym, ap, subst, ◌∙◌}
use Prim.Native.Nat.{ℕ, ◌≤◌}
use native.Mathlib.Omega.{arith}
use lib.ListN.{length, take, drop}
use lib.Seq.{length-take-le}
use borrow.Author.Tests.{le-leb}
use Rattle.plain.specs.Answer.{gives}
use Rattle.numbers.specs.Putting.{Appended}
use Rattle.numbers.specs.Laws.Putting.{appended_then, appended-text}
use Rattle.machine.specs.declared.Ran.{Ran}
use Rattle.report.specs.Text.{line_feed, field, line, cell_lines, numbers_of, text_of, refusal_text}
use Rattle.report.specs.Sizes.{longest_field, longest}
use Rattle.links.specs.Depths.{cells_depth}
use Rattle.report.specs.Printing.{Reported, printed_in, report_of, refusal_of}
use Rattle.report.specs.Laws.Size.{field-size, text-size}

module _ (text : List ℕ) (count : ℕ) (before : List ℕ) (within : count ≤ length text) where
  pub printed-text : (copied : List ℕ) → count ≤ length before → copied ≡ take count text
      → record { printed = gives count; out = copied ++ drop count before } ≡ printed_in (take count text) before
  unfolding printed_in
  printed-text copied h is =
      let long : length (take count text) ≡ count = length-take-le count text within in
      simp (le-leb (length (take count text)) (length before) (omega arith))
      (λ i. record { printed = gives (sym long i); out = is i ++ drop (sym long i) before })

pub refusal_printed : (number : ℕ) (out l m : List ℕ) (end : ℕ) (reported : Reported) → length l ≡ longest_field
    → Appended l 0 (field number line_feed) m end → reported ≡ printed_in (take end m) out → reported ≡ refusal_of number out
unfolding refusal_of refusal_text
refusal_printed number out l m end reported room added is =
    let size = field-size number line_feed in
    is ∙ ap (λ (t : List ℕ). printed_in t out) (appended-text added (omega arith))

pub run_printed : (ran : Ran) (out numbers l m k : List ℕ) (first end : ℕ) (reported : Reported) → ran.machine.p ≤ cells_depth
    → numbers ≡ numbers_of ran → length l ≡ longest → Appended l 0 (line numbers) m first
    → Appended m first (cell_lines (take ran.machine.p ran.machine.cells)) k end → reported ≡ printed_in (take end k) out → reported ≡ report_of ran out
unfolding text_of report_of
run_printed ran out numbers l m k first end reported few are room first-line cells is =
    let size = text-size ran few in
    let starts : Appended l 0 (line (numbers_of ran)) m first = subst (λ (ns : List ℕ). Appended l 0 (line ns) m first) are first-line in
    is ∙ ap (λ (t : List ℕ). printed_in t out) (appended-text (appended_then starts cells) (omega arith)) ∙ simp (le-leb _ _ few)
