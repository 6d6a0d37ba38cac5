-- How long a run's text is: the buffer that a caller needs.
use Rattle.std.specs.Prelude.{Bool, true, false, List, [], ◌∷◌, ◌++◌, ◌≡◌, refl, ℕ, ◌+◌, ◌*◌, ◌≤◌, leb, length, take, drop}
use Rattle.std.proofs.Common.{◌∙◌, arith, length-append, length-take, leb-true, le-leb}
use Rattle.plain.specs.Answer.{gives}
use Rattle.plain.specs.Choice.{both}
use Rattle.numbers.specs.Digits.{decimal, hexadecimal}
use Rattle.numbers.specs.Laws.Digits.{decimal-short, decimal-some, length-hexadecimal}
use Rattle.machine.specs.State.{well_formed}
use Rattle.machine.specs.declared.Ran.{Ran}
use Rattle.report.specs.Text.{space, line_feed, field, line, cell_digits, cell_line, cell_lines, numbers_of, text_of, refusal_text}
use Rattle.report.specs.Sizes.{longest_field, cell_size, longest}
use Rattle.links.specs.Depths.{cells_depth}
use Rattle.report.specs.Printing.{printed_in, report_of, refusal_of}

pub field-size : (n end : ℕ) → (2 ≤ length (field n end)) × (length (field n end) ≤ longest_field)
unfolding field
field-size n end = omega (arith, length-append (decimal n) (end ∷ []), decimal-some n, decimal-short n)

line-size : (ns : List ℕ) → (2 * length ns ≤ length (line ns)) × (length (line ns) ≤ length ns * longest_field)
unfolding line
line-size [] = omega arith
line-size (n ∷ []) = let size = field-size n line_feed in omega arith
line-size (n ∷ m ∷ ns) =
    let size = field-size n space in
    let rest = line-size (m ∷ ns) in
    let long : length (field n space ++ line (m ∷ ns)) ≡ length (field n space) + length (line (m ∷ ns)) = length-append (field n space) (line (m ∷ ns)) in
    omega arith

pub length-cell-line : (v : ℕ) → length (cell_line v) ≡ cell_size
unfolding cell_line
length-cell-line v =
    let digits : length (hexadecimal cell_digits v) ≡ cell_digits = length-hexadecimal cell_digits v in
    length-append (hexadecimal cell_digits v) (line_feed ∷ []) ∙ omega arith

pub cells-size : (vs : List ℕ) → length (cell_lines vs) ≡ length vs * cell_size
unfolding cell_lines
cells-size [] = refl
cells-size (v ∷ vs) =
    let one : length (cell_line v) ≡ cell_size = length-cell-line v in
    let rest : length (cell_lines vs) ≡ length vs * cell_size = cells-size vs in
    length-append (cell_line v) (cell_lines vs) ∙ omega arith

-- every run's text fits the longest: the constant LONGEST of the code
pub text-size : (ran : Ran) → ran.machine.p ≤ cells_depth → (20 ≤ length (text_of ran)) × (length (text_of ran) ≤ longest)
unfolding text_of
text-size ran h =
    let cells = take ran.machine.p ran.machine.cells in
    let first = line-size (numbers_of ran) in
    let rest : length (cell_lines cells) ≡ length cells * cell_size = cells-size cells in
    let few = length-take ran.machine.p ran.machine.cells in
    let long : length (line (numbers_of ran) ++ cell_lines cells) ≡ length (line (numbers_of ran)) + length (cell_lines cells) = length-append (line (numbers_of ran)) (cell_lines cells) in
    omega arith

both_first : (a b : Bool) → both a b ≡ true → a ≡ true
both_first true b h = refl
both_first false b h = h

pub well-formed-size : (ran : Ran) → well_formed ran.machine ≡ true → (20 ≤ length (text_of ran)) × (length (text_of ran) ≤ longest)
unfolding well_formed
well-formed-size ran h = text-size ran (leb-true _ _ (both_first (leb ran.machine.p cells_depth) _ h))

-- so a buffer of the longest text's length is never too short
fitting : (text out : List ℕ) → length text ≤ length out → printed_in text out ≡ record { printed = gives (length text); out = text ++ drop (length text) out }
unfolding printed_in
fitting text out h = simp (le-leb (length text) (length out) h)

pub longest-suffices : (ran : Ran) (out : List ℕ) → ran.machine.p ≤ cells_depth → longest ≤ length out
    → report_of ran out ≡ record { printed = gives (length (text_of ran)); out = text_of ran ++ drop (length (text_of ran)) out }
unfolding report_of
longest-suffices ran out few room =
    let size = text-size ran few in
    simp (le-leb ran.machine.p cells_depth few) (fitting (text_of ran) out (omega arith))

pub refusal-fits : (number : ℕ) (out : List ℕ) → longest ≤ length out
    → refusal_of number out ≡ record { printed = gives (length (refusal_text number)); out = refusal_text number ++ drop (length (refusal_text number)) out }
unfolding refusal_of refusal_text
refusal-fits number out room =
    let size = field-size number line_feed in
    fitting (field number line_feed) out (omega arith)
