-- What the reader meets in a file, in one line: which section, at which byte, what was found and what is allowed.
use Rattle.std.specs.Prelude.{List, [], ◌∷◌, ◌++◌, ℕ, ◌+◌, ◌*◌, length}
use Rattle.plain.specs.Choice.{pick}
use Rattle.plain.specs.Zeros.{padded}
use Rattle.machine.specs.Limits.{most_budget}
use Rattle.numbers.specs.Bytes.{number_at}
use Rattle.numbers.specs.Slices.{inside}
use Rattle.image.specs.Format.{limits, count_width}
use Rattle.image.specs.Judging.{Finding, fails, finds, judged_of}
use Rattle.image.specs.declared.Section.{Section}
use Rattle.image.specs.declared.Section.TheVariants as section
use Rattle.image.specs.declared.Fault.{Fault}
use Rattle.image.specs.declared.Fault.TheVariants.{Cut, Count, Budget, Surplus}
use Rattle.image.specs.declared.Spans.{Spans}
use Rattle.reason.specs.Words.{told}
use Rattle.reason.specs.declared.Line.{Line}

-- the number of 4 bytes that stands at a place, or 0 where the file ends before it does
abbrev pub found_at : List ℕ → ℕ → ℕ
found_at file at = pick (inside count_width file at) (number_at count_width file at) 0

-- the section, and the byte of the file
abbrev pub place_told : Section → ℕ → List ℕ
place_told section.Memory at = told "section 1 (memory), byte #: " (at ∷ [])
place_told section.Cells at = told "section 2 (cells), byte #: " (at ∷ [])
place_told section.Budget at = told "section 3 (budget), byte #: " (at ∷ [])

-- a section that the file ends in: in its count, or in the n elements after it
abbrev pub short_told : List ℕ → List ℕ
short_told file = told "a count of 4 bytes should stand here, and the file has # bytes\n" (length file ∷ [])

abbrev pub missing_told : List ℕ → Section → ℕ → List ℕ
missing_told file s n =
    told "the count # asks for # bytes after it, and the file has # bytes\n" (n ∷ (limits s).width * n ∷ length file ∷ [])

abbrev pub cut_told : List ℕ → Section → ℕ → List ℕ
cut_told file s at = pick (inside count_width file at) (missing_told file s (number_at count_width file at)) (short_told file)

-- a count outside its limits
abbrev pub count_told : List ℕ → Section → ℕ → List ℕ
count_told file s at = told "the count is #, and # to # is allowed\n" (found_at file at ∷ (limits s).fewest ∷ (limits s).most ∷ [])

-- a budget past its limit
abbrev pub budget_told : List ℕ → ℕ → List ℕ
budget_told file at = told "the budget is #, and 0 to # is allowed\n" (found_at file at ∷ most_budget ∷ [])

abbrev pub fault_told : List ℕ → Fault → List ℕ
fault_told file (Cut s at) = place_told s at ++ cut_told file s at
fault_told file (Count s at) = place_told s at ++ count_told file s at
fault_told file (Budget at) = place_told section.Budget at ++ budget_told file at
fault_told file (Surplus at) = told "section 3 (budget) ends before byte #, and nothing may follow it\n" (at ∷ [])

abbrev pub good_told : Spans → List ℕ
good_told spans = told "the image is good; memory bytes: #, cells: #\n" (spans.memory.count ∷ spans.cells.count ∷ [])

abbrev pub finding_told : List ℕ → Finding Spans → List ℕ
finding_told file (fails number fault) = fault_told file fault
finding_told file (finds spans) = good_told spans

-- the one line about a file: of a bad one it tells the clause that the judge says fails first
unfoldable pub reason_of : List ℕ → List ℕ
reason_of file = finding_told file (judged_of file)

-- room for the longest line: for a place, and for what follows it
abbrev pub place_room : ℕ
place_room = 50

abbrev pub clause_room : ℕ
clause_room = 150

abbrev pub room : ℕ
room = place_room + clause_room

-- a line from the start of its room
unfoldable pub line_of : List ℕ → Line
line_of line = record { text = padded room line; count = length line }
