-- What is wrong with a file, from its front: the first clause of document 01's list that fails, and the byte where it does.
use Rattle.std.specs.Prelude.{Bool, List, ◌≡◌, ℕ, ◌+◌, ◌*◌, leb, ltb, length, Result, Ok, Err}
use Rattle.plain.specs.Choice.{pick, both}
use Rattle.plain.specs.Answer.{Answer, refuses, gives}
use Rattle.machine.specs.Limits.{most_budget}
use Rattle.numbers.specs.Bytes.{number_at}
use Rattle.numbers.specs.Lists.{list_at}
use Rattle.numbers.specs.Slices.{inside}
use Rattle.image.specs.Format.{Image, Spellable, spelled, limits, count_width, budget_of}
use Rattle.image.specs.declared.Section.{Section}
use Rattle.image.specs.declared.Section.TheVariants as section
use Rattle.image.specs.declared.Fault.{Fault}
use Rattle.image.specs.declared.Fault.TheVariants as fault
use Rattle.image.specs.declared.Span.{Span}
use Rattle.image.specs.declared.Spans.{Spans}

-- the number of a file that is not as document 01 says
abbrev pub bad_file : ℕ
bad_file = 14

-- a judge fails a file, with a number, the clause that it does not meet and the place; or finds what it holds
pub data Finding (A : Type 0) : Type 0 where
  fails : ℕ → Fault → Finding A
  finds : A → Finding A

abbrev pub answer_of : {A : Type 0} → Finding A → Answer A
answer_of (fails number fault) = refuses number
answer_of (finds x) = gives x

-- what an answer about a file says
abbrev pub says_judged : Result Spans Fault → Finding Spans
says_judged (Err fault) = fails bad_file fault
says_judged (Ok spans) = finds spans

abbrev pub count_allowed : Section → ℕ → Bool
count_allowed s n = both (leb (limits s).fewest n) (leb n (limits s).most)

-- the elements of a section of n that begins at a place
abbrev pub span_of : Section → ℕ → ℕ → Span
span_of s at n = record { from = at + count_width; count = n; to = at + count_width + (limits s).width * n }

-- n elements that the file has, or is cut before their end
abbrev pub elements_at : List ℕ → Section → ℕ → ℕ → Finding Span
elements_at file s at n = pick (leb (span_of s at n).to (length file)) (finds (span_of s at n)) (fails bad_file (fault.Cut s at))

-- a section that begins at a place: its count has to be there and within the limits, and its elements have to be there
unfoldable pub span_at : List ℕ → Section → ℕ → Finding Span
span_at file s at =
    pick (inside count_width file at)
    (pick (count_allowed s (number_at count_width file at)) (elements_at file s at (number_at count_width file at)) (fails bad_file (fault.Count s at)))
    (fails bad_file (fault.Cut s at))

-- the values that a section holds
abbrev pub values_in : List ℕ → Section → Span → List ℕ
values_in file s span = list_at (limits s).width span.count file span.from

-- after the last section: the budget has to be within its limit, and the file has to end
unfoldable pub end_judged : List ℕ → Spans → Finding Spans
end_judged file spans =
    pick (ltb most_budget (budget_of (values_in file section.Budget spans.budget))) (fails bad_file (fault.Budget spans.budget.from))
    (pick (ltb spans.budget.to (length file)) (fails bad_file (fault.Surplus spans.budget.to)) (finds spans))

-- goes on after a whole section
abbrev pub and_then : {A B : Type 0} → Finding A → (A → Finding B) → Finding B
and_then (fails number fault) next = fails number fault
and_then (finds x) next = next x

-- section after section, each where the one before it ends
unfoldable pub judged_of : List ℕ → Finding Spans
judged_of file =
    and_then (span_at file section.Memory 0) λ memory.
    and_then (span_at file section.Cells memory.to) λ cells.
    and_then (span_at file section.Budget cells.to) λ budget.
    end_judged file (record { memory = memory; cells = cells; budget = budget })

-- where the sections of an image's file stand
abbrev pub memory_span : Image → Span
memory_span i = span_of section.Memory 0 (length i.memory)

abbrev pub cells_span : Image → Span
cells_span i = span_of section.Cells (memory_span i).to (length i.cells)

abbrev pub budget_span : Image → Span
budget_span i = span_of section.Budget (cells_span i).to (length i.budget)

abbrev pub spans_of : Image → Spans
spans_of i = record { memory = memory_span i; cells = cells_span i; budget = budget_span i }

-- `Says file answer`: a file that spells an image gives its sections, any other is 14
pub data Says (file : List ℕ) : Answer Spans → Type 0 where
  spells : (i : Image) → Spellable i → spelled i ≡ file → Says file (gives (spans_of i))
  spells-none : ((i : Image) → Spellable i → spelled i ≡ file → ⊥) → Says file (refuses bad_file)

-- `Judges file judged`: the answer, and for a bad file the first clause that fails and its place
pub record Judges (file : List ℕ) (judged : Result Spans Fault) : Type 0 where
  pub answer : Says file (answer_of (says_judged judged))
  pub clause : says_judged judged ≡ judged_of file
