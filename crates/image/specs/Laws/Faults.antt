-- Every bad file is 14, and its fault has its place in the file or at its end.
use Rattle.std.specs.Prelude.{Bool, List, ◌≡◌, ℕ, ◌≤◌, leb, length}
use Rattle.std.proofs.Math.Bool.{true, false}
use Rattle.std.proofs.Math.Path.{refl}
use Rattle.std.proofs.Common.{ap, ◌∙◌, le_of_lt, arith, ltb-true}
use Rattle.std.proofs.Math.Dec.{ltb}
use Rattle.plain.specs.Choice.{pick}
use Rattle.machine.specs.Limits.{most_budget}
use Rattle.numbers.specs.Bytes.{number_at}
use Rattle.numbers.specs.Slices.{inside}
use Rattle.image.specs.Format.{count_width, budget_of}
use Rattle.image.specs.Judging.{bad_file, Finding, fails, finds, count_allowed, span_of, span_at, values_in, end_judged, and_then, judged_of}
use Rattle.image.specs.Laws.Section.{whole-at, elements-inside}
use Rattle.image.specs.Laws.Sound.{spans_from, after_cells, after_memory}
use Rattle.image.specs.declared.Section.{Section}
use Rattle.image.specs.declared.Section.TheVariants.{Memory, Cells, Budget}
use Rattle.image.specs.declared.Fault.{Fault}
use Rattle.image.specs.declared.Fault.TheVariants as fault
use Rattle.image.specs.declared.Span.{Span}
use Rattle.image.specs.declared.Spans.{Spans}

abbrev pub place_of : Fault → ℕ
place_of (fault.Cut s at) = at
place_of (fault.Count s at) = at
place_of (fault.Budget at) = at
place_of (fault.Surplus at) = at

-- a fault of this number, no further than a place
pub record Placed (limit number : ℕ) (f : Fault) : Type 0 where
  pub fourteen : number ≡ bad_file
  pub place : place_of f ≤ limit

placed : {A : Type 0} (limit number : ℕ) (f g : Fault) → place_of g ≤ limit → ◌≡◌ {A = Finding A} (fails bad_file g) (fails number f) → Placed limit number f
placed limit number f g low e =
    let same : place_of g ≡ place_of f = ap place_of (let h : g ≡ f = cc in h) in
    record { fourteen = cc; place = omega arith }

never : {A B : Type 0} {x : A} {number : ℕ} {f : Fault} → finds x ≡ fails number f → B
never e = absurd (let z : ◌≡◌ {A = ℕ} 0 1 = cc in omega arith)

-- a section's fault is handed on as the file's
carried : (n number : ℕ) (g f : Fault) → ◌≡◌ {A = Finding Spans} (fails n g) (fails number f) → ◌≡◌ {A = Finding Span} (fails n g) (fails number f)
carried n number g f e =
    let same_number : n ≡ number = cc in
    let same-fault : g ≡ f = cc in
    cc

-- a section's fault stands where the section begins
section-fault : (file : List ℕ) (s : Section) (at number : ℕ) (f : Fault) → at ≤ length file → span_at file s at ≡ fails number f → Placed (length file) number f
unfolding span_at
section-fault file s at number f low =
    by_tests (inside count_width file at) (count_allowed s (number_at count_width file at)) (leb (span_of s at (number_at count_width file at)).to (length file))
    (span_of s at (number_at count_width file at))
  where
    by_tests : (a b c : Bool) (span : Span)
        → pick a (pick b (pick c (finds span) (fails bad_file (fault.Cut s at))) (fails bad_file (fault.Count s at))) (fails bad_file (fault.Cut s at)) ≡ fails number f
        → Placed (length file) number f
    by_tests true true true span e = never e
    by_tests true true false span e = placed (length file) number f (fault.Cut s at) low e
    by_tests true false c span e = placed (length file) number f (fault.Count s at) low e
    by_tests false b c span e = placed (length file) number f (fault.Cut s at) low e

module _ (file : List ℕ) (number : ℕ) (f : Fault) where
  at-the-end : (spans : Spans) → spans.budget.from ≤ length file → end_judged file spans ≡ fails number f → Placed (length file) number f
  unfolding end_judged
  at-the-end spans low = by_tests (ltb most_budget (budget_of (values_in file Budget spans.budget))) (ltb spans.budget.to (length file)) refl
    where
      by_tests : (a b : Bool) → ltb spans.budget.to (length file) ≡ b
          → pick a (fails bad_file (fault.Budget spans.budget.from)) (pick b (fails bad_file (fault.Surplus spans.budget.to)) (finds spans)) ≡ fails number f
          → Placed (length file) number f
      by_tests true b h e = placed (length file) number f (fault.Budget spans.budget.from) low e
      by_tests false true h e = placed (length file) number f (fault.Surplus spans.budget.to) (le_of_lt (ltb-true spans.budget.to (length file) h)) e
      by_tests false false h e = never e

  in-budget : (memory cells : Span) → cells.to ≤ length file → (m : Finding Span) → span_at file Budget cells.to ≡ m
      → and_then m (λ (budget : Span). end_judged file (spans_from file memory cells budget)) ≡ fails number f → Placed (length file) number f
  in-budget memory cells low (fails n g) is e = section-fault file Budget cells.to number f low (is ∙ carried n number g f e)
  in-budget memory cells low (finds budget) is e =
      let lies = elements-inside file Budget cells.to budget (whole-at file Budget cells.to budget is) in
      at-the-end (spans_from file memory cells budget) (omega arith) e

  in_cells : (memory : Span) → memory.to ≤ length file → (m : Finding Span) → span_at file Cells memory.to ≡ m
      → and_then m (after_cells file memory) ≡ fails number f → Placed (length file) number f
  in_cells memory low (fails n g) is e = section-fault file Cells memory.to number f low (is ∙ carried n number g f e)
  in_cells memory low (finds cells) is e =
      in-budget memory cells (whole-at file Cells memory.to cells is).in-file (span_at file Budget cells.to) refl e

  in_memory : (m : Finding Span) → span_at file Memory 0 ≡ m → and_then m (after_memory file) ≡ fails number f → Placed (length file) number f
  in_memory (fails n g) is e = section-fault file Memory 0 number f (omega arith) (is ∙ carried n number g f e)
  in_memory (finds memory) is e = in_cells memory (whole-at file Memory 0 memory is).in-file (span_at file Cells memory.to) refl e

  pub fault-placed : judged_of file ≡ fails number f → Placed (length file) number f
  unfolding judged_of
  fault-placed = in_memory (span_at file Memory 0) refl
