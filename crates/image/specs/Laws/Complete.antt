-- The file of every spellable image is judged good, and the image is found in its spans.
use mathlib.Core.List.{List, [], ◌++◌, append_assoc, append-nil}
use Rattle.std.specs.Prelude.{◌≡◌, ℕ, ◌+◌, ◌*◌, ◌≤◌}
use Rattle.std.proofs.Math.Path.{refl, sym, ap}
use Rattle.std.proofs.Common.{◌∙◌, arith, length-append}
use Rattle.std.proofs.Math.ListN.{length}
use borrow.Author.Tests.{le-ltb}
use Rattle.machine.specs.Limits.{most_budget}
use Rattle.image.specs.Format.{Image, Spellable, count_width, section_of, budget_of, spelled, longest_file}
use Rattle.image.specs.Judging.{finds, span_at, values_in, end_judged, judged_of, memory_span, cells_span, budget_span, spans_of}
use Rattle.image.specs.Laws.Section.{length-section, section-judged, section-read}
use Rattle.image.specs.Laws.Sound.{image_in}
use Rattle.image.specs.declared.Section.TheVariants.{Memory, Cells, Budget}

module _ (i : Image) (ok : Spellable i) where
  abbrev first : List ℕ
  first = section_of Memory i.memory

  abbrev second : List ℕ
  second = section_of Cells i.cells

  abbrev third : List ℕ
  third = section_of Budget i.budget

  long-first : length first ≡ (memory_span i).to
  long-first = length-section Memory i.memory ∙ omega arith

  long-both : length (first ++ second) ≡ (cells_span i).to
  long-both =
      let a : length first ≡ (memory_span i).to = long-first in
      let b : length second ≡ count_width + 4 * length i.cells = length-section Cells i.cells in
      length-append first second ∙ omega arith

  regrouped : spelled i ≡ (first ++ second) ++ (third ++ [])
  unfolding spelled
  regrouped = sym (append_assoc first second third) ∙ ap (λ (l : List ℕ). (first ++ second) ++ l) (sym (append-nil third))

  whole_length : length (spelled i) ≡ (budget_span i).to
  whole_length =
      let a : length (first ++ second) ≡ (cells_span i).to = long-both in
      let b : length third ≡ count_width + 4 * length i.budget = length-section Budget i.budget in
      ap length regrouped
      ∙ length-append (first ++ second) (third ++ [])
      ∙ ap (λ (l : List ℕ). length (first ++ second) + length l) (append-nil third)
      ∙ omega arith

  -- no file is longer than the longest
  pub no_longer : length (spelled i) ≤ longest_file
  no_longer = omega (arith, whole_length, ok.memory-within.fit, ok.cells-within.fit, ok.budget-within.fit)

  memory-judged : span_at (spelled i) Memory 0 ≡ finds (memory_span i)
  unfolding spelled
  memory-judged = section-judged Memory [] (second ++ third) i.memory 0 refl ok.memory-within

  cells-judged : span_at (spelled i) Cells (memory_span i).to ≡ finds (cells_span i)
  unfolding spelled
  cells-judged = section-judged Cells first third i.cells (memory_span i).to long-first ok.cells-within

  budget-judged : span_at (spelled i) Budget (cells_span i).to ≡ finds (budget_span i)
  budget-judged =
      ap (λ (l : List ℕ). span_at l Budget (cells_span i).to) regrouped
      ∙ section-judged Budget (first ++ second) [] i.budget (cells_span i).to long-both ok.budget-within

  budget-read : values_in (spelled i) Budget (budget_span i) ≡ i.budget
  budget-read =
      ap (λ (l : List ℕ). values_in l Budget (budget_span i)) regrouped
      ∙ section-read Budget (first ++ second) [] i.budget (cells_span i).to long-both ok.budget-within

  -- every spellable image is found where its sections stand
  pub found : image_in (spelled i) (spans_of i) ≡ i
  unfolding image_in spelled
  found =
      let m = section-read Memory [] (second ++ third) i.memory 0 refl ok.memory-within in
      let c = section-read Cells first third i.cells (memory_span i).to long-first ok.cells-within in
      let b = budget-read in
      λ t. record { memory = m t; cells = c t; budget = b t }

  end-judged : end_judged (spelled i) (spans_of i) ≡ finds (spans_of i)
  unfolding end_judged
  end-judged =
      let end : length (spelled i) ≡ (budget_span i).to = whole_length in
      simp (budget-read, le-ltb most_budget (budget_of i.budget) ok.budget-low, le-ltb (budget_span i).to (length (spelled i)) (omega arith))

  -- and its file is good
  pub accepted : judged_of (spelled i) ≡ finds (spans_of i)
  unfolding judged_of
  accepted = simp (memory-judged, cells-judged, budget-judged) end-judged
