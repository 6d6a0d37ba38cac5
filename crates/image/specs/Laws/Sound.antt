-- What is judged good spells an image: the one that stands in its spans is spellable, and the whole file is its spelling.
use Rattle.std.specs.Prelude.{Bool, true, false, refl, ℕ, ◌≤◌, ltb, length}
use mathlib.Core.List.{List, [], ◌++◌, append-nil}
use Rattle.std.proofs.Math.Path.{◌≡◌, sym, ap, subst}
use Rattle.std.proofs.Common.{◌∙◌, arith}
use Rattle.std.proofs.Math.ListN.{drop, drop_of_length-le}
use borrow.Author.Tests.{ltb-false}
use Rattle.plain.specs.Choice.{pick}
use Rattle.numbers.specs.Laws.Bytes.{Bytes}
use Rattle.numbers.specs.Laws.Lists.{length-list-at, list-below}
use Rattle.machine.specs.Limits.{most_budget}
use Rattle.image.specs.Format.{Image, Spellable, Within, limits, section_of, budget_of, spelled}
use Rattle.image.specs.Judging.{Finding, fails, finds, span_at, values_in, end_judged, and_then, judged_of}
use Rattle.image.specs.Laws.Section.{WholeAt, whole-at, section-spelled}
use Rattle.image.specs.declared.Section.{Section}
use Rattle.image.specs.declared.Section.TheVariants.{Memory, Cells, Budget}
use Rattle.image.specs.declared.Span.{Span}
use Rattle.image.specs.declared.Spans.{Spans}

-- the image that stands in the spans of a file
unfoldable pub image_in : List ℕ → Spans → Image
image_in file spans =
    record { memory = values_in file Memory spans.memory; cells = values_in file Cells spans.cells; budget = values_in file Budget spans.budget }

-- a good file: what its tests show
pub record GoodFile (file : List ℕ) (spans : Spans) : Type 0 where
  pub memory-whole : WholeAt file Memory 0 spans.memory
  pub cells_whole : WholeAt file Cells spans.memory.to spans.cells
  pub budget-whole : WholeAt file Budget spans.cells.to spans.budget
  pub budget-low : budget_of (values_in file Budget spans.budget) ≤ most_budget
  pub ends : length file ≤ spans.budget.to

-- the span after which a good answer went on
went_on : (m : Finding Span) (next : Span → Finding Spans) (spans : Spans) → and_then m next ≡ finds spans → (span : Span) × (m ≡ finds span) × (next span ≡ finds spans)
went_on (fails number fault) next spans e = absurd (let z : ◌≡◌ {A = ℕ} 0 1 = cc in omega arith)
went_on (finds span) next spans e = (span, refl, e)

-- a test that a good answer has passed
passed : (t : Bool) (x y : Finding Spans) (spans : Spans) → (x ≡ finds spans → ⊥) → pick t x y ≡ finds spans → (t ≡ false) × (y ≡ finds spans)
passed true x y spans other e = absurd (other e)
passed false x y spans other e = (refl, e)

module _ (file : List ℕ) where
  abbrev pub spans_from : Span → Span → Span → Spans
  spans_from memory cells budget = record { memory = memory; cells = cells; budget = budget }

  abbrev pub after_cells : Span → Span → Finding Spans
  after_cells memory cells = and_then (span_at file Budget cells.to) λ budget. end_judged file (spans_from memory cells budget)

  abbrev pub after_memory : Span → Finding Spans
  after_memory memory = and_then (span_at file Cells memory.to) (after_cells memory)

  pub good-file : (spans : Spans) → judged_of file ≡ finds spans → GoodFile file spans
  unfolding judged_of end_judged
  good-file spans h =
      let one = went_on (span_at file Memory 0) after_memory spans h in
      let memory = one.0 in
      let two = went_on (span_at file Cells memory.to) (after_cells memory) spans one.2 in
      let cells = two.0 in
      let three = went_on (span_at file Budget cells.to) (λ (x : Span). end_judged file (spans_from memory cells x)) spans two.2 in
      let budget = three.0 in
      let four = passed (ltb most_budget (budget_of (values_in file Budget budget))) _ _ spans (λ e. let z : ◌≡◌ {A = ℕ} 0 1 = cc in omega arith) three.2 in
      let five = passed (ltb budget.to (length file)) _ _ spans (λ e. let z : ◌≡◌ {A = ℕ} 0 1 = cc in omega arith) four.1 in
      let same : spans_from memory cells budget ≡ spans = cc five.1 in
      subst (GoodFile file) same
      (record {
        memory-whole = whole-at file Memory 0 memory one.1;
        cells_whole = whole-at file Cells memory.to cells two.1;
        budget-whole = whole-at file Budget cells.to budget three.1;
        budget-low = ltb-false _ _ four.0;
        ends = ltb-false _ _ five.0;
      })

module _ (file : List ℕ) (bytes : Bytes file) (spans : Spans) (good : GoodFile file spans) where
  within : (s : Section) (at : ℕ) (span : Span) → WholeAt file s at span → Within s (values_in file s span)
  within s at span h =
      let count : length (values_in file s span) ≡ span.count = length-list-at (limits s).width span.count file span.from in
      let enough : (limits s).fewest ≤ span.count = h.enough in
      let fit : span.count ≤ (limits s).most = h.fit in
      record { enough = omega arith; fit = omega arith; in-width = list-below (limits s).width span.count file span.from bytes }

  pub image-spellable : Spellable (image_in file spans)
  unfolding image_in
  image-spellable =
      record {
        memory-within = within Memory 0 spans.memory good.memory-whole;
        cells-within = within Cells spans.memory.to spans.cells good.cells_whole;
        budget-within = within Budget spans.cells.to spans.budget good.budget-whole;
        budget-low = good.budget-low;
      }

  pub image-spells : spelled (image_in file spans) ≡ file
  unfolding image_in spelled
  image-spells =
      let first = section_of Memory (values_in file Memory spans.memory) in
      let second = section_of Cells (values_in file Cells spans.cells) in
      let third = section_of Budget (values_in file Budget spans.budget) in
      let rest : drop spans.budget.to file ≡ [] = drop_of_length-le file {i = spans.budget.to} good.ends in
      let three : third ≡ drop spans.cells.to file =
      sym (append-nil third) ∙ ap (λ (l : List ℕ). third ++ l) (sym rest) ∙ section-spelled file Budget spans.cells.to bytes spans.budget good.budget-whole in
      let two : second ++ third ≡ drop spans.memory.to file =
      ap (λ (l : List ℕ). second ++ l) three ∙ section-spelled file Cells spans.memory.to bytes spans.cells good.cells_whole in
      ap (λ (l : List ℕ). first ++ l) two ∙ section-spelled file Memory 0 bytes spans.memory good.memory-whole
