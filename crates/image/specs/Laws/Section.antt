-- One section at a place of a file: what is spelled is judged whole and read, and what is judged whole is spelled.
use Rattle.std.specs.Prelude.{Bool, true, false, ℕ, ◌+◌, ◌*◌, ◌^◌, ◌≤◌, ◌<◌, leb, take}
use mathlib.Core.List.{List, ◌++◌, append_assoc}
use Rattle.std.proofs.Math.Path.{◌≡◌, refl, sym, ap}
use Rattle.std.proofs.Common.{◌∙◌, length-append, take-append-drop, drop-drop}
use native.Mathlib.Omega.{arith}
use Rattle.std.proofs.Math.ListN.{length, drop}
use borrow.Author.Tests.{le-leb, leb-true}
use Rattle.plain.specs.Choice.{pick}
use Rattle.plain.specs.Laws.Choice.{both_true}
use Rattle.numbers.specs.Bytes.{number_at, bytes_of}
use Rattle.numbers.specs.Slices.{inside}
use Rattle.numbers.specs.Lists.{list_at, bytes_of_list}
use Rattle.numbers.specs.Laws.Bytes.{Bytes, length-bytes, number_fits, spelled-number}
use Rattle.numbers.specs.Laws.Lists.{length-list, length-list-at, list_read, spelled-list}
use Rattle.image.specs.Format.{limits, count_width, section_of, Within}
use Rattle.image.specs.Judging.{Finding, finds, count_allowed, span_of, values_in, span_at}
use Rattle.image.specs.declared.Section.{Section}
use Rattle.image.specs.declared.Section.TheVariants.{Memory, Cells, Budget}
use Rattle.image.specs.declared.Span.{Span}

-- what a section's limits leave room for
pub count_small : (s : Section) → (limits s).most < 2 ^ 32
count_small Memory = omega arith
count_small Cells = omega arith
count_small Budget = omega arith

pub length-section : (s : Section) (values : List ℕ) → length (section_of s values) ≡ count_width + (limits s).width * length values
unfolding section_of
length-section s values =
    let four : length (bytes_of count_width (length values)) ≡ count_width = length-bytes count_width (length values) in
    let rest : length (bytes_of_list (limits s).width values) ≡ (limits s).width * length values = length-list (limits s).width values in
    length-append (bytes_of count_width (length values)) (bytes_of_list (limits s).width values) ∙ omega arith

-- a section that is spelled after p and before q
module _ (s : Section) (p q values : List ℕ) (at : ℕ) (long : length p ≡ at) (ok : Within s values) where
  abbrev whole : List ℕ
  whole = p ++ (section_of s values ++ q)

  apart : whole ≡ p ++ (bytes_of count_width (length values) ++ (bytes_of_list (limits s).width values ++ q))
  unfolding section_of
  apart = ap (λ (l : List ℕ). p ++ l) (append_assoc (bytes_of count_width (length values)) (bytes_of_list (limits s).width values) q)

  counted : number_at count_width whole at ≡ length values
  counted =
      let small : length values < 2 ^ 32 = omega (arith, ok.fit, count_small s) in
      ap (λ (l : List ℕ). number_at count_width l at) apart
      ∙ number_fits count_width (length values) p (bytes_of_list (limits s).width values ++ q) at long small

  room : (span_of s at (length values)).to ≤ length whole
  room =
      let a : length (section_of s values) ≡ count_width + (limits s).width * length values = length-section s values in
      let b : length whole ≡ length p + length (section_of s values ++ q) = length-append p (section_of s values ++ q) in
      let c : length (section_of s values ++ q) ≡ length (section_of s values) + length q = length-append (section_of s values) q in
      omega arith

  pub section-judged : span_at whole s at ≡ finds (span_of s at (length values))
  unfolding span_at
  section-judged =
      let to_end : (span_of s at (length values)).to ≤ length whole = room in
      simp (
        counted,
        le-leb (at + count_width) (length whole) (omega arith),
        le-leb (limits s).fewest (length values) ok.enough,
        le-leb (length values) (limits s).most ok.fit,
        le-leb (span_of s at (length values)).to (length whole) to_end,
      )

  pub section-read : list_at (limits s).width (length values) whole (at + count_width) ≡ values
  section-read =
      let count : List ℕ = bytes_of count_width (length values) in
      let four : length count ≡ count_width = length-bytes count_width (length values) in
      let longer : length (p ++ count) ≡ at + count_width = length-append p count ∙ omega arith in
      ap (λ (l : List ℕ). list_at (limits s).width (length values) l (at + count_width))
      (apart ∙ sym (append_assoc p count (bytes_of_list (limits s).width values ++ q)))
      ∙ list_read (limits s).width values (p ++ count) q (at + count_width) longer ok.in-width

-- a part that is spelled, and what follows it
followed : (file : List ℕ) (a n b : ℕ) (x r : List ℕ) → a + n ≡ b → x ≡ take n (drop a file) → r ≡ drop b file → x ++ r ≡ drop a file
followed file a n b x r e h k =
    ap (λ (l : List ℕ). l ++ r) h
    ∙ ap (λ (l : List ℕ). take n (drop a file) ++ l) (k ∙ ap (λ (m : ℕ). drop m file) (sym e) ∙ sym (drop-drop n a file))
    ∙ take-append-drop n (drop a file)

-- a section that is judged whole
pub record WholeAt (file : List ℕ) (s : Section) (at : ℕ) (span : Span) : Type 0 where
  pub is : span_of s at (number_at count_width file at) ≡ span
  pub enough : (limits s).fewest ≤ span.count
  pub fit : span.count ≤ (limits s).most
  pub in-file : span.to ≤ length file

-- where its elements lie
pub elements-inside : (file : List ℕ) (s : Section) (at : ℕ) (span : Span) → WholeAt file s at span → span.from + (limits s).width * span.count ≤ length file
elements-inside file s at span h =
    let from : at + count_width ≡ span.from = ap (λ (x : Span). x.from) h.is in
    let to : at + count_width + (limits s).width * number_at count_width file at ≡ span.to = ap (λ (x : Span). x.to) h.is in
    let size : (limits s).width * number_at count_width file at ≡ (limits s).width * span.count = ap (λ (x : Span). (limits s).width * x.count) h.is in
    let in-file : span.to ≤ length file = h.in-file in
    omega arith

-- a test that a whole section has passed
passed : (t : Bool) (x y : Finding Span) (span : Span) → (y ≡ finds span → ⊥) → pick t x y ≡ finds span → (t ≡ true) × (x ≡ finds span)
passed true x y span other e = (refl, e)
passed false x y span other e = absurd (other e)

module _ (file : List ℕ) (s : Section) (at : ℕ) where
  abbrev number : ℕ
  number = number_at count_width file at

  pub whole-at : (span : Span) → span_at file s at ≡ finds span → WholeAt file s at span
  unfolding span_at
  whole-at span h =
      let one = passed (inside count_width file at) _ _ span (λ e. let z : ◌≡◌ {A = ℕ} 0 1 = cc in omega arith) h in
      let two = passed (count_allowed s number) _ _ span (λ e. let z : ◌≡◌ {A = ℕ} 0 1 = cc in omega arith) one.1 in
      let three = passed (leb (span_of s at number).to (length file)) _ _ span (λ e. let z : ◌≡◌ {A = ℕ} 0 1 = cc in omega arith) two.1 in
      let limited = both_true (leb (limits s).fewest number) (leb number (limits s).most) two.0 in
      let same : span_of s at number ≡ span = cc three.1 in
      let count : number ≡ span.count = ap (λ (x : Span). x.count) same in
      let end : (span_of s at number).to ≡ span.to = ap (λ (x : Span). x.to) same in
      let low : (limits s).fewest ≤ number = leb-true _ _ limited.0 in
      let high : number ≤ (limits s).most = leb-true _ _ limited.1 in
      let in-file : (span_of s at number).to ≤ length file = leb-true _ _ three.0 in
      record { is = same; enough = omega arith; fit = omega arith; in-file = omega arith }

  -- its elements, and what follows it
  pub section-spelled : Bytes file → (span : Span) → WholeAt file s at span
      → section_of s (values_in file s span) ++ drop span.to file ≡ drop at file
  unfolding section_of
  section-spelled bytes span h =
      let w = (limits s).width in
      let from : at + count_width ≡ span.from = ap (λ (x : Span). x.from) h.is in
      let count : number ≡ span.count = ap (λ (x : Span). x.count) h.is in
      let end : at + count_width + w * number ≡ span.to = ap (λ (x : Span). x.to) h.is in
      let in-file : span.to ≤ length file = h.in-file in
      let values = values_in file s span in
      let many : length values ≡ span.count = length-list-at w span.count file span.from in
      let size : w * number ≡ w * span.count = ap (λ (n : ℕ). w * n) count in
      let to : span.from + w * span.count ≡ span.to = omega arith in
      let elements-are : bytes_of_list w values ++ drop span.to file ≡ drop span.from file =
      followed file span.from (w * span.count) span.to (bytes_of_list w values) (drop span.to file) to
      (spelled-list w span.count file span.from bytes (omega arith)) refl in
      append_assoc (bytes_of count_width (length values)) (bytes_of_list w values) (drop span.to file)
      ∙ followed file at count_width span.from (bytes_of count_width (length values)) (bytes_of_list w values ++ drop span.to file) from
      (ap (bytes_of count_width) (many ∙ sym count) ∙ spelled-number count_width file at bytes (omega arith)) elements-are
