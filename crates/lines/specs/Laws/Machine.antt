-- The machine that the bytes spell: raising a line alters its waiting requests alone, setting the mask its mask alone.
use Rattle.std.specs.Prelude.{true, ◌≡◌, leb, length}
use mathlib.Core.List.{List, [], ◌∷◌, ◌++◌}
use Rattle.std.proofs.Math.Path.{refl, ap}
use Rattle.std.proofs.Common.{sym, ◌∙◌, arith}
use Prim.Native.Nat.{ℕ, ◌^◌, ◌<◌, ◌≤◌}
use borrow.Author.Tests.{eq-eqb, lt-ltb, leb-true}
use Rattle.std.proofs.Math.Seq.{sets, length-sets}
use Rattle.plain.specs.Answer.{gives}
use Rattle.plain.specs.Laws.Choice.{both_true}
use Rattle.links.specs.Depths.{cells_depth}
use Rattle.numbers.specs.Bytes.{number_at, bytes_of}
use Rattle.machine.specs.Lines.{raised}
use Rattle.machine.specs.declared.Lines.{Lines}
use Rattle.machine.specs.declared.Machine.{Machine}
use Rattle.state.specs.Parts.{Field, ◌of◌, array, FieldsFit, field_bytes}
use Rattle.state.specs.Layout as layout
use Rattle.state.specs.Layout.{cell, pointer, links}
use Rattle.state.specs.Promise.{Takes, spelled}
use Rattle.state.specs.Laws.Sound.{◌and◌, AllSound, array-sound}
use Rattle.state.specs.Laws.Spelling.{cell-sound, pointer-sound, links-sound}
use Rattle.state.specs.Laws.Changed.{number-there, number-changed}
use Rattle.requests.specs.Requests.{is_line}
use Rattle.requests.specs.Laws.Room.{raised-fits}
use Rattle.lines.specs.Bytes.{mask_place, waiting_place, raised_in, masked_in}
use Rattle.lines.specs.Meaning.{with_lines, with_waiting, with_mask}

-- what stands before the mask
abbrev before_mask : List (Field Machine)
before_mask =
    array cells_depth cell of (λ m. m.cells)
    ∷ pointer of (λ m. m.p)
    ∷ links of (λ m. m.links)
    ∷ cell of (λ m. m.counter)
    ∷ cell of (λ m. m.flag)
    ∷ cell of (λ m. m.thrown.address)
    ∷ cell of (λ m. m.thrown.code)
    ∷ []

abbrev mask_alone : List (Field Machine)
mask_alone = cell of (λ m. m.lines.mask) ∷ []

abbrev block_alone : List (Field Machine)
block_alone = cell of (λ m. m.lines.block) ∷ []

abbrev after_mask : List (Field Machine)
after_mask = cell of (λ m. m.lines.waiting) ∷ block_alone

sound : AllSound before_mask
sound = array-sound cell cell-sound cells_depth and pointer-sound and links-sound and cell-sound and cell-sound and cell-sound and cell-sound and tt

sound-too : AllSound (before_mask ++ mask_alone)
sound-too =
    array-sound cell cell-sound cells_depth and pointer-sound and links-sound and cell-sound and cell-sound and cell-sound and cell-sound and cell-sound and tt

module _ (m : Machine) (fit : (layout.state).Fits m) where
  front : FieldsFit before_mask m
  front = fit.0 and fit.1.0 and fit.1.1.0 and fit.1.1.1.0 and fit.1.1.1.1.0 and fit.1.1.1.1.1.0 and fit.1.1.1.1.1.1.0 and tt

  front-too : FieldsFit (before_mask ++ mask_alone) m
  front-too =
      fit.0 and fit.1.0 and fit.1.1.0 and fit.1.1.1.0 and fit.1.1.1.1.0 and fit.1.1.1.1.1.0 and fit.1.1.1.1.1.1.0
      and fit.1.1.1.1.1.1.1.0 and tt

  -- other lines that fit
  lines_fit : (l : Lines) → l.mask < 2 ^ 32 → l.waiting < 2 ^ 32 → l.block < 2 ^ 32 → (layout.state).Fits (with_lines l m)
  lines_fit l mask waiting block =
      fit.0 and fit.1.0 and fit.1.1.0 and fit.1.1.1.0 and fit.1.1.1.1.0 and fit.1.1.1.1.1.0 and fit.1.1.1.1.1.1.0
      and mask and waiting and block and tt

  mask-bytes : (mask : ℕ) → (layout.state).bytes (with_mask mask m) ≡ sets ((layout.state).bytes m) mask_place (bytes_of 4 mask)
  unfolding field_bytes
  mask-bytes mask = number-changed 4 (λ x. x.lines.mask) before_mask after_mask sound m (with_mask mask m) front refl refl

  waiting-bytes : (waiting : ℕ) → (layout.state).bytes (with_waiting waiting m) ≡ sets ((layout.state).bytes m) waiting_place (bytes_of 4 waiting)
  unfolding field_bytes
  waiting-bytes waiting =
      number-changed 4 (λ x. x.lines.waiting) (before_mask ++ mask_alone) block_alone sound-too m (with_waiting waiting m) front-too refl refl

  waiting-there : number_at 4 ((layout.state).bytes m) waiting_place ≡ m.lines.waiting
  waiting-there = number-there 4 (λ x. x.lines.waiting) (before_mask ++ mask_alone) block_alone sound-too m front-too fit.1.1.1.1.1.1.1.1.0

-- a state's bytes, and the machine that they spell
module _ (bytes : List ℕ) (m : Machine) where
  -- a line that is raised is a request that waits
  pub raised-takes : (n : ℕ) → is_line n ≡ true → Takes bytes (gives tt) m →
      ((raised_in n bytes).number ≡ 0) × Takes (raised_in n bytes).state (gives tt) (with_waiting (raised n m.lines.waiting) m)
  unfolding raised_in
  raised-takes n is-line (spelled _ long fit is) =
      let lines = fit.1.1.1.1.1.1.1 in
      let requests : ℕ = raised n m.lines.waiting in
      let there : number_at 4 bytes waiting_place ≡ m.lines.waiting = ap (λ (l : List ℕ). number_at 4 l waiting_place) (sym is) ∙ waiting-there m fit in
      let below : n ≤ 15 = leb-true n 15 (both_true (leb 1 n) (leb n 15) is-line).1 in
      let small : requests < 2 ^ 32 = raised-fits 32 n m.lines.waiting (omega arith) lines.1.0 in
      rw (eq-eqb (length bytes) (layout.state).width long, is-line) (
        refl,
        spelled (with_waiting requests m) (length-sets bytes waiting_place (bytes_of 4 (raised n (number_at 4 bytes waiting_place))) ∙ long)
            (lines_fit m fit (with_waiting requests m).lines lines.0 small lines.1.1.0)
            (waiting-bytes m fit requests
            ∙ ap (λ (l : List ℕ). sets l waiting_place (bytes_of 4 requests)) is
            ∙ ap (λ (w : ℕ). sets bytes waiting_place (bytes_of 4 (raised n w))) (sym there)),
      )

  pub masked-takes : (mask : ℕ) → mask < 2 ^ 16 → Takes bytes (gives tt) m →
      ((masked_in mask bytes).number ≡ 0) × Takes (masked_in mask bytes).state (gives tt) (with_mask mask m)
  unfolding masked_in
  masked-takes mask within (spelled _ long fit is) =
      let lines = fit.1.1.1.1.1.1.1 in
      rw (eq-eqb (length bytes) (layout.state).width long, lt-ltb mask (2 ^ 16) within) (
        refl,
        spelled (with_mask mask m) (length-sets bytes mask_place (bytes_of 4 mask) ∙ long)
            (lines_fit m fit (with_mask mask m).lines (omega arith) lines.1.0 lines.1.1.0)
            (mask-bytes m fit mask ∙ ap (λ (l : List ℕ). sets l mask_place (bytes_of 4 mask)) is),
      )
