-- The cells in view of levels in rows: what is read of them, and what a store to them leaves.
use Rattle.std.specs.Prelude.{◌≡◌, List, [], ◌++◌, ℕ, suc, ◌+◌, ◌-◌, ◌*◌, ◌/◌, ◌%◌, ◌<◌, ◌≤◌, get_or, set, take, drop, length}
use Rattle.std.proofs.Common.{ap, sym, ◌∙◌, subst, append-nil, arith, length-set, length-append, take-append-drop, drop_of_length-le, get_or-take, get_or-append-add, get_or-set_same, set-set, take_at, drop_at, length-take-le}
use Rattle.std.proofs.Math.Path.{subst⁻¹}
use Rattle.std.proofs.Math.ListN.{get_or-append}
use Rattle.std.proofs.lemmas.List.Edits.{sets, sets-eq}
use Rattle.std.proofs.lemmas.List.{set-get_or, set-append_left}
use Rattle.plain.specs.All.{All}
use Rattle.plain.specs.Laws.All.{all_append}
use Rattle.numbers.specs.Bytes.{number_at, bytes_of}
use Rattle.numbers.specs.Laws.Bytes.{length-bytes}
use Rattle.numbers.specs.Laws.Writing.{sets-append}
use Rattle.numbers.specs.Laws.Rewriting.{spelled-bytes, set_after}
use Rattle.links.specs.Actions.{with_locals, with_cells}
use Rattle.links.specs.Depths.{frames_count, levels_count, locals_count, level_cells}
use Rattle.links.specs.Fits.{CellFits}
use Rattle.links.specs.Linked.{no_frame, no_level}
use Rattle.links.specs.declared.Frame.{Frame}
use Rattle.links.specs.declared.Level.{Level}
use Rattle.machine.specs.View.{bytes_of_cells, overwritten}
use Rattle.machine.proofs.Laws.CellBytes.{one_number, cell-number, cell-overwritten, one-by-cell, pair-number, pair-by-cells}
use Rattle.run_words.specs.Levels.{frames_in, levels_in, view_cells, seen_in, Laid, Keep}
use Rattle.run_words.specs.Laws.Levels.{frames-long, levels-long, frame-there, level-there, wide_at, local-stored, cell-stored}

module _ (rows : List (List ℕ)) (copies : List ℕ) (s e : ℕ) (hs : s < frames_count) (he : e < levels_count) (laid : Laid rows copies) where
  abbrev locals : List ℕ
  locals = (get_or (frames_in rows copies) s no_frame).locals

  abbrev cells : List ℕ
  cells = (get_or (levels_in rows copies) e no_level).cells

  -- they are the fronts of two rows
  locals-there : locals ≡ take locals_count (get_or rows s [])
  locals-there = ap (λ (f : Frame). f.locals) (frame-there rows copies s hs)

  cells-there : cells ≡ take level_cells (get_or rows (frames_count + e) [])
  cells-there = ap (λ (l : Level). l.cells) (level-there rows copies e he)

  locals-long : length locals ≡ locals_count
  locals-long =
      ap (λ (l : List ℕ). length l) locals-there ∙ length-take-le locals_count (get_or rows s []) (omega (arith, wide_at rows copies laid s (omega arith)))

  cells-long : length cells ≡ level_cells
  cells-long =
      ap (λ (l : List ℕ). length l) cells-there ∙
      length-take-le level_cells (get_or rows (frames_count + e) []) (omega (arith, wide_at rows copies laid (frames_count + e) (omega arith)))

  pub seen-long : length (seen_in rows copies s e) ≡ view_cells
  seen-long = length-append locals cells ∙ omega (arith, locals-long, cells-long)

  pub seen-fits : All CellFits (seen_in rows copies s e)
  seen-fits =
      all_append CellFits locals cells (subst⁻¹ (All CellFits) locals-there (laid.locals-fit s hs)) (subst⁻¹ (All CellFits) cells-there (laid.cells_fit e he))

  -- ---- one cell

  pub local-read : (k : ℕ) → k < locals_count → get_or (get_or rows s []) k 0 ≡ number_at 4 (bytes_of_cells (seen_in rows copies s e)) (4 * k)
  local-read k h =
      sym
      (cell-number (seen_in rows copies s e) seen-fits k (omega (arith, seen-long)) ∙ get_or-append locals cells 0 k (omega (arith, locals-long)) ∙
      ap (λ (l : List ℕ). get_or l k 0) locals-there ∙ get_or-take locals_count (get_or rows s []) k 0 h)

  pub cell-read : (k : ℕ) → k < level_cells → get_or (get_or rows (frames_count + e) []) k 0 ≡ number_at 4 (bytes_of_cells (seen_in rows copies s e)) (4 * (locals_count + k))
  cell-read k h =
      sym
      (cell-number (seen_in rows copies s e) seen-fits (locals_count + k) (omega (arith, seen-long)) ∙
      ap (λ (n : ℕ). get_or (locals ++ cells) (n + k) 0) (sym locals-long) ∙ get_or-append-add locals cells k 0 ∙
      ap (λ (l : List ℕ). get_or l k 0) cells-there ∙ get_or-take level_cells (get_or rows (frames_count + e) []) k 0 h)

  -- a store to one of the two leaves the other
  same-frame : set (frames_in rows copies) s (get_or (frames_in rows copies) s no_frame) ≡ frames_in rows copies
  same-frame = set-get_or (frames_in rows copies) s no_frame

  same-level : set (levels_in rows copies) e (get_or (levels_in rows copies) e no_level) ≡ levels_in rows copies
  same-level = set-get_or (levels_in rows copies) e no_level

  pub local-kept : (k value : ℕ) → k < locals_count → CellFits value →
      Keep rows (set rows s (set (get_or rows s []) k value)) copies s e (overwritten (seen_in rows copies s e) (4 * k) (bytes_of 4 value))
  local-kept k value h fits =
      let here : overwritten (seen_in rows copies s e) (4 * k) (bytes_of 4 value) ≡ set locals k value ++ cells =
      cell-overwritten (seen_in rows copies s e) seen-fits k (omega (arith, seen-long)) value fits ∙ set-append_left locals cells k value (omega (arith, locals-long)) in
      let long : length (set locals k value) ≡ locals_count = length-set locals k value ∙ locals-long in
      let held = local-stored rows copies laid s k value hs h fits in
      rw (here, take_at (set locals k value) cells locals_count long, drop_at (set locals k value) cells locals_count long)
      (record { laid = held.laid; frames-are = held.frames-are; levels-are = held.levels-are ∙ sym same-level; note-is = held.note-is })

  pub cell-kept : (k value : ℕ) → k < level_cells → CellFits value →
      Keep rows (set rows (frames_count + e) (set (get_or rows (frames_count + e) []) k value)) copies s e
      (overwritten (seen_in rows copies s e) (4 * (locals_count + k)) (bytes_of 4 value))
  cell-kept k value h fits =
      let here : overwritten (seen_in rows copies s e) (4 * (locals_count + k)) (bytes_of 4 value) ≡ locals ++ set cells k value =
      cell-overwritten (seen_in rows copies s e) seen-fits (locals_count + k) (omega (arith, seen-long)) value fits ∙
      ap (λ (n : ℕ). set (locals ++ cells) (n + k) value) (sym locals-long) ∙ set_after locals cells k value in
      let held = cell-stored rows copies laid e k value he h fits in
      rw (here, take_at locals (set cells k value) locals_count locals-long, drop_at locals (set cells k value) locals_count locals-long)
      (record { laid = held.laid; frames-are = held.frames-are ∙ sym same-frame; levels-are = held.levels-are; note-is = held.note-is })

-- a byte lies in one cell
module _ (rows : List (List ℕ)) (copies : List ℕ) (s e : ℕ) (hs : s < frames_count) (he : e < levels_count) (laid : Laid rows copies)
    (at : ℕ) (within : at < 4 * view_cells) {x : ℕ} (ex : x ≡ number_at 4 (bytes_of_cells (seen_in rows copies s e)) (4 * (at / 4)))
    {bytes : List ℕ} (eb : bytes ≡ bytes_of 4 x)
  where
    abbrev cell : ℕ
    cell = get_or (seen_in rows copies s e) (at / 4) 0

    inside_one : at / 4 < length (seen_in rows copies s e)
    inside_one = omega (arith, seen-long rows copies s e hs he laid)

    one-bytes : bytes ≡ bytes_of 4 cell
    one-bytes = eb ∙ ap (bytes_of 4) (ex ∙ cell-number (seen_in rows copies s e) (seen-fits rows copies s e hs he laid) (at / 4) inside_one)

    there : 4 * (at / 4) + at % 4 ≡ at
    there = omega arith

    pub byte-read : {r : ℕ} → r ≡ number_at 1 bytes (at % 4) → r ≡ number_at 1 (bytes_of_cells (seen_in rows copies s e)) at
    byte-read er =
        er ∙ ap (λ (l : List ℕ). number_at 1 l (at % 4)) one-bytes ∙
        sym (one_number (seen_in rows copies s e) (seen-fits rows copies s e hs he laid) (at / 4) inside_one 1 (at % 4) (omega arith)) ∙
        ap (number_at 1 (bytes_of_cells (seen_in rows copies s e))) there

    pub byte-kept : (value : ℕ) {bytes' : List ℕ} → bytes' ≡ sets bytes (at % 4) (bytes_of 1 value) → {x' : ℕ} → x' ≡ number_at 4 bytes' 0 → (rows₁ : List (List ℕ)) →
        Keep rows rows₁ copies s e (overwritten (seen_in rows copies s e) (4 * (at / 4)) (bytes_of 4 x')) →
        Keep rows rows₁ copies s e (overwritten (seen_in rows copies s e) at (bytes_of 1 value))
    byte-kept value {bytes'} es {x'} e0 rows₁ kept =
        let bs = bytes_of 1 value in
        let now : x' ≡ number_at 4 (sets (bytes_of 4 cell) (at % 4) bs) 0 =
        e0 ∙ ap (λ (l : List ℕ). number_at 4 l 0) (es ∙ ap (λ (l : List ℕ). sets l (at % 4) bs) one-bytes) in
        let is : overwritten (seen_in rows copies s e) (4 * (at / 4)) (bytes_of 4 x') ≡ overwritten (seen_in rows copies s e) at bs =
        ap (λ (v : ℕ). overwritten (seen_in rows copies s e) (4 * (at / 4)) (bytes_of 4 v)) now ∙
        one-by-cell (seen_in rows copies s e) (seen-fits rows copies s e hs he laid) (at / 4) inside_one (at % 4) bs (spelled-bytes 1 value) (omega arith) ∙
        ap (λ (a : ℕ). overwritten (seen_in rows copies s e) a bs) there in
        subst (λ (l : List ℕ). Keep rows rows₁ copies s e l) is kept

-- ---- two cells, one after the other

-- four bytes each
pub eight : (old : List ℕ) (x y : ℕ) → length old ≡ 8 → sets (sets old 0 (bytes_of 4 x)) 4 (bytes_of 4 y) ≡ bytes_of 4 x ++ bytes_of 4 y
eight old x y long =
    sym (sets-append (bytes_of 4 x) (bytes_of 4 y) old 0) ∙ sets-eq (bytes_of 4 x ++ bytes_of 4 y) old 0 (omega arith) ∙
    ap (λ (l : List ℕ). (bytes_of 4 x ++ bytes_of 4 y) ++ l) (drop_of_length-le old {i = 8} (omega arith)) ∙ append-nil (bytes_of 4 x ++ bytes_of 4 y)

-- a store after a store
module _ (rows rows₁ : List (List ℕ)) (copies : List ℕ) (s e : ℕ) (hs : s < frames_count) (he : e < levels_count) (once : List ℕ) (kept : Keep rows rows₁ copies s e once) where
  frame-after : get_or (frames_in rows₁ copies) s no_frame ≡ with_locals (take locals_count once) (get_or (frames_in rows copies) s no_frame)
  frame-after =
      ap (λ (l : List Frame). get_or l s no_frame) kept.frames-are ∙
      get_or-set_same (frames_in rows copies) s (with_locals (take locals_count once) (get_or (frames_in rows copies) s no_frame)) no_frame (omega (arith, frames-long rows copies))

  level-after : get_or (levels_in rows₁ copies) e no_level ≡ with_cells (drop locals_count once) (get_or (levels_in rows copies) e no_level)
  level-after =
      ap (λ (l : List Level). get_or l e no_level) kept.levels-are ∙
      get_or-set_same (levels_in rows copies) e (with_cells (drop locals_count once) (get_or (levels_in rows copies) e no_level)) no_level (omega (arith, levels-long rows copies))

  seen-after : seen_in rows₁ copies s e ≡ once
  seen-after = rw (frame-after, level-after) (take-append-drop locals_count once)

  kept-twice : (rows₂ : List (List ℕ)) (twice : List ℕ) → Keep rows₁ rows₂ copies s e twice → Keep rows rows₂ copies s e twice
  kept-twice rows₂ twice more =
      record {
        laid = more.laid;
        frames-are =
            more.frames-are ∙ ap (λ (f : Frame). set (frames_in rows₁ copies) s (with_locals (take locals_count twice) f)) frame-after ∙
            ap (λ (l : List Frame). set l s (with_locals (take locals_count twice) (get_or (frames_in rows copies) s no_frame))) kept.frames-are ∙
            set-set (frames_in rows copies) s (with_locals (take locals_count once) (get_or (frames_in rows copies) s no_frame)) (with_locals (take locals_count twice) (get_or (frames_in rows copies) s no_frame));
        levels-are =
            more.levels-are ∙ ap (λ (l : Level). set (levels_in rows₁ copies) e (with_cells (drop locals_count twice) l)) level-after ∙
            ap (λ (l : List Level). set l e (with_cells (drop locals_count twice) (get_or (levels_in rows copies) e no_level))) kept.levels-are ∙
            set-set (levels_in rows copies) e (with_cells (drop locals_count once) (get_or (levels_in rows copies) e no_level)) (with_cells (drop locals_count twice) (get_or (levels_in rows copies) e no_level));
        note-is = more.note-is ∙ kept.note-is;
      }

-- an access that lies in cells n and n + 1
module _ (rows : List (List ℕ)) (copies : List ℕ) (s e : ℕ) (hs : s < frames_count) (he : e < levels_count) (laid : Laid rows copies)
    (n at : ℕ) (two : n + 1 < view_cells) (low : 4 * n ≤ at) {x y : ℕ}
    (ex : x ≡ number_at 4 (bytes_of_cells (seen_in rows copies s e)) (4 * n)) (ey : y ≡ number_at 4 (bytes_of_cells (seen_in rows copies s e)) (4 * (n + 1)))
    {bytes : List ℕ} (eb : bytes ≡ bytes_of 4 x ++ bytes_of 4 y)
  where
    abbrev all : List ℕ
    all = seen_in rows copies s e

    fit : All CellFits all
    fit = seen-fits rows copies s e hs he laid

    inside : suc n < length all
    inside = omega (arith, seen-long rows copies s e hs he laid)

    bytes-are : bytes ≡ bytes_of 4 (get_or all n 0) ++ bytes_of 4 (get_or all (suc n) 0)
    bytes-are =
        let one : n + 1 ≡ suc n = omega arith in
        eb ∙ ap (λ (v : ℕ). bytes_of 4 v ++ bytes_of 4 y) (ex ∙ cell-number all fit n (omega (arith, inside))) ∙
        ap (λ (v : ℕ). bytes_of 4 (get_or all n 0) ++ bytes_of 4 v)
        (ey ∙ ap (λ (k : ℕ). number_at 4 (bytes_of_cells all) (4 * k)) one ∙ cell-number all fit (suc n) inside)

    from-there : 4 * n + (at - 4 * n) ≡ at
    from-there = omega arith

    pub pair_read : (size : ℕ) → at + size ≤ 4 * n + 8 → {r : ℕ} → r ≡ number_at size bytes (at - 4 * n) → r ≡ number_at size (bytes_of_cells all) at
    pair_read size within er =
        er ∙ ap (λ (l : List ℕ). number_at size l (at - 4 * n)) bytes-are ∙ sym (pair-number all fit n inside size (at - 4 * n) (omega arith)) ∙
        ap (λ (a : ℕ). number_at size (bytes_of_cells all) a) from-there

    pub pair-kept : (size value : ℕ) → at + size ≤ 4 * n + 8 → {bytes' : List ℕ} → bytes' ≡ sets bytes (at - 4 * n) (bytes_of size value) → {x' y' : ℕ} →
        x' ≡ number_at 4 bytes' 0 → y' ≡ number_at 4 bytes' 4 → {rows₁ rows₂ : List (List ℕ)} → Keep rows rows₁ copies s e (overwritten all (4 * n) (bytes_of 4 x')) →
        (Laid rows₁ copies → Keep rows₁ rows₂ copies s e (overwritten (seen_in rows₁ copies s e) (4 * (n + 1)) (bytes_of 4 y'))) →
        Keep rows rows₂ copies s e (overwritten all at (bytes_of size value))
    pair-kept size value within {bytes'} es {x'} {y'} e0 e4 {rows₁} {rows₂} kept more =
        let bs = bytes_of size value in
        let once = overwritten all (4 * n) (bytes_of 4 x') in
        let o = at - 4 * n in
        let long : length bs ≡ size = length-bytes size value in
        let room : o + length bs ≤ 8 = omega arith in
        let now : bytes' ≡ sets (bytes_of 4 (get_or all n 0) ++ bytes_of 4 (get_or all (suc n) 0)) o bs = es ∙ ap (λ (l : List ℕ). sets l o bs) bytes-are in
        let one : n + 1 ≡ suc n = omega arith in
        let is : overwritten (seen_in rows₁ copies s e) (4 * (n + 1)) (bytes_of 4 y') ≡ overwritten all at bs =
        ap (λ (l : List ℕ). overwritten l (4 * (n + 1)) (bytes_of 4 y')) (seen-after rows rows₁ copies s e hs he once kept) ∙
        ap (λ (k : ℕ). overwritten (overwritten all (4 * n) (bytes_of 4 x')) (4 * k) (bytes_of 4 y')) one ∙
        ap (λ (v : ℕ). overwritten (overwritten all (4 * n) (bytes_of 4 v)) (4 * suc n) (bytes_of 4 y')) (e0 ∙ ap (λ (l : List ℕ). number_at 4 l 0) now) ∙
        ap (λ (v : ℕ). overwritten (overwritten all (4 * n) (bytes_of 4 (number_at 4 (sets (bytes_of 4 (get_or all n 0) ++ bytes_of 4 (get_or all (suc n) 0)) o bs) 0))) (4 * suc n) (bytes_of 4 v))
        (e4 ∙ ap (λ (l : List ℕ). number_at 4 l 4) now) ∙
        pair-by-cells all fit n inside o bs (spelled-bytes size value) room ∙ ap (λ (a : ℕ). overwritten all a bs) from-there in
        subst (λ (l : List ℕ). Keep rows rows₂ copies s e l) is
        (kept-twice rows rows₁ copies s e hs he once kept rows₂ (overwritten (seen_in rows₁ copies s e) (4 * (n + 1)) (bytes_of 4 y')) (more kept.laid))
