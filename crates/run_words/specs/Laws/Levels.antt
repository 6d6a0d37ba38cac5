-- Levels, and the note behind them, in rows: what a store to a row or to the copies makes of them.
use Rattle.std.specs.Prelude.{◌≢◌, ◌≡◌, take, replicate}
use Rattle.std.proofs.Math.Path.{refl, subst⁻¹}
use Rattle.std.proofs.Common.{ap, sym, ◌∙◌, arith, set-set}
use mathlib.Core.List.{List, [], ◌∷◌}
use Prim.Native.Nat.{ℕ, zero, suc, ◌+◌, ◌%◌, ◌^◌, ◌<◌}
use Rattle.std.proofs.Math.ListN.{get_or, set, length, length-set}
use Rattle.std.proofs.Math.Seq.{get_or-set_same, get_or-set_other, take-set-lt}
use Rattle.std.proofs.lemmas.List.{take-set-le}
use Rattle.links.specs.Actions.{no_locals, called_frame, with_locals, with_cells}
use Rattle.links.specs.Depths.{frames_count, levels_count, locals_count, level_cells, subroutines_depth, exceptions_depth}
use Rattle.links.specs.Fits.{CellFits}
use Rattle.links.specs.Linked.{no_frame, no_level, copy_of_r, copy_of_s, copy_of_p}
use Rattle.links.specs.declared.Frame.{Frame}
use Rattle.links.specs.declared.Level.{Level}
use Rattle.plain.specs.All.{All}
use Rattle.plain.specs.Laws.All.{all-at, all_set, all_replicate}
use Rattle.run_words.specs.Levels.{frame_of, level_of, copies_room, note_row, rows_count, frames_in, levels_in, note_in, Laid, Hold}
use Rattle.machine.specs.Lines.{released}
use Rattle.run_words.specs.Notes.{Note, with_thrown, with_lost, with_lines, heeding}
use Rattle.run_words.specs.Laws.Tabled.{length-tabulated, tabulated-at, tabulated-same, tabulated-set}

-- a row as wide as a level and its address
abbrev Wide : List ℕ → Type 0
Wide row = length row ≡ suc locals_count

-- the locals and the cells at a row's front are cells
abbrev LocalsFit : List ℕ → Type 0
LocalsFit row = All CellFits (take locals_count row)

abbrev CellsFit : List ℕ → Type 0
CellsFit row = All CellFits (take level_cells row)

-- what is read after a store is what was stored, or what was there
either : {A : Type 0} (P : A → Type 0) (l : List A) (n : ℕ) (x : A) (i : ℕ) (d : A) → P x → P (get_or l i d) → P (get_or (set l n x) i d)
either P [] n x i d new old = old
either P (y ∷ ys) zero x zero d new old = new
either P (y ∷ ys) zero x (suc i) d new old = old
either P (y ∷ ys) (suc n) x zero d new old = old
either P (y ∷ ys) (suc n) x (suc i) d new old = either P ys n x i d new old

-- a store into an element that was stored just now
pub set-in : (l : List (List ℕ)) (n : ℕ) (x : List ℕ) (k value : ℕ) → n < length l →
    set (set l n x) n (set (get_or (set l n x) n []) k value) ≡ set l n (set x k value)
set-in l n x k value h = ap (λ (y : List ℕ). set (set l n x) n (set y k value)) (get_or-set_same l n x [] h) ∙ set-set l n x (set x k value)

-- two lists that agree at a place
abbrev Alike : {A : Type 0} → List A → List A → A → ℕ → Type 0
Alike new old d i = get_or new i d ≡ get_or old i d

module _ (rows : List (List ℕ)) (copies : List ℕ) where
  -- there are as many levels as each stack has
  pub frames-long : length (frames_in rows copies) ≡ frames_count
  unfolding frames_in
  frames-long = length-tabulated frames_count (frame_of rows copies)

  pub levels-long : length (levels_in rows copies) ≡ levels_count
  unfolding levels_in
  levels-long = length-tabulated levels_count (level_of rows copies)

  -- a level is read where it stands
  pub frame-there : (s : ℕ) → s < frames_count → get_or (frames_in rows copies) s no_frame ≡ frame_of rows copies s
  unfolding frames_in
  frame-there s h = tabulated-at frames_count (frame_of rows copies) s no_frame h

  pub level-there : (e : ℕ) → e < levels_count → get_or (levels_in rows copies) e no_level ≡ level_of rows copies e
  unfolding levels_in
  level-there e h = tabulated-at levels_count (level_of rows copies) e no_level h

  module _ (rows' : List (List ℕ)) (copies' : List ℕ) where
    frame-alike : (i : ℕ) → Alike rows' rows [] i → Alike copies' copies 0 i → frame_of rows' copies' i ≡ frame_of rows copies i
    frame-alike i er ec = rw (er, ec)

    level-alike : (i : ℕ) → Alike rows' rows [] (frames_count + i) → Alike copies' copies 0 (frames_count + i) → Alike copies' copies 0 (frames_count + levels_count + i) →
        level_of rows' copies' i ≡ level_of rows copies i
    level-alike i er es ep = rw (er, es, ep)

    pub frames-same : ((i : ℕ) → i < frames_count → Alike rows' rows [] i) → ((i : ℕ) → i < frames_count → Alike copies' copies 0 i) → frames_in rows' copies' ≡ frames_in rows copies
    unfolding frames_in
    frames-same er ec = tabulated-same frames_count (frame_of rows copies) (frame_of rows' copies') (λ i h. frame-alike i (er i h) (ec i h))

    pub levels-same : ((i : ℕ) → i < levels_count → Alike rows' rows [] (frames_count + i)) → ((i : ℕ) → i < levels_count → Alike copies' copies 0 (frames_count + i)) →
        ((i : ℕ) → i < levels_count → Alike copies' copies 0 (frames_count + levels_count + i)) → levels_in rows' copies' ≡ levels_in rows copies
    unfolding levels_in
    levels-same er es ep = tabulated-same levels_count (level_of rows copies) (level_of rows' copies') (λ i h. level-alike i (er i h) (es i h) (ep i h))

    frame-anew : (s : ℕ) (x : Frame) → s < frames_count → frame_of rows' copies' s ≡ x →
        ((i : ℕ) → i < frames_count → i ≢ s → Alike rows' rows [] i) → ((i : ℕ) → i < frames_count → i ≢ s → Alike copies' copies 0 i) →
        frames_in rows' copies' ≡ set (frames_in rows copies) s x
    unfolding frames_in
    frame-anew s x h here er ec =
        tabulated-set frames_count (frame_of rows copies) (frame_of rows' copies') s x h here (λ i less ne. frame-alike i (er i less ne) (ec i less ne))

    level-anew : (e : ℕ) (x : Level) → e < levels_count → level_of rows' copies' e ≡ x →
        ((i : ℕ) → i < levels_count → i ≢ e → Alike rows' rows [] (frames_count + i)) → ((i : ℕ) → i < levels_count → i ≢ e → Alike copies' copies 0 (frames_count + i)) →
        ((i : ℕ) → i < levels_count → i ≢ e → Alike copies' copies 0 (frames_count + levels_count + i)) → levels_in rows' copies' ≡ set (levels_in rows copies) e x
    unfolding levels_in
    level-anew e x h here er es ep =
        tabulated-set levels_count (level_of rows copies) (level_of rows' copies') e x h here (λ i less ne. level-alike i (er i less ne) (es i less ne) (ep i less ne))

-- what is read is the level's
module _ (copies : List ℕ) where
  pub read-r : (s : ℕ) → s < frames_count → (rows : List (List ℕ)) → get_or copies s 0 ≡ copy_of_r (frames_in rows copies) s
  read-r s h rows = sym (ap (λ (f : Frame). f.r) (frame-there rows copies s h))

  pub read-s : (e : ℕ) → e < levels_count → (rows : List (List ℕ)) → get_or copies (frames_count + e) 0 ≡ copy_of_s (levels_in rows copies) e
  read-s e h rows = sym (ap (λ (l : Level). l.s) (level-there rows copies e h))

  pub read-p : (e : ℕ) → e < levels_count → (rows : List (List ℕ)) → get_or copies (frames_count + levels_count + e) 0 ≡ copy_of_p (levels_in rows copies) e
  read-p e h rows = sym (ap (λ (l : Level). l.p) (level-there rows copies e h))

module _ (rows : List (List ℕ)) where
  pub read-return : (s : ℕ) → s < frames_count → (copies : List ℕ) → get_or (get_or rows s []) locals_count 0 ≡ (get_or (frames_in rows copies) s no_frame).address
  read-return s h copies = sym (ap (λ (f : Frame). f.address) (frame-there rows copies s h))

  pub read-throw : (e : ℕ) → e < levels_count → (copies : List ℕ) → get_or (get_or rows (frames_count + e) []) locals_count 0 ≡ (get_or (levels_in rows copies) e no_level).address
  read-throw e h copies = sym (ap (λ (l : Level). l.address) (level-there rows copies e h))

-- the levels after a store
module _ (rows : List (List ℕ)) (copies : List ℕ) (laid : Laid rows copies) where
  -- every row is as wide as a level and its address
  pub wide_at : (n : ℕ) → n < rows_count → length (get_or rows n []) ≡ suc locals_count
  wide_at n h = all-at Wide rows laid.rows-wide n [] (omega (arith, laid.rows_long))

  with-frame : (n : ℕ) (row : List ℕ) → n < frames_count → length row ≡ suc locals_count → LocalsFit row → (copies' : List ℕ) → length copies' ≡ copies_room →
      Laid (set rows n row) copies'
  with-frame n row h wide fit copies' long =
      record {
        rows_long = length-set rows n row ∙ laid.rows_long;
        rows-wide = all_set Wide rows laid.rows-wide n row wide;
        copies-long = long;
        locals-fit = λ s less. either LocalsFit rows n row s [] fit (laid.locals-fit s less);
        cells_fit = λ e less. subst⁻¹ CellsFit (get_or-set_other rows n (frames_count + e) row [] (λ same. omega arith)) (laid.cells_fit e less);
      }

  with-level : (n : ℕ) (row : List ℕ) → length row ≡ suc locals_count → CellsFit row → (copies' : List ℕ) → length copies' ≡ copies_room →
      Laid (set rows (frames_count + n) row) copies'
  with-level n row wide fit copies' long =
      record {
        rows_long = length-set rows (frames_count + n) row ∙ laid.rows_long;
        rows-wide = all_set Wide rows laid.rows-wide (frames_count + n) row wide;
        copies-long = long;
        locals-fit = λ s less. subst⁻¹ LocalsFit (get_or-set_other rows (frames_count + n) s row [] (λ same. omega arith)) (laid.locals-fit s less);
        cells_fit = λ e less. either CellsFit rows (frames_count + n) row (frames_count + e) [] fit (laid.cells_fit e less);
      }

  -- a store to a level leaves the note
  note-kept : (n : ℕ) (row : List ℕ) → n < note_row → note_in (set rows n row) ≡ note_in rows
  unfolding note_in
  note-kept n row h = rw (get_or-set_other rows n note_row row [] (λ e. omega arith))

  -- to one number of a row
  pub local-stored : (s k value : ℕ) → s < frames_count → k < locals_count → CellFits value →
      let frame = get_or (frames_in rows copies) s no_frame in
      Hold (set rows s (set (get_or rows s []) k value)) copies (set (frames_in rows copies) s (with_locals (set frame.locals k value) frame)) (levels_in rows copies) (note_in rows)
  local-stored s k value h within fits =
      let old = get_or rows s [] in
      let row = set old k value in
      let there : get_or (set rows s row) s [] ≡ row = get_or-set_same rows s row [] (omega (arith, laid.rows_long)) in
      let front : take locals_count row ≡ set (take locals_count old) k value = take-set-lt locals_count old k value within in
      let end : get_or row locals_count 0 ≡ get_or old locals_count 0 = get_or-set_other old k locals_count value 0 (λ e. omega arith) in
      record {
        laid =
            with-frame s row h (length-set old k value ∙ wide_at s (omega arith))
            (subst⁻¹ (All CellFits) front (all_set CellFits (take locals_count old) (laid.locals-fit s h) k value fits)) copies laid.copies-long;
        frames-are =
            frame-anew rows copies (set rows s row) copies s (with_locals (set (get_or (frames_in rows copies) s no_frame).locals k value) (get_or (frames_in rows copies) s no_frame)) h
            (rw (frame-there rows copies s h, there, front, end)) (λ i less ne. get_or-set_other rows s i row [] ne) (λ i less ne. refl);
        levels-are =
            levels-same rows copies (set rows s row) copies (λ i less. get_or-set_other rows s (frames_count + i) row [] (λ e. omega arith)) (λ i less. refl)
            (λ i less. refl);
        note-is = note-kept s row (omega arith);
      }

  pub cell-stored : (e k value : ℕ) → e < levels_count → k < level_cells → CellFits value →
      let level = get_or (levels_in rows copies) e no_level in
      Hold (set rows (frames_count + e) (set (get_or rows (frames_count + e) []) k value)) copies (frames_in rows copies)
      (set (levels_in rows copies) e (with_cells (set level.cells k value) level)) (note_in rows)
  cell-stored e k value h within fits =
      let at = frames_count + e in
      let old = get_or rows at [] in
      let row = set old k value in
      let there : get_or (set rows at row) at [] ≡ row = get_or-set_same rows at row [] (omega (arith, laid.rows_long)) in
      let front : take level_cells row ≡ set (take level_cells old) k value = take-set-lt level_cells old k value within in
      let end : get_or row locals_count 0 ≡ get_or old locals_count 0 = get_or-set_other old k locals_count value 0 (λ e. omega arith) in
      record {
        laid =
            with-level e row (length-set old k value ∙ wide_at at (omega arith))
            (subst⁻¹ (All CellFits) front (all_set CellFits (take level_cells old) (laid.cells_fit e h) k value fits)) copies laid.copies-long;
        frames-are = frames-same rows copies (set rows at row) copies (λ i less. get_or-set_other rows at i row [] (λ e. omega arith)) (λ i less. refl);
        levels-are =
            level-anew rows copies (set rows at row) copies e (with_cells (set (get_or (levels_in rows copies) e no_level).cells k value) (get_or (levels_in rows copies) e no_level)) h
            (rw (level-there rows copies e h, there, front, end)) (λ i less ne. get_or-set_other rows at (frames_count + i) row [] (λ e. ne (omega arith)))
            (λ i less ne. refl) (λ i less ne. refl);
        note-is = note-kept at row (omega arith);
      }

  -- of a whole row, with its copies
  pub frame-put : (n : ℕ) (row : List ℕ) (r : ℕ) → n < frames_count → length row ≡ suc locals_count → LocalsFit row →
      Hold (set rows n row) (set copies n r) (set (frames_in rows copies) n (record { locals = take locals_count row; r = r; address = get_or row locals_count 0 })) (levels_in rows copies) (note_in rows)
  frame-put n row r h wide fit =
      let there : get_or (set rows n row) n [] ≡ row = get_or-set_same rows n row [] (omega (arith, laid.rows_long)) in
      let copied : get_or (set copies n r) n 0 ≡ r = get_or-set_same copies n r 0 (omega (arith, laid.copies-long)) in
      record {
        laid = with-frame n row h wide fit (set copies n r) (length-set copies n r ∙ laid.copies-long);
        frames-are =
            frame-anew rows copies (set rows n row) (set copies n r) n (record { locals = take locals_count row; r = r; address = get_or row locals_count 0 }) h
            (rw (there, copied)) (λ i less ne. get_or-set_other rows n i row [] ne) (λ i less ne. get_or-set_other copies n i r 0 ne);
        levels-are =
            levels-same rows copies (set rows n row) (set copies n r) (λ i less. get_or-set_other rows n (frames_count + i) row [] (λ e. omega arith))
            (λ i less. get_or-set_other copies n (frames_count + i) r 0 (λ e. omega arith))
            (λ i less. get_or-set_other copies n (frames_count + levels_count + i) r 0 (λ e. omega arith));
        note-is = note-kept n row (omega arith);
      }

  pub level-put : (n : ℕ) (row : List ℕ) (s p : ℕ) → n < levels_count → length row ≡ suc locals_count → CellsFit row →
      Hold (set rows (frames_count + n) row) (set (set copies (frames_count + n) s) (frames_count + levels_count + n) p) (frames_in rows copies)
      (set (levels_in rows copies) n (record { cells = take level_cells row; s = s; p = p; address = get_or row locals_count 0 })) (note_in rows)
  level-put n row s p h wide fit =
      let at = frames_count + n in
      let beside = frames_count + levels_count + n in
      let rows' = set rows at row in
      let mid = set copies at s in
      let copies' = set mid beside p in
      let same-long : length mid ≡ copies_room = length-set copies at s ∙ laid.copies-long in
      let there : get_or rows' at [] ≡ row = get_or-set_same rows at row [] (omega (arith, laid.rows_long)) in
      let copied-p : get_or copies' beside 0 ≡ p = get_or-set_same mid beside p 0 (omega (arith, same-long)) in
      let copied-s : get_or copies' at 0 ≡ s = get_or-set_other mid beside at p 0 (λ e. omega arith) ∙ get_or-set_same copies at s 0 (omega (arith, laid.copies-long)) in
      let other : (i : ℕ) → i ≢ at → i ≢ beside → get_or copies' i 0 ≡ get_or copies i 0 = λ i a b. get_or-set_other mid beside i p 0 b ∙ get_or-set_other copies at i s 0 a in
      record {
        laid = with-level n row wide fit copies' (length-set mid beside p ∙ same-long);
        frames-are =
            frames-same rows copies rows' copies' (λ i less. get_or-set_other rows at i row [] (λ e. omega arith)) (λ i less. other i (λ e. omega arith) (λ e. omega arith));
        levels-are =
            level-anew rows copies rows' copies' n (record { cells = take level_cells row; s = s; p = p; address = get_or row locals_count 0 }) h
            (rw (there, copied-s, copied-p)) (λ i less ne. get_or-set_other rows at (frames_count + i) row [] (λ e. ne (omega arith)))
            (λ i less ne. other (frames_count + i) (λ e. ne (omega arith)) (λ e. omega arith))
            (λ i less ne. other (frames_count + levels_count + i) (λ e. omega arith) (λ e. ne (omega arith)));
        note-is = note-kept at row (omega arith);
      }

  -- a call makes the level above
  pub called-made : (s r address : ℕ) → s < subroutines_depth →
      Hold (set rows (s + 1) (set (replicate (suc locals_count) 0) locals_count address)) (set copies (s + 1) r) (set (frames_in rows copies) (s + 1) (called_frame r address))
      (levels_in rows copies) (note_in rows)
  unfolding no_locals
  called-made s r address h =
      frame-put (s + 1) (set (replicate (suc locals_count) 0) locals_count address) r (omega arith) refl (all_replicate CellFits locals_count 0 (omega arith))

  -- a CATCH makes the level above, with the cells of the level below
  pub caught-made : (e s p address : ℕ) → e < exceptions_depth →
      Hold (set rows (frames_count + e + 1) (set (get_or rows (frames_count + e) []) locals_count address))
      (set (set copies (frames_count + e + 1) s) (frames_count + levels_count + e + 1) p) (frames_in rows copies)
      (set (levels_in rows copies) (e + 1) (record { cells = (get_or (levels_in rows copies) e no_level).cells; s = s; p = p; address = address })) (note_in rows)
  caught-made e s p address h =
      let below = get_or rows (frames_count + e) [] in
      let row = set below locals_count address in
      let wide : length below ≡ suc locals_count = wide_at (frames_count + e) (omega arith) in
      let up : frames_count + e + 1 ≡ frames_count + (e + 1) = omega arith in
      let beside : frames_count + levels_count + e + 1 ≡ frames_count + levels_count + (e + 1) = omega arith in
      let end : get_or row locals_count 0 ≡ address = get_or-set_same below locals_count address 0 (omega (arith, wide)) in
      let held : take level_cells row ≡ (get_or (levels_in rows copies) e no_level).cells =
      take-set-le level_cells below locals_count address (omega arith) ∙ sym (ap (λ (l : Level). l.cells) (level-there rows copies e (omega arith))) in
      let made : ◌≡◌ {A = Level} (record { cells = take level_cells row; s = s; p = p; address = get_or row locals_count 0 })
      (record { cells = (get_or (levels_in rows copies) e no_level).cells; s = s; p = p; address = address }) =
      ap (λ (l : List ℕ). record { cells = l; s = s; p = p; address = get_or row locals_count 0 }) held ∙
      ap (λ (a : ℕ). record { cells = (get_or (levels_in rows copies) e no_level).cells; s = s; p = p; address = a }) end in
      let fit : CellsFit row = subst⁻¹ (All CellFits) (take-set-le level_cells below locals_count address (omega arith)) (laid.cells_fit e (omega arith)) in
      let put = level-put (e + 1) row s p (omega arith) (length-set below locals_count address ∙ wide) fit in
      rw (up, beside)
      (record { laid = put.laid; frames-are = put.frames-are; levels-are = put.levels-are ∙ ap (λ (l : Level). set (levels_in rows copies) (e + 1) l) made; note-is = put.note-is })

  -- a store to the row behind the levels leaves them
  module _ (row : List ℕ) (wide : length row ≡ suc locals_count) where
    pub note-there : get_or (set rows note_row row) note_row [] ≡ row
    note-there = get_or-set_same rows note_row row [] (omega (arith, laid.rows_long))

    pub behind : {note : Note} → note_in (set rows note_row row) ≡ note → Hold (set rows note_row row) copies (frames_in rows copies) (levels_in rows copies) note
    behind note-is =
        record {
          laid =
              record {
                rows_long = length-set rows note_row row ∙ laid.rows_long;
                rows-wide = all_set Wide rows laid.rows-wide note_row row wide;
                copies-long = laid.copies-long;
                locals-fit = λ s less. subst⁻¹ LocalsFit (get_or-set_other rows note_row s row [] (λ same. omega arith)) (laid.locals-fit s less);
                cells_fit = λ e less. subst⁻¹ CellsFit (get_or-set_other rows note_row (frames_count + e) row [] (λ same. omega arith)) (laid.cells_fit e less);
              };
          frames-are = frames-same rows copies (set rows note_row row) copies (λ i less. get_or-set_other rows note_row i row [] (λ e. omega arith)) (λ i less. refl);
          levels-are =
              levels-same rows copies (set rows note_row row) copies (λ i less. get_or-set_other rows note_row (frames_count + i) row [] (λ e. omega arith)) (λ i less. refl)
              (λ i less. refl);
          note-is = note-is;
        }

  -- one number of it
  module _ (k value : ℕ) (h : k < suc locals_count) where
    abbrev there : List ℕ
    there = set (get_or rows note_row []) k value

    pub there-wide : length there ≡ suc locals_count
    there-wide = length-set (get_or rows note_row []) k value ∙ wide_at note_row (omega arith)

    pub put-there : get_or there k 0 ≡ value
    put-there = get_or-set_same (get_or rows note_row []) k value 0 (omega (arith, wide_at note_row (omega arith)))

    pub others-there : (i : ℕ) → i ≢ k → get_or there i 0 ≡ get_or (get_or rows note_row []) i 0
    others-there i ne = get_or-set_other (get_or rows note_row []) k i value 0 ne

  -- and what the memory lost
  pub loss-made : (value more : ℕ) → value ≡ ((note_in rows).lost + more) % 2 ^ 32 →
      Hold (set rows note_row (set (get_or rows note_row []) 2 value)) copies (frames_in rows copies) (levels_in rows copies)
      (with_lost (((note_in rows).lost + more) % 2 ^ 32) (note_in rows))
  unfolding note_in
  loss-made value more e =
      let other = others-there 2 value (omega arith) in
      let wide = there-wide 2 value (omega arith) in
      behind (there 2 value (omega arith)) wide
      (rw (
        note-there (there 2 value (omega arith)) wide,
        put-there 2 value (omega arith) ∙ e,
        other 0 (λ e. omega arith),
        other 1 (λ e. omega arith),
        other 3 (λ e. omega arith),
        other 4 (λ e. omega arith),
        other 5 (λ e. omega arith),
        other 6 (λ e. omega arith),
      ))

  -- that the block is released
  pub release-made :
      Hold (set rows note_row (set (get_or rows note_row []) 5 0)) copies (frames_in rows copies) (levels_in rows copies) (with_lines (released (note_in rows).aside.lines) (note_in rows))
  unfolding note_in
  release-made =
      let other = others-there 5 0 (omega arith) in
      let wide = there-wide 5 0 (omega arith) in
      behind (there 5 0 (omega arith)) wide
      (rw (
        note-there (there 5 0 (omega arith)) wide,
        put-there 5 0 (omega arith),
        other 0 (λ e. omega arith),
        other 1 (λ e. omega arith),
        other 2 (λ e. omega arith),
        other 3 (λ e. omega arith),
        other 4 (λ e. omega arith),
        other 6 (λ e. omega arith),
      ))

  -- that a line might enter
  pub heed-made : Hold (set rows note_row (set (get_or rows note_row []) 6 1)) copies (frames_in rows copies) (levels_in rows copies) (heeding (note_in rows))
  unfolding note_in
  heed-made =
      let other = others-there 6 1 (omega arith) in
      let wide = there-wide 6 1 (omega arith) in
      behind (there 6 1 (omega arith)) wide
      (rw (
        note-there (there 6 1 (omega arith)) wide,
        put-there 6 1 (omega arith),
        other 0 (λ e. omega arith),
        other 1 (λ e. omega arith),
        other 2 (λ e. omega arith),
        other 3 (λ e. omega arith),
        other 4 (λ e. omega arith),
        other 5 (λ e. omega arith),
      ))

  -- a THROW is noted there
  pub note-made : (address code : ℕ) →
      let once = set rows note_row (set (get_or rows note_row []) 0 address) in
      Hold (set once note_row (set (get_or once note_row []) 1 code)) copies (frames_in rows copies) (levels_in rows copies)
      (with_thrown (record { address = address; code = code }) (note_in rows))
  unfolding note_in
  note-made address code =
      let old = get_or rows note_row [] in
      let first = set old 0 address in
      let row = set first 1 code in
      let within : note_row < length rows = omega (arith, laid.rows_long) in
      let wide : length old ≡ suc locals_count = wide_at note_row (omega arith) in
      let wider : length first ≡ suc locals_count = length-set old 0 address ∙ wide in
      let widest : length row ≡ suc locals_count = length-set first 1 code ∙ wider in
      let noted : get_or row 0 0 ≡ address = get_or-set_other first 1 0 code 0 (λ e. omega arith) ∙ get_or-set_same old 0 address 0 (omega (arith, wide)) in
      let coded : get_or row 1 0 ≡ code = get_or-set_same first 1 code 0 (omega (arith, wider)) in
      let other : (i : ℕ) → i ≢ 0 → i ≢ 1 → get_or row i 0 ≡ get_or old i 0 = λ i a b. get_or-set_other first 1 i code 0 b ∙ get_or-set_other old 0 i address 0 a in
      rw (set-in rows note_row first 1 code within)
      (behind row widest
      (rw (
        note-there row widest,
        noted,
        coded,
        other 2 (λ e. omega arith) (λ e. omega arith),
        other 3 (λ e. omega arith) (λ e. omega arith),
        other 4 (λ e. omega arith) (λ e. omega arith),
        other 5 (λ e. omega arith) (λ e. omega arith),
        other 6 (λ e. omega arith) (λ e. omega arith),
      )))

  -- and the lines
  pub lines-made : (mask waiting block : ℕ) →
      let once = set rows note_row (set (get_or rows note_row []) 3 mask) in
      let twice = set once note_row (set (get_or once note_row []) 4 waiting) in
      Hold (set twice note_row (set (get_or twice note_row []) 5 block)) copies (frames_in rows copies) (levels_in rows copies)
      (with_lines (record { mask = mask; waiting = waiting; block = block }) (note_in rows))
  unfolding note_in
  lines-made mask waiting block =
      let old = get_or rows note_row [] in
      let first = set old 3 mask in
      let second = set first 4 waiting in
      let row = set second 5 block in
      let within : note_row < length rows = omega (arith, laid.rows_long) in
      let wide : length old ≡ suc locals_count = wide_at note_row (omega arith) in
      let wider : length first ≡ suc locals_count = length-set old 3 mask ∙ wide in
      let widest : length second ≡ suc locals_count = length-set first 4 waiting ∙ wider in
      let long : length row ≡ suc locals_count = length-set second 5 block ∙ widest in
      let masked : get_or row 3 0 ≡ mask = get_or-set_other second 5 3 block 0 (λ e. omega arith) ∙ (get_or-set_other first 4 3 waiting 0 (λ e. omega arith) ∙ get_or-set_same old 3 mask 0 (omega (arith, wide))) in
      let waits : get_or row 4 0 ≡ waiting = get_or-set_other second 5 4 block 0 (λ e. omega arith) ∙ get_or-set_same first 4 waiting 0 (omega (arith, wider)) in
      let blocks : get_or row 5 0 ≡ block = get_or-set_same second 5 block 0 (omega (arith, widest)) in
      let other : (i : ℕ) → i ≢ 3 → i ≢ 4 → i ≢ 5 → get_or row i 0 ≡ get_or old i 0 =
      λ i a b c. get_or-set_other second 5 i block 0 c ∙ (get_or-set_other first 4 i waiting 0 b ∙ get_or-set_other old 3 i mask 0 a) in
      rw (set-in rows note_row first 4 waiting within, set-in rows note_row second 5 block within)
      (behind row long
      (rw (
        note-there row long,
        masked,
        waits,
        blocks,
        other 0 (λ e. omega arith) (λ e. omega arith) (λ e. omega arith),
        other 1 (λ e. omega arith) (λ e. omega arith) (λ e. omega arith),
        other 2 (λ e. omega arith) (λ e. omega arith) (λ e. omega arith),
        other 6 (λ e. omega arith) (λ e. omega arith) (λ e. omega arith),
      )))

-- a CATCH does all that a call does first
pub caught-above : {rows rows' : List (List ℕ)} {copies copies' : List ℕ} {frames : List Frame} {levels : List Level} {note : Note} (e s p address : ℕ) →
    Hold rows copies frames levels note →
    Hold rows' copies' (frames_in rows copies) (set (levels_in rows copies) (e + 1) (record { cells = (get_or (levels_in rows copies) e no_level).cells; s = s; p = p; address = address })) (note_in rows) →
    Hold rows' copies' frames (set levels (e + 1) (record { cells = (get_or levels e no_level).cells; s = s; p = p; address = address })) note
caught-above e s p address call catch =
    record {
      laid = catch.laid;
      frames-are = catch.frames-are ∙ call.frames-are;
      levels-are =
          catch.levels-are ∙
          ap (λ (l : List Level). set l (e + 1) (record { cells = (get_or l e no_level).cells; s = s; p = p; address = address })) call.levels-are;
      note-is = catch.note-is ∙ call.note-is;
    }
