-- One level written to its row, and one read from it.
use Rattle.std.specs.Prelude.{◌≡◌, List, [], ◌++◌, ℕ, suc, ◌+◌, ◌<◌, ◌≤◌, get_or, set, take, drop, length}
use Rattle.std.proofs.Common.{ap, sym, ◌∙◌, subst, append-nil, arith, length-set, drop_of_length-le, get_or-set_same, take_all, take_at, length-take-le}
use Rattle.std.proofs.lemmas.List.{take-set-le}
use Rattle.std.proofs.Math.Seq.{length_front}
use Rattle.plain.specs.All.{All}
use Rattle.links.specs.Depths.{frames_count, levels_count, locals_count, level_cells}
use Rattle.links.specs.Fits.{CellFits}
use Rattle.links.specs.Linked.{no_frame, no_level}
use Rattle.links.specs.declared.Frame.{Frame}
use Rattle.links.specs.declared.Level.{Level}
use Rattle.run_words.specs.Levels.{frames_in, levels_in, note_in, Laid, Hold}
use Rattle.run_words.specs.Laws.Levels.{set-in, frame-there, level-there, wide_at, frame-put, level-put}

-- a row with a level's numbers at its front and the level's address at its end
record Written (count : ℕ) (values : List ℕ) (address : ℕ) (row : List ℕ) : Type 0 where
  wide : length row ≡ suc locals_count
  front : take count row ≡ values
  end : get_or row locals_count 0 ≡ address

row_written : (count : ℕ) (old values : List ℕ) (address : ℕ) (row : List ℕ) → length old ≡ suc locals_count → length values ≡ count → count ≤ locals_count →
    row ≡ take count values ++ drop count old → Written count values address (set row locals_count address)
row_written count old values address row old-wide long fits is =
    let copied : length (take count values) ≡ count = length-take-le count values (omega (arith, long)) in
    let room : length (take count old) ≡ count = length-take-le count old (omega (arith, old-wide)) in
    let same : length row ≡ suc locals_count =
    ap (λ (l : List ℕ). length l) is ∙ length_front old (take count values) count (copied ∙ sym room) ∙ old-wide in
    record {
      wide = length-set row locals_count address ∙ same;
      front =
          take-set-le count row locals_count address fits ∙ ap (λ (l : List ℕ). take count l) is ∙ take_at (take count values) (drop count old) count copied ∙
          take_all count values (omega (arith, long));
      end = get_or-set_same row locals_count address 0 (omega (arith, same));
    }

-- numbers copied over the whole of a list
copied_all : (count : ℕ) (from old now : List ℕ) → length old ≡ count → now ≡ take count from ++ drop count old → now ≡ take count from
copied_all count from old now long is =
    is ∙ ap (λ (l : List ℕ). take count from ++ l) (drop_of_length-le old {i = count} (omega (arith, long))) ∙ append-nil (take count from)

module _ (rows : List (List ℕ)) (copies : List ℕ) (n : ℕ) where
  pub frame-read : (locals old : List ℕ) → n < frames_count → length old ≡ locals_count → locals ≡ take locals_count (get_or rows n []) ++ drop locals_count old →
      ◌≡◌ {A = Frame} (record { locals = locals; r = get_or copies n 0; address = get_or (get_or rows n []) locals_count 0 }) (get_or (frames_in rows copies) n no_frame)
  frame-read locals old h long is = rw (copied_all locals_count (get_or rows n []) old locals long is) (sym (frame-there rows copies n h))

  pub level-read : (cells old : List ℕ) → n < levels_count → length old ≡ level_cells → cells ≡ take level_cells (get_or rows (frames_count + n) []) ++ drop level_cells old →
      ◌≡◌ {A = Level}
      (record { cells = cells; s = get_or copies (frames_count + n) 0; p = get_or copies (frames_count + levels_count + n) 0; address = get_or (get_or rows (frames_count + n) []) locals_count 0 })
      (get_or (levels_in rows copies) n no_level)
  level-read cells old h long is = rw (copied_all level_cells (get_or rows (frames_count + n) []) old cells long is) (sym (level-there rows copies n h))

  module _ (laid : Laid rows copies) where
    pub frame-written : (frame : Frame) (row : List ℕ) → n < frames_count → length frame.locals ≡ locals_count →
        row ≡ take locals_count frame.locals ++ drop locals_count (get_or rows n []) → All CellFits (take locals_count frame.locals) →
        Hold (set (set rows n row) n (set (get_or (set rows n row) n []) locals_count frame.address)) (set copies n frame.r) (set (frames_in rows copies) n frame)
        (levels_in rows copies) (note_in rows)
    frame-written frame row h long is fit =
        let address = frame.address in
        let row' = set row locals_count address in
        let now : Written locals_count frame.locals address row' =
        row_written locals_count (get_or rows n []) frame.locals address row (wide_at rows copies laid n (omega arith)) long (omega arith) is in
        let made : ◌≡◌ {A = Frame} (record { locals = take locals_count row'; r = frame.r; address = get_or row' locals_count 0 }) frame = rw (now.front, now.end) in
        rw (set-in rows n row locals_count address (omega (arith, laid.rows_long)))
        (subst (λ (f : Frame). Hold (set rows n row') (set copies n frame.r) (set (frames_in rows copies) n f) (levels_in rows copies) (note_in rows)) made
        (frame-put rows copies laid n row' frame.r h now.wide (subst (All CellFits) (take_all locals_count frame.locals (omega (arith, long)) ∙ sym now.front) fit)))

    pub level-written : (level : Level) (row : List ℕ) → n < levels_count → length level.cells ≡ level_cells →
        row ≡ take level_cells level.cells ++ drop level_cells (get_or rows (frames_count + n) []) → All CellFits (take level_cells level.cells) →
        Hold (set (set rows (frames_count + n) row) (frames_count + n) (set (get_or (set rows (frames_count + n) row) (frames_count + n) []) locals_count level.address))
        (set (set copies (frames_count + n) level.s) (frames_count + levels_count + n) level.p) (frames_in rows copies) (set (levels_in rows copies) n level) (note_in rows)
    level-written level row h long is fit =
        let at = frames_count + n in
        let address = level.address in
        let row' = set row locals_count address in
        let now : Written level_cells level.cells address row' =
        row_written level_cells (get_or rows at []) level.cells address row (wide_at rows copies laid at (omega arith)) long (omega arith) is in
        let made : ◌≡◌ {A = Level} (record { cells = take level_cells row'; s = level.s; p = level.p; address = get_or row' locals_count 0 }) level =
        rw (now.front, now.end) in
        rw (set-in rows at row locals_count address (omega (arith, laid.rows_long)))
        (subst
        (λ (l : Level). Hold (set rows at row') (set (set copies at level.s) (frames_count + levels_count + n) level.p) (frames_in rows copies) (set (levels_in rows copies) n l) (note_in rows))
        made (level-put rows copies laid n row' level.s level.p h now.wide (subst (All CellFits) (take_all level_cells level.cells (omega (arith, long)) ∙ sym now.front) fit)))
