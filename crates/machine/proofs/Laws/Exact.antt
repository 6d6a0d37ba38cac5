-- FETCH.L and STORE.L at the addresses that document 01 lists do what it says of them; within a cell the highest byte stands first; and
-- no access in view is another's.
use Rattle.std.specs.Prelude.{List, [], ◌∷◌, ◌++◌, ◌≡◌, refl, true, false, ℕ, ◌+◌, ◌-◌, ◌*◌, ◌/◌, ◌%◌, ◌^◌, ◌≤◌, ◌<◌, get_or, set, length}
use Rattle.std.proofs.Common.{sym, ap, ◌∙◌, arith, le-leb, length-set, length-append, get_or-append-add, take_at, drop_at}
use Rattle.std.proofs.lemmas.Bool.{lt-leb}
use Rattle.std.proofs.Math.ListN.{get_or-append}
use Rattle.std.proofs.lemmas.List.{set-append_left}
use Rattle.plain.specs.All.{All}
use Rattle.plain.specs.Laws.All.{all_append}
use Rattle.numbers.specs.Bytes.{bytes_of}
use Rattle.numbers.specs.Laws.Rewriting.{set_after}
use Rattle.links.specs.Depths.{locals_count, level_cells}
use Rattle.links.specs.Fits.{CellFits, FrameFits, LevelFits}
use Rattle.links.specs.Linked.{frame_at, level_at}
use Rattle.links.specs.Actions.{keep}
use Rattle.links.proofs.Laws.Carries.{frame-in-view, level-in-view}
use Rattle.machine.specs.Limits.{memory_length}
use Rattle.machine.specs.Reach.{bar_of, is_foreign}
use Rattle.machine.specs.State.{well_formed}
use Rattle.machine.specs.Memory.{size, view_start, view_end, place_of}
use Rattle.machine.specs.View.{overwritten}
use Rattle.machine.specs.Fetch.{Instruction}
use Rattle.machine.specs.Rows.{second, locals_in_view, cells_in_view, in_view, cells_row, jump, fetch_row, store_row}
use Rattle.machine.specs.Fits.{Exist}
use Rattle.machine.proofs.Laws.CellBytes.{cell-number, cell-byte, cell-overwritten}
use Rattle.machine.proofs.Laws.Carries.{cell-fits}
use Rattle.machine.proofs.Laws.Kept.{formed}
use Rattle.machine.specs.declared.Machine.{Machine}
use Rattle.machine.specs.declared.Width.{Width}
use Rattle.machine.specs.declared.Width.TheVariants.{Byte, Long}
use Rattle.machine.specs.declared.Place.TheVariants.{View}

place-in-view : (w : Width) (a : ℕ) → view_start + a + size w ≤ view_end → 0 < size w → place_of w (view_start + a) ≡ View a
unfolding place_of
place-in-view w a h some =
    let past : memory_length < view_start + a + size w = omega arith in
    let low : view_start ≤ view_start + a = omega arith in
    let at : view_start + a - view_start ≡ a = omega arith in
    rw (lt-leb (view_start + a + size w) memory_length past, le-leb view_start (view_start + a) low, le-leb (view_start + a + size w) view_end h, at)

module _ (i : Instruction) (mem : List ℕ) (m : Machine) (well : well_formed m ≡ true) (exist : Exist mem m) where
  frame : FrameFits (frame_at m.links m.links.s)
  frame = frame-in-view m.links exist.whole.shaped (formed m well).sound exist.fits.links-fit

  level : LevelFits (level_at m.links m.links.e)
  level = level-in-view m.links exist.whole.shaped (formed m well).sound exist.fits.links-fit

  all_fit : All CellFits (in_view m)
  all_fit = all_append CellFits (locals_in_view m) (cells_in_view m) frame.locals-fit level.cells_fit

  all-long : length (in_view m) ≡ locals_count + level_cells
  all-long = length-append (locals_in_view m) (cells_in_view m) ∙ omega (arith, frame.locals-long, level.cells-long)

  -- local k of level S
  module _ (k : ℕ) (h : k < locals_count) where
    pub local-fetched : fetch_row i mem m Long (place_of Long (0x10000 + 4 * k)) ≡ cells_row i mem m (get_or (locals_in_view m) k 0 ∷ [])
    local-fetched =
        ap (fetch_row i mem m Long) (place-in-view Long (4 * k) (omega arith) (omega arith)) ∙
        ap (λ (x : ℕ). cells_row i mem m (x ∷ []))
        (cell-number (in_view m) all_fit k (omega (arith, all-long)) ∙ get_or-append (locals_in_view m) (cells_in_view m) 0 k (omega (arith, frame.locals-long)))

    pub local-stored : store_row i mem m Long (place_of Long (0x10000 + 4 * k)) ≡ jump i mem m (keep (set (locals_in_view m) k (second m)) (cells_in_view m)) i.next
    local-stored =
        let stored = set (locals_in_view m) k (second m) in
        let long : length stored ≡ locals_count = length-set (locals_in_view m) k (second m) ∙ frame.locals-long in
        let is : overwritten (in_view m) (4 * k) (bytes_of 4 (second m)) ≡ stored ++ cells_in_view m =
        cell-overwritten (in_view m) all_fit k (omega (arith, all-long)) (second m) (cell-fits m exist.fits (m.p - 2)) ∙
        set-append_left (locals_in_view m) (cells_in_view m) k (second m) (omega (arith, frame.locals-long)) in
        ap (store_row i mem m Long) (place-in-view Long (4 * k) (omega arith) (omega arith)) ∙
        rw (is, take_at stored (cells_in_view m) locals_count long, drop_at stored (cells_in_view m) locals_count long)

  -- cell k of level E
  module _ (k : ℕ) (h : k < level_cells) where
    address : 0x10040 + 4 * k ≡ view_start + 4 * (locals_count + k)
    address = omega arith

    pub cell-fetched : fetch_row i mem m Long (place_of Long (0x10040 + 4 * k)) ≡ cells_row i mem m (get_or (cells_in_view m) k 0 ∷ [])
    cell-fetched =
        ap (λ (a : ℕ). fetch_row i mem m Long (place_of Long a)) address ∙
        ap (fetch_row i mem m Long) (place-in-view Long (4 * (locals_count + k)) (omega arith) (omega arith)) ∙
        ap (λ (x : ℕ). cells_row i mem m (x ∷ []))
        (cell-number (in_view m) all_fit (locals_count + k) (omega (arith, all-long)) ∙
        ap (λ (n : ℕ). get_or (in_view m) (n + k) 0) (sym frame.locals-long) ∙ get_or-append-add (locals_in_view m) (cells_in_view m) k 0)

    pub cell-stored : store_row i mem m Long (place_of Long (0x10040 + 4 * k)) ≡ jump i mem m (keep (locals_in_view m) (set (cells_in_view m) k (second m))) i.next
    cell-stored =
        let stored = set (cells_in_view m) k (second m) in
        let is : overwritten (in_view m) (4 * (locals_count + k)) (bytes_of 4 (second m)) ≡ locals_in_view m ++ stored =
        cell-overwritten (in_view m) all_fit (locals_count + k) (omega (arith, all-long)) (second m) (cell-fits m exist.fits (m.p - 2)) ∙
        ap (λ (n : ℕ). set (in_view m) (n + k) (second m)) (sym frame.locals-long) ∙ set_after (locals_in_view m) (cells_in_view m) k (second m) in
        ap (λ (a : ℕ). store_row i mem m Long (place_of Long a)) address ∙
        ap (store_row i mem m Long) (place-in-view Long (4 * (locals_count + k)) (omega arith) (omega arith)) ∙
        rw (is, take_at (locals_in_view m) stored locals_count frame.locals-long, drop_at (locals_in_view m) stored locals_count frame.locals-long)

  -- byte j of cell k in view, counted from the highest
  pub byte-fetched : (k j : ℕ) → k < locals_count + level_cells → j < 4 →
      fetch_row i mem m Byte (place_of Byte (0x10000 + (4 * k + j))) ≡ cells_row i mem m (get_or (in_view m) k 0 / 2 ^ (8 * (3 - j)) % 2 ^ 8 ∷ [])
  byte-fetched k j h within =
      ap (fetch_row i mem m Byte) (place-in-view Byte (4 * k + j) (omega arith) (omega arith)) ∙
      ap (λ (x : ℕ). cells_row i mem m (x ∷ [])) (cell-byte (in_view m) all_fit k (omega (arith, all-long)) j within)

-- the cells in view are the machine's own, whoever runs it
pub fetch-never-foreign : (i : Instruction) (mem : List ℕ) (m : Machine) (w : Width) (a : ℕ) →
    is_foreign (bar_of i.reach (fetch_row i mem m w (View a)).from (fetch_row i mem m w (View a)).touches) ≡ false
unfolding bar_of
fetch-never-foreign i mem m w a = refl

pub store-never-foreign : (i : Instruction) (mem : List ℕ) (m : Machine) (w : Width) (a : ℕ) →
    is_foreign (bar_of i.reach (store_row i mem m w (View a)).from (store_row i mem m w (View a)).touches) ≡ false
unfolding bar_of
store-never-foreign i mem m w a = refl
