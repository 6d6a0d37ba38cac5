-- The registers parked between two stretches alter no level and no note.
use Rattle.std.specs.Prelude.{◌≡◌, refl, Bool, List, [], ◌∷◌, ℕ, zero, suc, ◌+◌, ◌<◌, get_or, set, length}
use Rattle.std.proofs.Common.{ap, sym, ◌∙◌, arith, length-set, get_or-set_same, get_or-set_other}
use Rattle.std.proofs.lemmas.List.Edits.{sets}
use Rattle.std.proofs.Math.Seq.{length-sets}
use Rattle.links.specs.Depths.{frames_count, levels_count, locals_count}
use Rattle.links.specs.declared.Frame.{Frame}
use Rattle.links.specs.declared.Level.{Level}
use Rattle.run_words.specs.Levels.{copies_room, note_row, note_in, parked_in, Laid, Hold, Parks}
use Rattle.run_words.specs.Notes.{Note}
use Rattle.run_words.specs.declared.Registers.{Registers}
use Rattle.run_words.specs.Laws.Levels.{wide_at, note-there, behind, frames-same, levels-same}

-- numbers stored one after another leave those in front
sets-before : (l : List ℕ) (i : ℕ) (vs : List ℕ) (k : ℕ) → k < i → get_or (sets l i vs) k 0 ≡ get_or l k 0
sets-before l i [] k h = refl
sets-before l i (v ∷ vs) k h = sets-before (set l i v) (suc i) vs k (omega arith) ∙ get_or-set_other l i k v 0 (λ e. omega arith)

-- and each is found
sets-there : (l : List ℕ) (i : ℕ) (vs : List ℕ) (k : ℕ) → k < length vs → i + k < length l → get_or (sets l i vs) (i + k) 0 ≡ get_or vs k 0
sets-there l i [] k h within = absurd (omega arith)
sets-there l i (v ∷ vs) zero h within =
    ap (λ (j : ℕ). get_or (sets (set l i v) (suc i) vs) j 0) (omega arith) ∙
    (sets-before (set l i v) (suc i) vs i (omega arith) ∙ get_or-set_same l i v 0 (omega arith))
sets-there l i (v ∷ vs) (suc k) h within =
    ap (λ (j : ℕ). get_or (sets (set l i v) (suc i) vs) j 0) (omega arith) ∙
    sets-there (set l i v) (suc i) vs k (omega arith) (omega (arith, length-set l i v))

-- the levels do not ask for what stands behind the copies
beside : {rows : List (List ℕ)} {copies : List ℕ} {frames : List Frame} {levels : List Level} {note : Note} → Hold rows copies frames levels note →
    (copies' : List ℕ) → length copies' ≡ copies_room → ((i : ℕ) → i < 60 → get_or copies' i 0 ≡ get_or copies i 0) → Hold rows copies' frames levels note
beside {rows} {copies} h copies' long same =
    record {
      laid =
          record {
            rows_long = h.laid.rows_long;
            rows-wide = h.laid.rows-wide;
            copies-long = long;
            locals-fit = h.laid.locals-fit;
            cells_fit = h.laid.cells_fit;
          };
      frames-are = frames-same rows copies rows copies' (λ i less. refl) (λ i less. same i (omega arith)) ∙ h.frames-are;
      levels-are =
          levels-same rows copies rows copies' (λ i less. refl) (λ i less. same (frames_count + i) (omega arith))
          (λ i less. same (frames_count + levels_count + i) (omega arith)) ∙
          h.levels-are;
      note-is = h.note-is;
    }

abbrev numbers_of : Registers → List ℕ
numbers_of g = g.counter ∷ g.flag ∷ g.left.0 ∷ g.cycles.0 ∷ g.answer ∷ g.unspent.0 ∷ []

abbrev pointers_of : Registers → List ℕ
pointers_of g = g.p ∷ g.r ∷ g.s ∷ g.e ∷ []

pub park-made : (rows : List (List ℕ)) (copies : List ℕ) (laid : Laid rows copies) (g : Registers) →
    Parks rows copies g (set rows note_row (sets (get_or rows note_row []) 7 (numbers_of g))) (sets copies 60 (pointers_of g))
unfolding note_in parked_in
park-made rows copies laid g =
    let old = get_or rows note_row [] in
    let row = sets old 7 (numbers_of g) in
    let wide : length old ≡ suc locals_count = wide_at rows copies laid note_row (omega arith) in
    let still-wide : length row ≡ suc locals_count = length-sets old 7 (numbers_of g) ∙ wide in
    let there : get_or (set rows note_row row) note_row [] ≡ row = note-there rows copies laid row still-wide in
    let kept : (k : ℕ) → k < 7 → get_or row k 0 ≡ get_or old k 0 = sets-before old 7 (numbers_of g) in
    let number : (k : ℕ) → k < 6 → get_or row (7 + k) 0 ≡ get_or (numbers_of g) k 0 = λ k less. sets-there old 7 (numbers_of g) k less (omega (arith, wide)) in
    let pointer : (k : ℕ) → k < 4 → get_or (sets copies 60 (pointers_of g)) (60 + k) 0 ≡ get_or (pointers_of g) k 0 =
    λ k less. sets-there copies 60 (pointers_of g) k less (omega (arith, laid.copies-long)) in
    record {
      held =
          beside
          (behind rows copies laid row still-wide
          (rw (
            there,
            kept 0 (omega arith),
            kept 1 (omega arith),
            kept 2 (omega arith),
            kept 3 (omega arith),
            kept 4 (omega arith),
            kept 5 (omega arith),
            kept 6 (omega arith),
          )))
          (sets copies 60 (pointers_of g)) (length-sets copies 60 (pointers_of g) ∙ laid.copies-long) (sets-before copies 60 (pointers_of g));
      parked = λ not.
          rw (
            there,
            number 0 (omega arith),
            number 1 (omega arith),
            number 2 (omega arith),
            number 3 (omega arith),
            number 4 (omega arith),
            number 5 (omega arith),
            pointer 0 (omega arith),
            pointer 1 (omega arith),
            pointer 2 (omega arith),
            pointer 3 (omega arith),
          )
          (ap (λ (b : Bool). record { p = g.p; r = g.r; s = g.s; e = g.e; counter = g.counter; flag = g.flag; left = g.left; cycles = g.cycles; answer = g.answer; unspent = g.unspent; again = b }) (sym not));
    }
