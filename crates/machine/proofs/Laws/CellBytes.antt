-- Cells as bytes: what is read of them, and which cells a store to their bytes alters.
use mathlib.Core.List.{List, [], ◌∷◌, ◌++◌}
use Rattle.std.specs.Prelude.{◌≡◌, refl}
use Rattle.std.proofs.Math.Path.{sym, ap}
use Rattle.std.proofs.Common.{◌∙◌, mod-eq_of_lt, arith, length-set, drop-cons, length-take-le}
use Prim.Native.Nat.{ℕ, zero, suc, ◌+◌, ◌-◌, ◌*◌, ◌/◌, ◌%◌, ◌^◌, ◌≤◌, ◌<◌}
use Rattle.std.proofs.Math.ListN.{length, take, drop, get_or, set}
use Rattle.std.proofs.lemmas.List.Edits.{sets}
use Rattle.std.proofs.Math.Seq.{split_at, set_split}
use Rattle.plain.specs.All.{All}
use Rattle.plain.specs.Laws.All.{all-at, all_set, all-sets, all_append, all_take, all_drop}
use Rattle.numbers.specs.Bytes.{number_at, bytes_of}
use Rattle.numbers.specs.Lists.{list_at, bytes_of_list, AllBelow}
use Rattle.numbers.specs.Laws.Bytes.{Bytes, number-below, number_spelled}
use Rattle.numbers.specs.Laws.Lists.{length-list-at, list-below}
use Rattle.numbers.specs.Laws.Rewriting.{spelled-bytes, list-bytes, bytes-at, set_after, number-inside, rewritten}
use Rattle.links.specs.Fits.{CellFits}
use Rattle.machine.specs.View.{bytes_of_cells, overwritten}
use Rattle.machine.specs.Fits.{AllBytes}

below : (l : List ℕ) → All CellFits l → AllBelow (2 ^ 32) l
below [] h = tt
below (x ∷ xs) h = (h.0, below xs h.1)

fitting : (l : List ℕ) → AllBelow (2 ^ 32) l → All CellFits l
fitting [] h = tt
fitting (x ∷ xs) h = (h.0, fitting xs h.1)

module _ (all : List ℕ) (fit : All CellFits all) where
  front_long : (k : ℕ) → k < length all → length (take k all) ≡ k
  front_long k h = length-take-le k all (omega arith)

  before : (k : ℕ) → AllBelow (2 ^ 32) (take k all)
  before k = below (take k all) (all_take CellFits k all fit)

  after : (k : ℕ) → AllBelow (2 ^ 32) (drop k all)
  after k = below (drop k all) (all_drop CellFits k all fit)

  -- ---- one cell

  module _ (k : ℕ) (h : k < length all) where
    abbrev one : List ℕ
    one = get_or all k 0 ∷ []

    one-there : take k all ++ (one ++ drop (suc k) all) ≡ all
    one-there = sym (split_at all k 0 h)

    one_at : (o : ℕ) → 4 * length (take k all) + o ≡ 4 * k + o
    one_at o = omega (arith, front_long k h)

    -- what lies in a cell is read in its four bytes
    pub one_number : (n o : ℕ) → o + n ≤ 4 → number_at n (bytes_of_cells all) (4 * k + o) ≡ number_at n (bytes_of 4 (get_or all k 0)) o
    unfolding bytes_of_list
    one_number n o within =
        ap (λ (l : List ℕ). number_at n (bytes_of_cells l) (4 * k + o)) (sym one-there)
        ∙ ap (λ (a : ℕ). number_at n (bytes_of_cells (take k all ++ (one ++ drop (suc k) all))) a) (sym (one_at o))
        ∙ number-inside 4 (take k all) one (drop (suc k) all) n o within

    -- four bytes at a cell's place are the cell
    pub cell-number : number_at 4 (bytes_of_cells all) (4 * k) ≡ get_or all k 0
    cell-number =
        let held : CellFits (get_or all k 0) = all-at CellFits all fit k 0 h in
        let here : 4 * k ≡ 4 * k + 0 = omega arith in
        ap (number_at 4 (bytes_of_cells all)) here ∙ one_number 4 0 (omega arith) ∙ (number_spelled 4 (get_or all k 0) ∙ mod-eq_of_lt held)

    -- the highest of them stands first
    pub cell-byte : (j : ℕ) → j < 4 → number_at 1 (bytes_of_cells all) (4 * k + j) ≡ get_or all k 0 / 2 ^ (8 * (3 - j)) % 2 ^ 8
    cell-byte j within = one_number 1 j (omega arith) ∙ go j within
      where
        go : (j : ℕ) → j < 4 → number_at 1 (bytes_of 4 (get_or all k 0)) j ≡ get_or all k 0 / 2 ^ (8 * (3 - j)) % 2 ^ 8
        go zero less = refl
        go (suc zero) less = refl
        go (suc (suc zero)) less = refl
        go (suc (suc (suc zero))) less = omega arith
        go (suc (suc (suc (suc j)))) less = absurd (omega arith)

    -- bytes written in a cell alter no other: it becomes the number that its four bytes then spell
    one-overwritten : (o : ℕ) (bs : List ℕ) → AllBytes bs → o + length bs ≤ 4 →
        overwritten all (4 * k + o) bs ≡ set all k (number_at 4 (sets (bytes_of 4 (get_or all k 0)) o bs) 0)
    unfolding list_at bytes_of_list
    one-overwritten o bs bytes within =
        let front = take k all in
        let back = drop (suc k) all in
        ap (λ (l : List ℕ). overwritten l (4 * k + o) bs) (sym one-there)
        ∙ ap (λ (a : ℕ). overwritten (front ++ (one ++ back)) a bs) (sym (one_at o))
        ∙ rewritten 4 front one back o bs bytes within (before k) (after (suc k))
        ∙ sym (set_split all k (number_at 4 (sets (bytes_of 4 (get_or all k 0)) o bs) 0) h)

    -- a cell's four bytes written at its place are the cell
    pub cell-overwritten : (v : ℕ) → CellFits v → overwritten all (4 * k) (bytes_of 4 v) ≡ set all k v
    cell-overwritten v held =
        let here : 4 * k ≡ 4 * k + 0 = omega arith in
        ap (λ (a : ℕ). overwritten all a (bytes_of 4 v)) here ∙ one-overwritten 0 (bytes_of 4 v) (spelled-bytes 4 v) (omega arith) ∙
        ap (set all k) (number_spelled 4 v ∙ mod-eq_of_lt held)

    -- so bytes in a cell may be written by writing the cell
    pub one-by-cell : (o : ℕ) (bs : List ℕ) → AllBytes bs → o + length bs ≤ 4 →
        overwritten all (4 * k) (bytes_of 4 (number_at 4 (sets (bytes_of 4 (get_or all k 0)) o bs) 0)) ≡ overwritten all (4 * k + o) bs
    one-by-cell o bs bytes within =
        let w = sets (bytes_of 4 (get_or all k 0)) o bs in
        let held : CellFits (number_at 4 w 0) =
        number-below 4 w 0 (bytes-at w (all-sets (λ b. b < 2 ^ 8) (bytes_of 4 (get_or all k 0)) (spelled-bytes 4 (get_or all k 0)) o bs bytes)) in
        cell-overwritten (number_at 4 w 0) held ∙ sym (one-overwritten o bs bytes within)

  -- ---- two cells, one after the other

  module _ (c : ℕ) (h : suc c < length all) where
    abbrev two : List ℕ
    two = get_or all c 0 ∷ get_or all (suc c) 0 ∷ []

    two-there : take c all ++ (two ++ drop (suc (suc c)) all) ≡ all
    two-there =
        ap (λ (l : List ℕ). take c all ++ (get_or all c 0 ∷ l)) (sym (drop-cons all (suc c) 0 h)) ∙ sym (split_at all c 0 (omega arith))

    two_at : (o : ℕ) → 4 * length (take c all) + o ≡ 4 * c + o
    two_at o = omega (arith, front_long c (omega arith))

    -- their eight bytes
    abbrev pub pair : List ℕ
    pair = bytes_of 4 (get_or all c 0) ++ bytes_of 4 (get_or all (suc c) 0)

    -- what lies in them is read there
    pub pair-number : (n o : ℕ) → o + n ≤ 8 → number_at n (bytes_of_cells all) (4 * c + o) ≡ number_at n pair o
    unfolding bytes_of_list
    pair-number n o within =
        ap (λ (l : List ℕ). number_at n (bytes_of_cells l) (4 * c + o)) (sym two-there)
        ∙ ap (λ (a : ℕ). number_at n (bytes_of_cells (take c all ++ (two ++ drop (suc (suc c)) all))) a) (sym (two_at o))
        ∙ number-inside 4 (take c all) two (drop (suc (suc c)) all) n o within

    module _ (o : ℕ) (bs : List ℕ) (bytes : AllBytes bs) (within : o + length bs ≤ 8) where
      -- the two cells afterwards
      abbrev pub first : ℕ
      first = number_at 4 (sets pair o bs) 0

      abbrev pub second : ℕ
      second = number_at 4 (sets pair o bs) 4

      -- bytes written in them alter no other cell
      pair-overwritten : overwritten all (4 * c + o) bs ≡ set (set all c first) (suc c) second
      unfolding list_at bytes_of_list
      pair-overwritten =
          let front = take c all in
          let back = drop (suc (suc c)) all in
          let at : length front + 1 ≡ suc c = omega (arith, front_long c (omega arith)) in
          let once : set all c first ≡ front ++ (first ∷ get_or all (suc c) 0 ∷ back) =
          set_split all c first (omega arith) ∙ ap (λ (l : List ℕ). front ++ (first ∷ l)) (drop-cons all (suc c) 0 h) in
          let twice : set (set all c first) (suc c) second ≡ front ++ (first ∷ second ∷ back) =
          ap (λ (l : List ℕ). set l (suc c) second) once
          ∙ ap (λ (i : ℕ). set (front ++ (first ∷ get_or all (suc c) 0 ∷ back)) i second) (sym at)
          ∙ set_after front (first ∷ get_or all (suc c) 0 ∷ back) 1 second in
          ap (λ (l : List ℕ). overwritten l (4 * c + o) bs) (sym two-there)
          ∙ ap (λ (a : ℕ). overwritten (front ++ (two ++ back)) a bs) (sym (two_at o))
          ∙ rewritten 4 front two back o bs bytes within (before c) (after (suc (suc c)))
          ∙ sym twice

      pair-bytes : Bytes (sets pair o bs)
      pair-bytes =
          bytes-at (sets pair o bs)
          (all-sets (λ b. b < 2 ^ 8) pair (all_append (λ b. b < 2 ^ 8) (bytes_of 4 (get_or all c 0)) (bytes_of 4 (get_or all (suc c) 0)) (spelled-bytes 4 (get_or all c 0)) (spelled-bytes 4 (get_or all (suc c) 0))) o bs bytes)

pub overwritten-long : (all : List ℕ) (a : ℕ) (bs : List ℕ) → length (overwritten all a bs) ≡ length all
overwritten-long all a bs = length-list-at 4 (length all) (sets (bytes_of_cells all) a bs) 0

pub overwritten-fits : (all : List ℕ) (a : ℕ) (bs : List ℕ) → AllBytes bs → All CellFits (overwritten all a bs)
overwritten-fits all a bs bytes =
    fitting (overwritten all a bs)
    (list-below 4 (length all) (sets (bytes_of_cells all) a bs) 0
    (bytes-at (sets (bytes_of_cells all) a bs) (all-sets (λ b. b < 2 ^ 8) (bytes_of_cells all) (list-bytes 4 all) a bs bytes)))

-- the two cells written one by one
pub pair-by-cells : (all : List ℕ) (fit : All CellFits all) (c : ℕ) (h : suc c < length all) (o : ℕ) (bs : List ℕ) (bytes : AllBytes bs) (within : o + length bs ≤ 8) →
    overwritten (overwritten all (4 * c) (bytes_of 4 (first all fit c h o bs bytes within))) (4 * suc c) (bytes_of 4 (second all fit c h o bs bytes within)) ≡
    overwritten all (4 * c + o) bs
pair-by-cells all fit c h o bs bytes within =
    let x = first all fit c h o bs bytes within in
    let y = second all fit c h o bs bytes within in
    let held = pair-bytes all fit c h o bs bytes within in
    let x_fits : CellFits x = number-below 4 (sets (pair all fit c h) o bs) 0 held in
    let y-fits : CellFits y = number-below 4 (sets (pair all fit c h) o bs) 4 held in
    let once : overwritten all (4 * c) (bytes_of 4 x) ≡ set all c x = cell-overwritten all fit c (omega arith) x x_fits in
    ap (λ (l : List ℕ). overwritten l (4 * suc c) (bytes_of 4 y)) once
    ∙ cell-overwritten (set all c x) (all_set CellFits all fit c x x_fits) (suc c) (omega (arith, length-set all c x)) y y-fits
    ∙ sym (pair-overwritten all fit c h o bs bytes within)
