-- Lines that grow by one number or one cell.
use Rattle.std.proofs.Common.{List, [], ◌∷◌, ◌++◌, ◌≡◌, refl, sym, ap, subst, ◌∙◌, ℕ, ◌+◌, ◌≤◌, ◌<◌, length, take, get_or, append_assoc, arith, flat_map}
use Rattle.std.proofs.lemmas.List.{take_more, take_all}
use Rattle.std.proofs.lemmas.Grind.{flat_map-append}
use mathlib.Core.List.{append-nil}
use Rattle.numbers.specs.Putting.{Appended}
use Rattle.numbers.specs.Laws.Putting.{appended_then}
use Rattle.report.specs.Text.{space, line_feed, field, line, cell_line, cell_lines}

-- the first of some elements stand, each as its text, and one more is put
pub grown_more : (text : ℕ → List ℕ) (xs l m k : List ℕ) (from at next i : ℕ) → i < length xs → Appended l from (flat_map text (take i xs)) m at
    → Appended m at (text (get_or xs i 0)) k next → Appended l from (flat_map text (take (i + 1) xs)) k next
grown_more text xs l m k from at next i h so_far more =
    let one : text (get_or xs i 0) ≡ flat_map text (get_or xs i 0 ∷ []) = sym (append-nil (text (get_or xs i 0))) in
    let grown : flat_map text (take i xs) ++ text (get_or xs i 0) ≡ flat_map text (take (i + 1) xs) =
    ap (λ (t : List ℕ). flat_map text (take i xs) ++ t) one
    ∙ sym (flat_map-append text (take i xs) (get_or xs i 0 ∷ []))
    ∙ sym (ap (flat_map text) (take_more xs i 0 h)) in
    subst (λ (t : List ℕ). Appended l from t k next) grown (appended_then so_far more)

-- ---- numbers on a line

abbrev pub spaced : ℕ → List ℕ
spaced n = field n space

line-last : (xs : List ℕ) (v : ℕ) → line (xs ++ (v ∷ [])) ≡ flat_map spaced xs ++ field v line_feed
unfolding line
line-last [] v = refl
line-last (x ∷ []) v = ap (λ (l : List ℕ). l ++ field v line_feed) (sym (append-nil (spaced x)))
line-last (x ∷ y ∷ xs) v =
    ap (λ (l : List ℕ). spaced x ++ l) (line-last (y ∷ xs) v) ∙ sym (append_assoc (spaced x) (flat_map spaced (y ∷ xs)) (field v line_feed))

-- the last number ends the line
pub line_ends : (xs l m k : List ℕ) (last at next i : ℕ) → length xs ≡ last + 1 → length (take last xs) ≤ i
    → Appended l 0 (flat_map spaced (take i (take last xs))) m at → Appended m at (field (get_or xs last 0) line_feed) k next
    → Appended l 0 (line xs) k next
line_ends xs l m k last at next i long all added more =
    let whole : flat_map spaced (take i (take last xs)) ++ field (get_or xs last 0) line_feed ≡ line xs =
    ap (λ (ns : List ℕ). flat_map spaced ns ++ field (get_or xs last 0) line_feed) (take_all i (take last xs) all)
    ∙ sym (line-last (take last xs) (get_or xs last 0))
    ∙ ap line (sym (take_more xs last 0 (omega arith)) ∙ take_all (last + 1) xs (omega arith)) in
    subst (λ (t : List ℕ). Appended l 0 t k next) whole (appended_then added more)

-- ---- cells on their lines

each-cell : (vs : List ℕ) → flat_map cell_line vs ≡ cell_lines vs
unfolding cell_lines
each-cell [] = refl
each-cell (v ∷ vs) = ap (λ (l : List ℕ). cell_line v ++ l) (each-cell vs)

pub cells_end : (vs l m : List ℕ) (from at i : ℕ) → length vs ≤ i → Appended l from (flat_map cell_line (take i vs)) m at → Appended l from (cell_lines vs) m at
cells_end vs l m from at i all added =
    subst (λ (t : List ℕ). Appended l from t m at) (ap (flat_map cell_line) (take_all i vs all) ∙ each-cell vs) added
