-- What those so far have lost, and then what all have.
use Rattle.std.proofs.Common.{◌≡◌, List, [], ◌∷◌, ◌++◌, ℕ, ◌+◌, ◌%◌, ◌^◌, length, map, get_or, refl, ap, sym, ◌∙◌, arith, rules}
use Rattle.std.proofs.lemmas.Fn.{fold_over, fronts, slice_gives}
use Rattle.std.proofs.lemmas.List.{ext_get_or, get_or-map, length-map, map-append}
use Rattle.machine.specs.Limits.{tasks_count}
use Rattle.machine.specs.Sum.{sum_of}
use Rattle.machine.proofs.Laws.Sum.{sum-append}
use Rattle.run_words.specs.Levels.{note_in, losses_in}
use Rattle.run_words.specs.Laws.Tabled.{length-tabulated, tabulated-at}
use Rattle.run_levels.proofs.sums.lost_by_all.Goals as goal

abbrev lost : List (List ℕ) → ℕ
lost row = (note_in row).lost

losses : (rows : List (List (List ℕ))) → length rows ≡ tasks_count → map lost rows ≡ losses_in rows
unfolding losses_in
losses rows long =
    ext_get_or 0 (map lost rows) _ (length-map rows lost ∙ long ∙ sym (length-tabulated tasks_count (λ t. lost (get_or rows t []))))
    (λ i less.
    get_or-map lost rows i [] 0 (omega (arith, length-map rows lost)) ∙
    sym (tabulated-at tasks_count (λ t. lost (get_or rows t [])) i 0 (omega (arith, long, length-map rows lost))))

abbrev HaveLost : List (List (List ℕ)) → ℕ → Type 0
HaveLost rows n = n ≡ sum_of (map lost rows) % 2 ^ 32

none_yet : HaveLost [] 0
unfolding sum_of
none_yet = refl

one_more : (rows : List (List (List ℕ))) (row : List (List ℕ)) (n m : ℕ) → HaveLost rows n → m ≡ (n + lost row) % 2 ^ 32 → HaveLost (rows ++ (row ∷ [])) m
unfolding sum_of
one_more rows row n m h e =
    let apart : sum_of (map lost (rows ++ (row ∷ []))) ≡ sum_of (map lost rows) + (lost row + 0) =
    ap sum_of (map-append lost rows (row ∷ [])) ∙ sum-append (map lost rows) (lost row ∷ []) in
    omega (arith, h, e, apart)

pub returns : goal.returns
returns c =
    fold_over fronts (λ y. y.now) _ HaveLost _ (λ ys a x b f' e k. search (rules, one_more)) c.iter.result _ 0 _ (slice_gives c.iter.result) none_yet c.fold.ensures.ran ∙
    ap (λ (l : List ℕ). sum_of l % 2 ^ 32) (ap (map lost) c.iter.ensures.rest ∙ losses c.args.rows.now c.told-rows)
