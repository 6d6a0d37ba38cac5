-- What two operations on cells leave, the second with the flag that the first left.
use Rattle.std.specs.Prelude.{◌≡◌, ℕ, ◌^◌, ◌<◌}
use Rattle.std.proofs.Common.{ap, ◌∙◌}
use Rattle.word.specs.Double.{double}
use Rattle.word.specs.Dispatch.{two_cells_of}
use Rattle.word.specs.declared.Outcome.{Outcome}
use Rattle.word.specs.declared.Outcome.TheVariants.{Single}
use Rattle.word.specs.declared.TwoCells.{TwoCells}
use Rattle.machine.specs.State.{Whole}
use Rattle.machine.specs.Fits.{Exist}
use Rattle.machine.specs.Codes.{Op, TWO, entry_at}
use Rattle.machine.specs.Fetch.{instruction_at}
use Rattle.machine.specs.Rows.{Row, top, second, row_of, two_row}
use Rattle.machine.specs.Step.{done, step_of}
use Rattle.machine.proofs.Laws.Passed.{step-done}
use Rattle.machine.proofs.Laws.Kept.{Steady, step-steady}
use Rattle.machine.proofs.Laws.Carries.{cell-fits, step-carries}
use Rattle.machine.specs.declared.Machine.{Machine}
use Rattle.machine.specs.declared.Reach.{Reach}
use Rattle.demands.specs.History.{World, code_at}
use Rattle.demands.specs.Double.{LowThenHigh, on_top}
use Rattle.demands.proofs.Laws.Histories.{history-kept, history-carries}
use Rattle.demands.proofs.Laws.Tops.{top-after}
use Rattle.demands.proofs.Theorems.Flag.{flag-stays}

-- an operation on two cells that puts one
two-left : (reach : Reach) (w v : World) (k : ℕ) (o : TwoCells) (x flag : ℕ) → Whole w.machine → Steady w.machine →
    step_of reach w.memory w.machine ≡ done v.memory v.machine k → (entry_at (code_at w)).op ≡ TWO o →
    two_cells_of o (second w.machine) (top w.machine) w.machine.flag ≡ Single x flag → (top v.machine ≡ x) × (v.machine.flag ≡ flag)
unfolding instruction_at row_of
two-left reach w v k o x flag whole steady e is left =
    let i = instruction_at reach w.memory w.machine.counter in
    let row : Op → Row = λ op. row_of i w.memory w.machine op in
    let out : Outcome → Row = λ y. two_row i w.memory w.machine y in
    let is-put = (step-done reach w.memory w.machine v.memory v.machine k e).machine in (
      top-after reach w v k whole steady e x (ap (λ (op : Op). (row op).puts) is ∙ ap (λ (y : Outcome). (out y).puts) left),
      ap (λ (m : Machine). m.flag) is-put ∙ (ap (λ (op : Op). (row op).flag) is ∙ ap (λ (y : Outcome). (out y).flag) left),
    )

-- what both mean together, wherever their cells fit, is what is left
pub left-in-two : {low high : ℕ} {a b c d : World} → Exist a.memory a.machine → Steady a.machine → LowThenHigh low high a b c d →
    (lo ho : TwoCells) → (entry_at low).op ≡ TWO lo → (entry_at high).op ≡ TWO ho → (number flag : ℕ) →
    (second a.machine < 2 ^ 32 → second c.machine < 2 ^ 32 → top a.machine < 2 ^ 32 → top c.machine < 2 ^ 32 →
    (x f y g : ℕ) × (two_cells_of lo (second a.machine) (top a.machine) a.machine.flag ≡ Single x f) ×
    (two_cells_of ho (second c.machine) (top c.machine) f ≡ Single y g) × (double x y ≡ number) × (g ≡ flag)) →
    (on_top b d ≡ number) × (d.machine.flag ≡ flag)
left-in-two {a = a} {b = b} {c = c} {d = d} exist steady l lo ho is-lo is-ho number flag means =
    let fine = step-steady l.low-reach a.memory a.machine b.memory b.machine l.low-cost exist.whole steady l.low-done in
    let at_b = step-carries l.low-reach a.memory a.machine b.memory b.machine l.low-cost steady exist l.low-done in
    let at_c = history-carries l.between l.leaves-bytes fine.steady at_b in
    let kept = history-kept l.between fine.whole fine.steady in
    let (x, f, y, g, low-left, high-left, is_number, is-flag) =
    means (cell-fits a.machine exist.fits _) (cell-fits c.machine at_c.fits _) (cell-fits a.machine exist.fits _) (cell-fits c.machine at_c.fits _) in
    let low = two-left l.low-reach a b l.low-cost lo x f exist.whole steady l.low-done (ap (λ (n : ℕ). (entry_at n).op) l.low-code ∙ is-lo) low-left in
    let between : c.machine.flag ≡ f = flag-stays l.between l.none_moves ∙ low.1 in
    let high =
    two-left l.high-reach c d l.high-cost ho y g kept.0 kept.1 l.high-done (ap (λ (n : ℕ). (entry_at n).op) l.high-code ∙ is-ho)
    (ap (λ (n : ℕ). two_cells_of ho (second c.machine) (top c.machine) n) between ∙ high-left) in
    ((λ i. double (low.0 i) (high.0 i)) ∙ is_number, high.1 ∙ is-flag)
