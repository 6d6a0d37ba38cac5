-- The cell that a step leaves on top where it puts one.
use Rattle.std.specs.Prelude.{◌≡◌, List, [], ◌∷◌, ℕ, ◌+◌, ◌-◌, ◌<◌, length, get_or}
use Rattle.std.proofs.Common.{ap, ◌∙◌, arith, get_or-set_same}
use Rattle.std.proofs.lemmas.List.Edits.{sets}
use Rattle.machine.specs.State.{Whole}
use Rattle.machine.specs.Rows.{top}
use Rattle.machine.specs.Step.{done, step_of, row_at}
use Rattle.machine.proofs.Laws.Passed.{step-done}
use Rattle.machine.proofs.Laws.Kept.{Steady, step-steady}
use Rattle.machine.specs.declared.Machine.{Machine}
use Rattle.machine.specs.declared.Reach.{Reach}
use Rattle.demands.specs.History.{World}

put-top : (cells : List ℕ) (keeps : ℕ) (puts : List ℕ) (x : ℕ) → puts ≡ x ∷ [] → keeps < length cells →
    get_or (sets cells keeps puts) (keeps + length puts - 1) 0 ≡ x
put-top cells keeps puts x is below =
    let last : keeps + 1 - 1 ≡ keeps = omega arith in
    ap (λ (xs : List ℕ). get_or (sets cells keeps xs) (keeps + length xs - 1) 0) is ∙
    (ap (λ (n : ℕ). get_or (sets cells keeps (x ∷ [])) n 0) last ∙ get_or-set_same cells keeps x 0 below)

pub top-after : (reach : Reach) (w v : World) (k : ℕ) → Whole w.machine → Steady w.machine →
    step_of reach w.memory w.machine ≡ done v.memory v.machine k → (x : ℕ) → (row_at reach w.memory w.machine).puts ≡ x ∷ [] → top v.machine ≡ x
top-after reach w v k whole steady e x is =
    let fine = step-steady reach w.memory w.machine v.memory v.machine k whole steady e in
    let r = row_at reach w.memory w.machine in
    let is-put = (step-done reach w.memory w.machine v.memory v.machine k e).machine in
    let p-is : v.machine.p ≡ r.keeps + length r.puts = ap (λ (m : Machine). m.p) is-put in
    let one : length r.puts ≡ 1 = ap (λ (xs : List ℕ). length xs) is in
    let below : r.keeps < length w.machine.cells = omega (arith, fine.steady.p-within, whole.cells-long) in
    ap top is-put ∙ put-top w.machine.cells r.keeps r.puts x is below
