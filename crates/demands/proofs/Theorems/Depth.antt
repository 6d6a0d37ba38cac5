-- What a code takes and puts stands in its table: P after a step by the code alone.
use Rattle.std.specs.Prelude.{◌≡◌, ℕ, ◌+◌, ◌-◌, ◌≤◌, length}
use Rattle.std.proofs.Common.{ap, subst, arith}
use Rattle.machine.specs.Codes.{THROW, RESETSP, entry_at}
use Rattle.machine.specs.Fetch.{instruction_at}
use Rattle.machine.specs.Step.{done, step_of, row_at, tests_at}
use Rattle.machine.proofs.Laws.Passed.{step-done, passed-at}
use Rattle.machine.proofs.Laws.Marks.{marked, marked-dup}
use Rattle.machine.proofs.Laws.Puts.{column, row-puts}
use Rattle.machine.specs.declared.Machine.{Machine}
use Rattle.machine.specs.declared.Reach.{Reach}
use Rattle.demands.specs.History.{World, code_at}

-- No row puts more cells than the table says.
pub most-by-table : (reach : Reach) (w : World) → length (row_at reach w.memory w.machine).puts ≤ (entry_at (code_at w)).puts
unfolding instruction_at
most-by-table reach w =
    subst (λ (n : ℕ). length (row_at reach w.memory w.machine).puts ≤ n) (column (code_at w))
    (row-puts (instruction_at reach w.memory w.machine.counter) w.memory w.machine (entry_at (code_at w)).op).most

-- But for ?DUP, THROW and RESETSP, P is then what it was, less the cells taken, and the cells put.
pub depth-by-table : (reach : Reach) (w v : World) (k : ℕ) → step_of reach w.memory w.machine ≡ done v.memory v.machine k →
    (code_at w ≡ 0x33 → ⊥) → (code_at w ≡ 0x0D → ⊥) → (code_at w ≡ 0x0C → ⊥) →
    v.machine.p ≡ w.machine.p - (entry_at (code_at w)).takes + (entry_at (code_at w)).puts
unfolding instruction_at
depth-by-table reach w v k e not-dup not-throw not-reset =
    let d = step-done reach w.memory w.machine v.memory v.machine k e in
    let ts = tests_at reach w.memory w.machine in
    let op = (entry_at (code_at w)).op in
    let h =
    (row-puts (instruction_at reach w.memory w.machine.counter) w.memory w.machine op
    ).just (λ is. not-dup (marked-dup (code_at w) is), λ is. not-throw (marked (code_at w) THROW is), λ is. not-reset (marked (code_at w) RESETSP is))
    (passed-at 12 ts d.passed) (passed-at 13 ts d.passed) in
    let p-is : v.machine.p ≡ (row_at reach w.memory w.machine).keeps + length (row_at reach w.memory w.machine).puts =
    ap (λ (m : Machine). m.p) d.machine in
    omega (arith, p-is, h.0, h.1, column (code_at w))
