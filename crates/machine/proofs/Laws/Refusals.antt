-- An instruction is refused with a number that a task can keep, and that leaves it no longer ready.
use Rattle.std.specs.Prelude.{◌≡◌, Bool, true, false, List, [], ◌∷◌, ℕ, T, eqb}
use Rattle.std.proofs.Common.{sym, subst}
use Rattle.plain.specs.Choice.{pick, both, not}
use Rattle.plain.specs.Laws.Choice.{both-parts, opposed}
use Rattle.machine.specs.Fetch.{instruction_at}
use Rattle.machine.specs.Checks.{Test}
use Rattle.machine.specs.Step.{refused, done, put, cost_of, unless, carried, row_at, tests_at, step_of}
use Rattle.machine.specs.Tasks.{ready, can_keep}
use Rattle.machine.proofs.Laws.Clash.{never}
use Rattle.machine.specs.declared.Machine.{Machine}
use Rattle.machine.specs.declared.Reach.{Reach}

-- what passes at every number of a list of tests
abbrev every_number : (ℕ → Bool) → List Test → Bool
every_number f [] = true
every_number f (t ∷ ts) = both (f t.number) (every_number f ts)

-- passes at the number of the one that refuses
refused-passes : (f : ℕ → Bool) (mem : List ℕ) (m : Machine) (cost k : ℕ) (ts : List Test) → T (every_number f ts) →
    unless ts (done mem m cost) ≡ refused k → T (f k)
refused-passes f mem m cost k [] every e = never (cc)
refused-passes f mem m cost k (t ∷ ts) every e =
    let p = both-parts (f t.number) (every_number f ts) every in
    go t.holds p.0 (refused-passes f mem m cost k ts p.1) e
  where
    go : (b : Bool) → T (f t.number) → (unless ts (done mem m cost) ≡ refused k → T (f k)) →
        pick b (refused t.number) (unless ts (done mem m cost)) ≡ refused k → T (f k)
    go true here later e = let same : t.number ≡ k = cc in subst (λ (n : ℕ). T (f n)) same here
    go false here later e = later e

abbrev leaves : ℕ → Bool
leaves k = both (can_keep k) (not (eqb k ready))

pub refused-leaves : (reach : Reach) (mem : List ℕ) (m : Machine) (k : ℕ) → step_of reach mem m ≡ refused k → T (can_keep k) × (k ≡ ready → ⊥)
unfolding step_of carried
refused-leaves reach mem m k e =
    let row = row_at reach mem m in
    let p =
    both-parts (can_keep k) (not (eqb k ready))
    (refused-passes leaves row.memory (put row m) (cost_of (instruction_at reach mem m.counter) m) k (tests_at reach mem m) tt e) in
    (p.0, λ (is : k ≡ ready). opposed (eqb k ready) p.1 (subst (λ (n : ℕ). T (eqb n ready)) (sym is) tt))
