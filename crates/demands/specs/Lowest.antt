-- Which of several tests gives the answer.
use Rattle.std.specs.Prelude.{◌⊎◌, ◌≡◌, Bool, true, false, List, [], ◌∷◌, ℕ, ◌*◌, ◌≤◌, leb, eqb}
use Rattle.plain.specs.Choice.{pick}
use Rattle.machine.specs.Checks.{Test}

-- a test of the list has this number and holds
abbrev pub Applies : ℕ → List Test → Type 0
Applies k [] = ⊥
Applies k (t ∷ ts) = ((t.number ≡ k) × (t.holds ≡ true)) ⊎ Applies k ts

-- the test with this number holds, and none before it does
abbrev pub First : ℕ → List Test → Type 0
First k [] = ⊥
First k (t ∷ ts) = ((t.number ≡ k) × (t.holds ≡ true)) ⊎ ((t.holds ≡ false) × First k ts)

-- the place of a number: 16 is tested after 4 and before 5, all others stand in their order
abbrev pub rank : ℕ → ℕ
rank n = pick (eqb n 16) 9 (2 * n)

-- n applies, and nothing lower does
pub record Lowest (n : ℕ) (ts : List Test) : Type 0 where
  pub applies : Applies n ts
  pub lowest : (k : ℕ) → Applies k ts → rank n ≤ rank k

-- the answers that a run of one machine can have: 0 to 13, and 16
abbrev pub is_answer : ℕ → Bool
is_answer n = pick (eqb n 16) true (leb n 13)
