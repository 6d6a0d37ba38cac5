-- What a step that is carried out tells: no test held, and its row was put.
use Rattle.std.specs.Prelude.{◌≡◌, refl, Bool, true, false, List, [], ◌∷◌, ℕ, eqb}
use Rattle.std.proofs.Common.{arith}
use Rattle.plain.specs.Choice.{pick}
use Rattle.machine.specs.Fetch.{instruction_at}
use Rattle.machine.specs.Checks.{Test}
use Rattle.machine.specs.Step.{Stepped, refused, done, put, cost_of, unless, carried, row_at, tests_at, step_of}
use Rattle.machine.specs.declared.Machine.{Machine}
use Rattle.machine.specs.declared.Reach.{Reach}

-- no test of the list holds
abbrev pub AllPass : List Test → Type 0
AllPass [] = Unit {0}
AllPass (t ∷ ts) = (t.holds ≡ false) × AllPass ts

pub record Unrefused (ts : List Test) (result s : Stepped) : Type 0 where
  pub passed : AllPass ts
  pub same : result ≡ s

pub unless-done : (ts : List Test) (result : Stepped) (mem : List ℕ) (m : Machine) (k : ℕ) →
    unless ts result ≡ done mem m k → Unrefused ts result (done mem m k)
unless-done [] result mem m k e = record { passed = tt; same = e }
unless-done (t ∷ ts) result mem m k e = go t.holds refl e (unless-done ts result mem m k)
  where
    go : (b : Bool) → t.holds ≡ b → pick b (refused t.number) (unless ts result) ≡ done mem m k →
        (unless ts result ≡ done mem m k → Unrefused ts result (done mem m k)) → Unrefused (t ∷ ts) result (done mem m k)
    go true h e later = let z : ◌≡◌ {A = ℕ} 0 1 = cc in absurd (omega arith)
    go false h e later = record { passed = (h, (later e).passed); same = (later e).same }

-- whether the test with this number holds, wherever it stands in the list
abbrev pub holds_at : ℕ → List Test → Bool
holds_at number [] = false
holds_at number (t ∷ ts) = pick (eqb t.number number) t.holds (holds_at number ts)

-- where none holds, none does by its number
pub passed-at : (number : ℕ) (ts : List Test) → AllPass ts → holds_at number ts ≡ false
passed-at number [] h = refl
passed-at number (t ∷ ts) h = go (passed-at number ts h.1) (eqb t.number number)
  where
    go : holds_at number ts ≡ false → (b : Bool) → pick b t.holds (holds_at number ts) ≡ false
    go later true = h.0
    go later false = later

pub record Done (reach : Reach) (mem : List ℕ) (m : Machine) (mem' : List ℕ) (m' : Machine) (k : ℕ) : Type 0 where
  pub passed : AllPass (tests_at reach mem m)
  pub memory : mem' ≡ (row_at reach mem m).memory
  pub machine : m' ≡ put (row_at reach mem m) m
  pub cost : k ≡ cost_of (instruction_at reach mem m.counter) m

pub step-done : (reach : Reach) (mem : List ℕ) (m : Machine) (mem' : List ℕ) (m' : Machine) (k : ℕ) →
    step_of reach mem m ≡ done mem' m' k → Done reach mem m mem' m' k
unfolding step_of carried
step-done reach mem m mem' m' k e =
    let i = instruction_at reach mem m.counter in
    let u =
    unless-done (tests_at reach mem m) (done (row_at reach mem m).memory (put (row_at reach mem m) m) (cost_of i m)) mem' m' k e in
    record { passed = u.passed; memory = cc u.same; machine = cc u.same; cost = cc u.same }
