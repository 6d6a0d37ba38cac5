-- Steps and runs under a reach, on memories that are alike within reach.
use Rattle.std.specs.Prelude.{◌≡◌, Bool, true, false, List, [], ◌∷◌, eqb}
use Rattle.std.proofs.Math.Path.{refl, ap, subst}
use Rattle.std.proofs.Common.{sym, ◌∙◌}
use Prim.Native.Nat.{ℕ, zero, suc, ◌+◌}
use Rattle.plain.specs.Choice.{pick, both}
use Rattle.numbers.specs.Bytes.{byte_at}
use Rattle.machine.specs.Codes.{entry_at, code_pause}
use Rattle.machine.specs.Reach.{Bar, none, outside, foreign}
use Rattle.machine.specs.Fetch.{Instruction, instruction_at}
use Rattle.machine.specs.Rows.{row_of}
use Rattle.machine.specs.Checks.{Test, tests}
use Rattle.machine.specs.Lines.{let_in}
use Rattle.machine.specs.Step.{Stepped, refused, done, put, cost_of, unless, carry, carried, row_at, step_of}
use Rattle.machine.specs.Run.{After, Manner, ended, passes, run_from}
use Rattle.machine.proofs.Laws.Along.{along}
use Rattle.machine.proofs.Laws.Passed.{AllPass, step-done}
use Rattle.machine.proofs.Laws.Steps.{after_done, run-spent, run-step}
use Rattle.machine.proofs.Laws.Unbarred.{fetch-unbarred}
use Rattle.machine.specs.declared.Machine.{Machine}
use Rattle.machine.specs.declared.Reach.{Reach}
use Rattle.task_demands.specs.Isolation.{Spares, Alike, SameStep, refuses, does, SameRun}
use Rattle.task_demands.proofs.Laws.Fetched.{same-bar, same_code, same-instruction}
use Rattle.task_demands.proofs.Laws.SameRow.{same_row}

alike-itself : (reach : Reach) (mem : List ℕ) → Alike reach mem mem
alike-itself reach mem = record { same_length = refl; same_bytes = λ a may. refl }

module _ (reach : Reach) where
  -- the same tests, and the same effect where none holds
  unless-same : (ts : List Test) (x y : Stepped) → (AllPass ts → SameStep reach x y) → SameStep reach (unless ts x) (unless ts y)
  unless-same [] x y same = same tt
  unless-same (t ∷ ts) x y same = go t.holds refl (λ holds. unless-same ts x y (λ later. same (holds, later)))
    where
      go : (b : Bool) → t.holds ≡ b → (t.holds ≡ false → SameStep reach (unless ts x) (unless ts y)) →
          SameStep reach (pick b (refused t.number) (unless ts x)) (pick b (refused t.number) (unless ts y))
      go true is later = refuses t.number
      go false is later = later is

  done-same : (mem twin : List ℕ) (m m' : Machine) (k : ℕ) → m ≡ m' → Alike reach mem twin → SameStep reach (done mem m k) (done twin m' k)
  done-same mem twin m m' k same alike = subst (λ (x : Machine). SameStep reach (done mem m k) (done twin x k)) same (does alike)

carried_same : (i : Instruction) (mem twin : List ℕ) (m : Machine) → Alike i.reach mem twin →
    SameStep i.reach (carried i mem m) (carried i twin m)
unfolding carried
carried_same i mem twin m alike =
    let op = (entry_at i.code).op in
    let row = row_of i mem m op in
    let other = row_of i twin m op in
    let same = same_row i mem twin m alike op in
    subst (λ (ts : List Test). SameStep i.reach (carry i row m) (unless ts (done other.memory (put other m) (cost_of i m)))) same.same_tests
    (unless-same i.reach (tests i m row) (done row.memory (put row m) (cost_of i m)) (done other.memory (put other m) (cost_of i m))
    (λ passed.
    let effect = same.same_effect passed in
    done-same i.reach row.memory other.memory (put row m) (put other m) (cost_of i m) effect.same-machine effect.alike-after))

-- an instruction whose bytes are barred is refused for that
outside-refused : (i : Instruction) (mem : List ℕ) (m : Machine) → i.bar ≡ outside → carried i mem m ≡ refused 3
unfolding carried
outside-refused i mem m e = rw e

foreign-refused : (i : Instruction) (mem : List ℕ) (m : Machine) → i.bar ≡ foreign → carried i mem m ≡ refused 17
unfolding carried
foreign-refused i mem m e = rw e

module _ (reach : Reach) (mem twin : List ℕ) (m : Machine) (alike : Alike reach mem twin) where
  both-refused : (n : ℕ) (x y : Stepped) → x ≡ refused n → y ≡ refused n → SameStep reach x y
  both-refused n x y e e' =
      subst (λ (z : Stepped). SameStep reach z y) (sym e) (subst (λ (z : Stepped). SameStep reach (refused n) z) (sym e') (refuses n))

  pub same_step : SameStep reach (step_of reach mem m) (step_of reach twin m)
  unfolding step_of instruction_at
  same_step = go (instruction_at reach mem m.counter).bar refl
    where
      go : (b : Bar) → (instruction_at reach mem m.counter).bar ≡ b →
          SameStep reach (carried (instruction_at reach mem m.counter) mem m) (carried (instruction_at reach twin m.counter) twin m)
      go none is =
          subst (λ (j : Instruction). SameStep reach (carried (instruction_at reach mem m.counter) mem m) (carried j twin m))
          (same-instruction reach m.counter mem twin alike is)
          (carried_same (instruction_at reach mem m.counter) mem twin m alike)
      go outside is =
          both-refused 3 _ _ (outside-refused _ mem m is) (outside-refused _ twin m (sym (same-bar reach m.counter mem twin alike) ∙ is))
      go foreign is =
          both-refused 17 _ _ (foreign-refused _ mem m is) (foreign-refused _ twin m (sym (same-bar reach m.counter mem twin alike) ∙ is))

  -- where it is carried out, its code is the same
  same-code-done : (mem' : List ℕ) (m' : Machine) (k : ℕ) → step_of reach mem m ≡ done mem' m' k → byte_at mem m.counter ≡ byte_at twin m.counter
  same-code-done mem' m' k e =
      same_code reach m.counter mem twin alike
      (fetch-unbarred (instruction_at reach mem m.counter) m (row_at reach mem m) (step-done reach mem m mem' m' k e).passed)

-- a step touches nothing out of reach
pub step-spares : (reach : Reach) (mem : List ℕ) (m : Machine) (mem' : List ℕ) (m' : Machine) (k : ℕ) → step_of reach mem m ≡ done mem' m' k →
    Spares reach mem mem'
unfolding instruction_at
step-spares reach mem m mem' m' k e =
    let i = instruction_at reach mem m.counter in
    let d = step-done reach mem m mem' m' k e in
    let row = same_row i mem mem m (alike-itself reach mem) (entry_at i.code).op in
    λ a out. ap (λ (x : List ℕ). byte_at x a) d.memory ∙ (row.same_effect d.passed).spared a out

module _ (reach : Reach) (manner : Manner) where
  pub run-spares : (left : ℕ) (mem : List ℕ) (m : Machine) (n c : ℕ) → Spares reach mem (run_from reach manner left mem m n c).memory
  run-spares left mem m n c =
      along reach manner (λ now m n c. Spares reach mem now)
      (λ now m n c mem' m' k so_far e a out. step-spares reach now m mem' m' k e a out ∙ so_far a out) (λ now m n c so_far. so_far) left mem m n c (λ a out. refl)

  abbrev SameRest : ℕ → Type 0
  SameRest left = (mem twin : List ℕ) (m : Machine) (n c : ℕ) → Alike reach mem twin →
      SameRun reach (run_from reach manner left mem m n c) (run_from reach manner left twin m n c)

  -- what a step leads to, where it passes the turn and where it does not
  abbrev onward : ℕ → List ℕ → Machine → ℕ → ℕ → Bool → Stepped → After
  onward left mem m n c passing (refused number) = ended number mem m n c
  onward left mem m n c passing (done mem' m' cost) = after_done reach manner passing left mem' m' (suc n) (c + cost)

  same-onward : (left : ℕ) (mem twin : List ℕ) (m : Machine) (n c : ℕ) → Alike reach mem twin → (x y : Bool) (s t : Stepped) →
      ((mem' : List ℕ) (m' : Machine) (k : ℕ) → s ≡ done mem' m' k → x ≡ y) → SameRest left → SameStep reach s t →
      SameRun reach (onward left mem m n c x s) (onward left twin m n c y t)
  same-onward left mem twin m n c alike x y s t passing later (refuses number) = record { same-ran = refl; alike = alike }
  same-onward left mem twin m n c alike x y s t passing later (does {mem = mem'} {twin = twin'} {m = m'} {k = k} then) =
      subst (λ (z : Bool). SameRun reach (onward left mem m n c x (done mem' m' k)) (onward left twin m n c z (done twin' m' k))) (passing mem' m' k refl) (go x)
    where
      go : (b : Bool) → SameRun reach (onward left mem m n c b (done mem' m' k)) (onward left twin m n c b (done twin' m' k))
      go true = record { same-ran = refl; alike = then }
      go false = later mem' twin' m' (suc n) (c + k) then

  pub same-run : (left : ℕ) → SameRest left
  same-run zero mem twin m n c alike =
      rw (run-spent reach manner mem m n c, run-spent reach manner twin m n c)
      (record { same-ran = refl; alike = alike })
  same-run (suc left) mem twin m n c alike =
      let now = let_in manner.lined m in
      let in_turns = manner.in_turns in
      rw (run-step reach manner left mem m n c, run-step reach manner left twin m n c)
      (same-onward left mem twin now n c alike (passes in_turns mem now) (passes in_turns twin now)
      (step_of reach mem now) (step_of reach twin now)
      (λ mem' m' k e. ap (λ (b : ℕ). both in_turns (eqb b code_pause)) (same-code-done reach mem twin now alike mem' m' k e)) (same-run left)
      (same_step reach mem twin now alike))
