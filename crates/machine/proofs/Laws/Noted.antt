-- Everything but a THROW of non-zero keeps what was noted last.
use Rattle.std.specs.Prelude.{◌⊎◌, ◌≡◌, refl, List, ℕ}
use Rattle.std.proofs.Common.{inl, inr, ⊎_elim, ap, ◌∙◌, subst}
use Rattle.std.proofs.lemmas.Bool.{eqb-false}
use Rattle.numbers.specs.Bytes.{byte_at}
use Rattle.links.specs.Actions.{Act, still, push, call, catch, exit, pop, throw, keep, reset}
use Rattle.machine.specs.Codes.{THROW, entry_at}
use Rattle.machine.specs.Fetch.{instruction_at}
use Rattle.machine.specs.Rows.{top}
use Rattle.machine.specs.Step.{done, noted, step_of, row_at}
use Rattle.machine.proofs.Laws.Marks.{marked}
use Rattle.machine.proofs.Laws.Passed.{step-done}
use Rattle.machine.proofs.Laws.Told.{Tells, fair}
use Rattle.machine.specs.declared.Machine.{Machine}
use Rattle.machine.specs.declared.Reach.{Reach}

-- an action is that of a THROW of non-zero, or keeps what was noted
pub throws-or-keeps : (m : Machine) (a : Act) → (a ≡ throw) ⊎ (noted a m ≡ m.thrown)
throws-or-keeps m still = inr refl
throws-or-keeps m (push x) = inr refl
throws-or-keeps m (call address) = inr refl
throws-or-keeps m (catch address p) = inr refl
throws-or-keeps m exit = inr refl
throws-or-keeps m pop = inr refl
throws-or-keeps m throw = inl refl
throws-or-keeps m (keep locals cells) = inr refl
throws-or-keeps m reset = inr refl

pub noted-kept : (reach : Reach) (mem : List ℕ) (m : Machine) (mem' : List ℕ) (m' : Machine) (k : ℕ) → step_of reach mem m ≡ done mem' m' k →
    (byte_at mem m.counter ≡ 0x0D → top m ≡ 0) → m'.thrown ≡ m.thrown
unfolding instruction_at
noted-kept reach mem m mem' m' k e none =
    let i = instruction_at reach mem m.counter in
    let row = row_at reach mem m in
    let tells = (fair i mem m (entry_at i.code).op).tells in
    ap (λ (x : Machine). x.thrown) (step-done reach mem m mem' m' k e).machine ∙
    ⊎_elim
    (λ (is : row.link ≡ throw).
    let t = subst (λ (a : Act). Tells i m (entry_at i.code).op row a) is tells in
    absurd (eqb-false (top m) 0 t.1.non_zero (none (marked i.code THROW t.0))))
    (λ same. same) (throws-or-keeps m row.link)
