-- No second answer: two answers that meet a promise, with the buffers that they leave, are equal.
use Rattle.std.specs.Prelude.{List, ◌≡◌, ℕ, Result}
use Rattle.std.proofs.Common.{sym, ap, ◌∙◌}
use Rattle.machine.specs.Refusals.{says}
use Rattle.machine.specs.declared.Ran.{Ran}
use Rattle.machine.specs.declared.refusal.Refusal.{Refusal}
use Rattle.machine.proofs.Laws.Refusing.{same-said}
use Rattle.report.specs.Printing.{Reported, report_of, refusal_of}

only : (right : Reported) (a b : Result ℕ Refusal) (x y : List ℕ)
    → record { printed = says a; out = x } ≡ right → record { printed = says b; out = y } ≡ right → (a ≡ b) × (x ≡ y)
only right a b x y h k =
    let same : ◌≡◌ {A = Reported} (record { printed = says a; out = x }) (record { printed = says b; out = y }) = h ∙ sym k in
    (same-said a b (ap (λ (r : Reported). r.printed) same), ap (λ (r : Reported). r.out) same)

pub only-report : (ran : Ran) (out : List ℕ) (a b : Result ℕ Refusal) (x y : List ℕ)
    → record { printed = says a; out = x } ≡ report_of ran out → record { printed = says b; out = y } ≡ report_of ran out
    → (a ≡ b) × (x ≡ y)
only-report ran out = only (report_of ran out)

pub only-refusal : (number : ℕ) (out : List ℕ) (a b : Result ℕ Refusal) (x y : List ℕ)
    → record { printed = says a; out = x } ≡ refusal_of number out → record { printed = says b; out = y } ≡ refusal_of number out
    → (a ≡ b) × (x ≡ y)
only-refusal number out = only (refusal_of number out)
