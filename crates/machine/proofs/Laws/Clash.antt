-- From what cannot be, anything.
use Rattle.std.specs.Prelude.{◌≡◌, Bool, true, false, ℕ, T}
use Rattle.std.proofs.Common.{sym, ◌∙◌, subst, arith}

-- two constructors that are equal; `cc` finds the equation
pub never : {A : Type 0} → ◌≡◌ {A = ℕ} 0 1 → A
never z = absurd (omega arith)

-- a test that holds and does not
pub clash : {A : Type 0} (b : Bool) → b ≡ true → b ≡ false → A
clash b on off = absurd (subst T (sym on ∙ off) tt)
