-- Order tests against each other.
use Rattle.std.specs.Prelude.{◌≡◌, ℕ, ◌<◌, ◌≤◌, Bool, true, false, nat_le, refl}
use Rattle.std.proofs.Common.{sym, ◌∙◌, arith, leb-true, leb-false}

-- two order tests that follow from one another have one value
pub same_test : (a b m n : ℕ) → (a ≤ b → m ≤ n) → (m ≤ n → a ≤ b) → nat_le a b ≡ nat_le m n
same_test a b m n there back = go (nat_le a b) (nat_le m n) refl refl
  where
    go : (s t : Bool) → nat_le a b ≡ s → nat_le m n ≡ t → nat_le a b ≡ nat_le m n
    go true true p q = p ∙ sym q
    go true false p q = absurd (omega (arith, there (leb-true a b p), leb-false m n q))
    go false true p q = absurd (omega (arith, back (leb-true m n q), leb-false a b p))
    go false false p q = p ∙ sym q

-- a claim that follows from an order and from its failure holds
pub either_order : {P : Type 0} (m n : ℕ) → (m ≤ n → P) → (n < m → P) → P
either_order {P} m n yes-case no-case = go (nat_le m n) refl
  where
    go : (t : Bool) → nat_le m n ≡ t → P
    go true e = yes-case (leb-true m n e)
    go false e = no-case (leb-false m n e)
