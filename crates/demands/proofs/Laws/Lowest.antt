-- In a list of tests whose numbers rise, by whatever rank a number has, the first test that holds has the lowest of those that hold.
use Rattle.std.proofs.Common.{inl, inr, ap, sym, ◌∙◌, subst, arith, leb→le}
use Rattle.std.specs.Prelude.{◌≡◌, refl, Bool, true, false, List, [], ◌∷◌, ℕ, suc, ◌≤◌, T, leb}
use Rattle.plain.specs.Choice.{pick, both}
use Rattle.plain.specs.Laws.Choice.{both-parts}
use Rattle.machine.specs.Checks.{Test}
use Rattle.machine.specs.Step.{refused, done, unless}
use Rattle.machine.proofs.Laws.Passed.{AllPass}
use Rattle.machine.specs.declared.Machine.{Machine}
use Rattle.demands.specs.Lowest.{Applies, First}

pub clash : (b : Bool) → b ≡ true → b ≡ false → ⊥
clash b t f = subst T (sym t ∙ f) tt

-- where all tests pass, none applies
pub none-applies : (ts : List Test) → AllPass ts → (k : ℕ) → Applies k ts → ⊥
none-applies [] h k a = a
none-applies (t ∷ ts) h k (inl a) = clash t.holds a.1 h.0
none-applies (t ∷ ts) h k (inr a) = none-applies ts h.1 k a

-- the tests whose numbers do not pass do not hold
abbrev pub Listed : (ℕ → Bool) → List Test → Type 0
Listed f [] = Unit {0}
Listed f (t ∷ ts) = pick (f t.number) (Listed f ts) ((t.holds ≡ false) × Listed f ts)

-- so a number that applies passes
pub applies-listed : (f : ℕ → Bool) (ts : List Test) → Listed f ts → (k : ℕ) → Applies k ts → T (f k)
applies-listed f [] h k a = absurd a
applies-listed f (t ∷ ts) h k a = go (f t.number) refl h a (λ h a. applies-listed f ts h k a)
  where
    go : (b : Bool) → f t.number ≡ b → pick b (Listed f ts) ((t.holds ≡ false) × Listed f ts) → Applies k (t ∷ ts) →
        (Listed f ts → Applies k ts → T (f k)) → T (f k)
    go true e h (inl a) later = subst T (sym e ∙ ap f a.0) tt
    go true e h (inr a) later = later h a
    go false e h (inl a) later = absurd (clash t.holds a.1 h.0)
    go false e h (inr a) later = later h.1 a

-- the first that holds refuses
module _ (mem : List ℕ) (m : Machine) (cost : ℕ) where
  pub refuses-first : (ts : List Test) (k : ℕ) → unless ts (done mem m cost) ≡ refused k → First k ts
  refuses-first [] k e = let z : ◌≡◌ {A = ℕ} 0 1 = cc in absurd (omega arith)
  refuses-first (t ∷ ts) k e = go t.holds refl e (refuses-first ts k)
    where
      go : (b : Bool) → t.holds ≡ b → pick b (refused t.number) (unless ts (done mem m cost)) ≡ refused k →
          (unless ts (done mem m cost) ≡ refused k → First k ts) → First k (t ∷ ts)
      go true holds e later = inl (cc, holds)
      go false holds e later = inr (holds, later e)

pub first-applies : (k : ℕ) (ts : List Test) → First k ts → Applies k ts
first-applies k [] f = f
first-applies k (t ∷ ts) (inl f) = inl f
first-applies k (t ∷ ts) (inr f) = inr (first-applies k ts f.1)

-- numbers are compared by their rank: a test whose place is not its number's has a rank of its own
module _ (rank : ℕ → ℕ) where
  -- the ranks rise, from n or more
  abbrev pub rising : ℕ → List Test → Bool
  rising n [] = true
  rising n (t ∷ ts) = both (leb n (rank t.number)) (rising (suc (rank t.number)) ts)

  -- a number that applies is no less than the first
  not-less : (n : ℕ) (ts : List Test) → T (rising n ts) → (k : ℕ) → Applies k ts → n ≤ rank k
  not-less n [] h k a = absurd a
  not-less n (t ∷ ts) h k (inl a) =
      omega (arith, ap rank a.0, leb→le n (rank t.number) (both-parts (leb n (rank t.number)) _ h).0)
  not-less n (t ∷ ts) h k (inr a) =
      let p = both-parts (leb n (rank t.number)) _ h in
      omega (arith, leb→le n (rank t.number) p.0, not-less (suc (rank t.number)) ts p.1 k a)

  -- where the ranks rise, the first is the lowest
  pub first-least : (n : ℕ) (ts : List Test) → T (rising n ts) → (k : ℕ) → First k ts → (j : ℕ) → Applies j ts → rank k ≤ rank j
  first-least n [] h k f j a = absurd f
  first-least n (t ∷ ts) h k (inl f) j (inl a) = omega (arith, ap rank f.0, ap rank a.0)
  first-least n (t ∷ ts) h k (inl f) j (inr a) =
      omega (arith, ap rank f.0, not-less (suc (rank t.number)) ts (both-parts (leb n (rank t.number)) _ h).1 j a)
  first-least n (t ∷ ts) h k (inr f) j (inl a) = absurd (clash t.holds a.1 f.0)
  first-least n (t ∷ ts) h k (inr f) j (inr a) =
      first-least (suc (rank t.number)) ts (both-parts (leb n (rank t.number)) _ h).1 k f.1 j a
