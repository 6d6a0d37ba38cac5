-- The first address past a reach is where some bytes are barred.
use mathlib.Core.Path.{◌≡◌, refl, ap, sym, ◌∙◌}
use mathlib.Core.Bool.{Bool, true, false}
use Prim.Native.Nat.{ℕ, zero, suc, ◌+◌, ◌≤◌, ◌<◌}
use native.Mathlib.Omega.{arith}
use borrow.Author.Tests.{lt-ltb, le-ltb, le-leb, ltb-true, ltb-false, leb-true, leb-false}
use lib.Dec.{ltb, leb}
use Rattle.plain.specs.Choice.{pick, both}
use Rattle.machine.specs.Limits.{memory_length}
use Rattle.machine.specs.Reach.{Bar, none, outside, foreign, may_touch, bar_of}
use Rattle.machine.specs.declared.Reach.{Reach}
use Rattle.reach.specs.Bars.{past_shared, past_own, beyond_of}

-- what bars bytes that end here, by the first address past the reach
abbrev pub bar_by : ℕ → ℕ → Bar
bar_by beyond end = pick (ltb beyond end) (pick (ltb beyond memory_length) foreign outside) (pick (ltb memory_length end) outside none)

module _ (reach : Reach) where
  own_on : (a : ℕ) → a ≤ past_own reach a
  own_on a = go (ltb a reach.own) (ltb a reach.end) refl
    where
      go : (x y : Bool) → ltb a reach.end ≡ y → a ≤ pick x a (pick y reach.end a)
      go true y h = omega arith
      go false true h = omega (arith, ltb-true a reach.end h)
      go false false h = omega arith

  shared-on : (a : ℕ) → a ≤ past_shared reach a
  shared-on a = go (ltb a reach.shared) refl
    where
      go : (x : Bool) → ltb a reach.shared ≡ x → a ≤ pick x reach.shared a
      go true h = omega (arith, ltb-true a reach.shared h)
      go false h = omega arith

  -- an address that may not be touched is the first such
  stays : (a : ℕ) → may_touch reach a ≡ false → beyond_of reach a ≡ a
  stays a e = go (ltb a reach.shared) refl e
    where
      own : (x y z : Bool) → ltb a reach.own ≡ x → leb reach.own a ≡ y → both y z ≡ false → pick x a (pick z reach.end a) ≡ a
      own true y z hx hy e = refl
      own false y false hx hy e = refl
      own false true true hx hy e = absurd (let z : ◌≡◌ {A = ℕ} 0 1 = cc in omega arith)
      own false false true hx hy e = absurd (omega (arith, ltb-false a reach.own hx, leb-false reach.own a hy))

      go : (x : Bool) → ltb a reach.shared ≡ x → pick x true (both (leb reach.own a) (ltb a reach.end)) ≡ false →
          past_own reach (pick x reach.shared a) ≡ a
      go true h e = absurd (let z : ◌≡◌ {A = ℕ} 0 1 = cc in omega arith)
      go false h e = own (ltb a reach.own) (leb reach.own a) (ltb a reach.end) refl refl e

  -- one that may be touched is not, and the next address has the same first
  goes : (a : ℕ) → may_touch reach a ≡ true → (a < beyond_of reach a) × (beyond_of reach (suc a) ≡ beyond_of reach a)
  goes a e = go (ltb a reach.shared) refl e
    where
      -- below the end of the shared bytes
      shared : a < reach.shared → (b : Bool) → ltb (suc a) reach.shared ≡ b → past_own reach (pick b reach.shared (suc a)) ≡ past_own reach reach.shared
      shared h true e = refl
      shared h false e =
          let past = ltb-false (suc a) reach.shared e in
          let same : suc a ≡ reach.shared = omega arith in
          ap (past_own reach) same

      -- in the own part
      next : reach.own ≤ a → a < reach.end → (b : Bool) → ltb (suc a) reach.end ≡ b → pick b reach.end (suc a) ≡ reach.end
      next low high true e = refl
      next low high false e = let past = ltb-false (suc a) reach.end e in omega arith

      own : (y z : Bool) → leb reach.own a ≡ y → ltb a reach.end ≡ z → both y z ≡ true → (reach.own ≤ a) × (a < reach.end)
      own true true hy hz e = (leb-true reach.own a hy, ltb-true a reach.end hz)
      own true false hy hz e = absurd (let z : ◌≡◌ {A = ℕ} 0 1 = cc in omega arith)
      own false z hy hz e = absurd (let z : ◌≡◌ {A = ℕ} 0 1 = cc in omega arith)

      go : (x : Bool) → ltb a reach.shared ≡ x → pick x true (both (leb reach.own a) (ltb a reach.end)) ≡ true →
          (a < past_own reach (pick x reach.shared a)) × (beyond_of reach (suc a) ≡ past_own reach (pick x reach.shared a))
      go true h e =
          let low = ltb-true a reach.shared h in
          (omega (arith, own_on reach.shared), shared low (ltb (suc a) reach.shared) refl)
      go false h e =
          let past = ltb-false a reach.shared h in
          let in-own = own (leb reach.own a) (ltb a reach.end) refl refl e in
          let here : past_own reach a ≡ reach.end = rw (le-ltb a reach.own in-own.0, lt-ltb a reach.end in-own.1) in
          let past' : reach.shared ≤ suc a = omega arith in
          let low' : reach.own ≤ suc a = omega arith in
          let there : beyond_of reach (suc a) ≡ reach.end =
          rw (le-ltb (suc a) reach.shared past', le-ltb (suc a) reach.own low') (next in-own.0 in-own.1 (ltb (suc a) reach.end) refl) in
          (omega (arith, here, in-own), there ∙ sym here)

  on : (a : ℕ) → a ≤ beyond_of reach a
  on a = omega (arith, own_on (past_shared reach a), shared-on a)

  -- past the end of memory the first byte is outside
  past : (a end : ℕ) → memory_length ≤ a → a < end → outside ≡ bar_by (beyond_of reach a) end
  past a end h l = go (ltb (beyond_of reach a) end) refl
    where
      go : (b : Bool) → ltb (beyond_of reach a) end ≡ b →
          outside ≡ pick b (pick (ltb (beyond_of reach a) memory_length) foreign outside) (pick (ltb memory_length end) outside none)
      go true e = rw (le-ltb (beyond_of reach a) memory_length (omega (arith, on a)))
      go false e = rw (lt-ltb memory_length end (omega arith))

  within : (n a : ℕ) → a ≤ memory_length → bar_of reach a n ≡ bar_by (beyond_of reach a) (a + n)
  unfolding bar_of
  within zero a h = rw (le-ltb (beyond_of reach a) (a + 0) (omega (arith, on a)), le-ltb memory_length (a + 0) (omega arith))
  within (suc n) a h = go (leb memory_length a) refl (may_touch reach a) refl (within n (suc a))
    where
      go : (x : Bool) → leb memory_length a ≡ x → (y : Bool) → may_touch reach a ≡ y →
          (suc a ≤ memory_length → bar_of reach (suc a) n ≡ bar_by (beyond_of reach (suc a)) (suc a + n)) →
          pick x outside (pick y (bar_of reach (suc a) n) foreign) ≡ bar_by (beyond_of reach a) (a + suc n)
      go true hx y hy later = past a (a + suc n) (leb-true memory_length a hx) (omega arith)
      go false hx true hy later =
          let inside = leb-false memory_length a hx in
          let g = goes a hy in
          let sum : suc a + n ≡ a + suc n = omega arith in
          later (omega arith) ∙ (ap (λ (b : ℕ). bar_by b (suc a + n)) g.1 ∙ ap (bar_by (beyond_of reach a)) sum)
      go false hx false hy later =
          let inside = leb-false memory_length a hx in
          let is = stays a hy in
          let less : beyond_of reach a < a + suc n = omega arith in
          let low : beyond_of reach a < memory_length = omega arith in
          rw (lt-ltb (beyond_of reach a) (a + suc n) less, lt-ltb (beyond_of reach a) memory_length low)

  -- so many bytes, one at least, by the first address past the reach
  pub barred-by : (n a : ℕ) → 0 < n → bar_of reach a n ≡ bar_by (beyond_of reach a) (a + n)
  unfolding bar_of
  barred-by zero a h = absurd (omega arith)
  barred-by (suc n) a h = go (leb a memory_length) refl
    where
      go : (b : Bool) → leb a memory_length ≡ b → bar_of reach a (suc n) ≡ bar_by (beyond_of reach a) (a + suc n)
      go true e = within (suc n) a (leb-true a memory_length e)
      go false e =
          let far : memory_length ≤ a = omega (arith, leb-false a memory_length e) in
          rw (le-leb memory_length a far) (past a (a + suc n) far (omega arith))

pub no_bytes : (reach : Reach) (a : ℕ) {size : ℕ} → size ≡ 0 → none ≡ bar_of reach a size
unfolding bar_of
no_bytes reach a e = rw e

-- the ways of the tests, in turn
module _ (reach : Reach) (a size : ℕ) {shared beyond : ℕ} (es : shared ≡ past_shared reach a) (eb : beyond ≡ past_own reach shared) (some : size ≡ 0 → ⊥) where
  is : bar_by beyond (a + size) ≡ bar_of reach a size
  is = ap (λ (b : ℕ). bar_by b (a + size)) (eb ∙ ap (past_own reach) es) ∙ sym (barred-by reach size a (omega arith))

  pub barred-near : beyond < a + size → beyond < memory_length → foreign ≡ bar_of reach a size
  barred-near h g = rw (sym is, lt-ltb beyond (a + size) h, lt-ltb beyond memory_length g)

  pub barred-far : beyond < a + size → memory_length ≤ beyond → outside ≡ bar_of reach a size
  barred-far h g = rw (sym is, lt-ltb beyond (a + size) h, le-ltb beyond memory_length g)

  pub barred-past : a + size ≤ beyond → memory_length < a + size → outside ≡ bar_of reach a size
  barred-past h g = rw (sym is, le-ltb beyond (a + size) h, lt-ltb memory_length (a + size) g)

  pub barred-not : a + size ≤ beyond → a + size ≤ memory_length → none ≡ bar_of reach a size
  barred-not h g = rw (sym is, le-ltb beyond (a + size) h, le-ltb memory_length (a + size) g)
