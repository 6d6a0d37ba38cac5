-- Laws of copies that rise strictly, and of copies within a limit, when the top, the count or the copies change.
use Rattle.std.specs.Prelude.{◌⊎◌, ◌≡◌, ℕ, zero, suc, ◌-◌, ◌<◌, ◌≤◌}
use Rattle.std.proofs.Common.{inl, inr, ⊎_elim, sym, subst, eq-or-lt_of_le, arith}
use Rattle.links.proofs.Laws.Sound.{Rise, Within}

module _ (copy : ℕ → ℕ) where
  -- the last copy is below the top
  pub last-below : (top n : ℕ) → Rise copy top n → 0 < n → copy n < top
  last-below top zero h k = absurd (omega arith)
  last-below top (suc n) h k = h.0

  -- the top may be any number above the last copy
  pub under : (top top₁ n : ℕ) → Rise copy top n → (0 < n → copy n < top₁) → Rise copy top₁ n
  under top top₁ zero h k = tt
  under top top₁ (suc n) h k = (k (omega arith), h.1)

  pub raised : (top n : ℕ) → Rise copy top n → Rise copy (suc top) n
  raised top n h = under top (suc top) n h (λ k. let b : copy n < top = last-below top n h k in omega arith)

  -- without the last level, whose copy is then the top
  pub rest : (top n : ℕ) → Rise copy top n → 0 < n → Rise copy (copy n) (n - 1)
  rest top zero h k = absurd (omega arith)
  rest top (suc n) h k =
      let e : n ≡ suc n - 1 = omega arith in
      subst (λ (m : ℕ). Rise copy (copy (suc n)) m) e h.1

  -- without all levels from level m + 1 on, whose copy is then the top
  pub cut : (top n m : ℕ) → Rise copy top n → m < n → Rise copy (copy (suc m)) m
  cut top zero m h k = absurd (omega arith)
  cut top (suc n) m h k =
      let le : m ≤ n = omega arith in
      ⊎_elim (λ (e : m ≡ n). subst (λ (i : ℕ). Rise copy (copy (suc i)) i) (sym e) h.1) (λ (lt : m < n). cut (copy (suc n)) n m h.1 lt)
      (eq-or-lt_of_le le)

  -- every copy is below the top
  pub each_below : (top n m : ℕ) → Rise copy top n → 0 < m → m ≤ n → copy m < top
  each_below top zero m h k le = absurd (omega arith)
  each_below top (suc n) m h k le =
      ⊎_elim (λ (e : m ≡ suc n). subst (λ (i : ℕ). copy i < top) (sym e) h.0)
      (λ (lt : m < suc n).
      let b : copy m < copy (suc n) = each_below (copy (suc n)) n m h.1 k (omega arith) in
      let t : copy (suc n) < top = h.0 in
      omega arith)
      (eq-or-lt_of_le le)

  -- a higher level has a greater copy
  pub ordered : (top n m k : ℕ) → Rise copy top n → 0 < m → m < k → k ≤ n → copy m < copy k
  ordered top n m zero h z lt le = absurd (omega arith)
  ordered top n m (suc k) h z lt le = each_below (copy (suc k)) k m (cut top n k h (omega arith)) z (omega arith)

  -- level n is level m + 1, or a higher one with a greater copy
  pub own-or-later : (top n m held : ℕ) → Rise copy top n → m < n → copy (suc m) ≡ held → (n ≡ suc m) ⊎ ((suc m < n) × (held < copy n))
  own-or-later top n m held h above holds =
      ⊎_elim (λ (e : suc m ≡ n). inl (sym e))
      (λ (lt : suc m < n).
      let up : copy (suc m) < copy n = ordered top n (suc m) n h (omega arith) lt (omega arith) in
      inr (lt, omega arith))
      (eq-or-lt_of_le above)

  pub rest-within : (limit n : ℕ) → Within copy limit n → Within copy limit (n - 1)
  rest-within limit zero h = tt
  rest-within limit (suc n) h =
      let e : n ≡ suc n - 1 = omega arith in
      subst (λ (m : ℕ). Within copy limit m) e h.1

-- other copies that agree from level 1 to level n
module _ (copy copy₁ : ℕ → ℕ) where
  pub same-rise : (top n : ℕ) → ((i : ℕ) → 0 < i → i ≤ n → copy₁ i ≡ copy i) → Rise copy top n → Rise copy₁ top n
  same-rise top zero e h = tt
  same-rise top (suc n) e h =
      let last : copy₁ (suc n) ≡ copy (suc n) = e (suc n) (omega arith) (omega arith) in
      let b : copy (suc n) < top = h.0 in (
        omega arith,
        subst (λ (t : ℕ). Rise copy₁ t n) (sym last) (same-rise (copy (suc n)) n (λ i z le. e i z (omega arith)) h.1),
      )

  pub same-within : (limit n : ℕ) → ((i : ℕ) → 0 < i → i ≤ n → copy₁ i ≡ copy i) → Within copy limit n → Within copy₁ limit n
  same-within limit zero e h = tt
  same-within limit (suc n) e h =
      let last : copy₁ (suc n) ≡ copy (suc n) = e (suc n) (omega arith) (omega arith) in
      let b : copy (suc n) ≤ limit = h.0 in
      (omega arith, same-within limit n (λ i z le. e i z (omega arith)) h.1)

  -- a new level n + 1 that holds the top, under a top that is one greater
  pub pushed-rise : (top n : ℕ) → copy₁ (suc n) ≡ top → ((i : ℕ) → 0 < i → i ≤ n → copy₁ i ≡ copy i) → Rise copy top n
      → Rise copy₁ (suc top) (suc n)
  pushed-rise top n new e h = (omega arith, subst (λ (t : ℕ). Rise copy₁ t n) (sym new) (same-rise top n e h))
