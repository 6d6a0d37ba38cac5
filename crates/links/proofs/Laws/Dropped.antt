-- While a CATCH's exception level stands: dropping levels leaves it standing, or brings the links back to what they were.
use Rattle.std.specs.Prelude.{Bool, true, false, ◌⊎◌, ◌≡◌, refl, ℕ, suc, ◌-◌, ◌<◌, ◌≤◌, ltb, leb}
use Rattle.std.proofs.Common.{inl, inr, ⊎_elim, ap, ◌∙◌, arith}
use Rattle.links.specs.Actions.{throw, act, lowered, drops_frame, e_after_drop, thrown_s, thrown_r}
use Rattle.plain.specs.Choice.{pick, both}
use Rattle.links.proofs.Laws.Kept.{lowered-shaped}
use Rattle.links.specs.Linked.{copy_of_r, copy_of_s, copy_of_p}
use Rattle.links.specs.Restored.{Restored}
use Rattle.links.proofs.Laws.Stands.{Stands, Gone, by-throw}
use Rattle.links.proofs.Laws.Rising.{last-below, ordered, own-or-later}
use Rattle.links.proofs.Laws.Sound.{Sound}
use Rattle.links.proofs.Laws.Tests.{drops, stays}
use Rattle.links.specs.declared.Links.{Links}

module _ (o : Links) (p : ℕ) (l : Links) (h : Stands o p l) where
  -- lower pointers that are still above the old ones
  lower-stands : (r s e : ℕ) → Sound (lowered r s e l) → o.r < r → o.s < s → o.e < e → Stands o p (lowered r s e l)
  lower-stands r s e ok hr hs he =
      record {
        shaped = lowered-shaped r s e l h.shaped;
        sound = ok;
        r-above = hr;
        s-above = hs;
        e-above = he;
        holds-r = h.holds-r;
        holds-s = h.holds-s;
        holds-p = h.holds-p;
        same-returns = h.same-returns;
        same-frames = h.same-frames;
        same-levels = h.same-levels;
      }

  -- pointers lowered to the old ones
  lower-restores : (r s e : ℕ) → r ≡ o.r → s ≡ o.s → e ≡ o.e → Restored o (lowered r s e l)
  lower-restores r s e hr hs he =
      record {
        same-r = hr;
        same_s = hs;
        same-e = he;
        same-returns = h.same-returns;
        same-frames = h.same-frames;
        same-levels = h.same-levels;
      }

  -- the top subroutine level is the CATCH's, or a later one that holds a greater R; the exception levels alike
  frame-case : (l.s ≡ suc o.s) ⊎ ((suc o.s < l.s) × (o.r < copy_of_r l.frames l.s))
  frame-case = own-or-later (copy_of_r l.frames) l.r l.s o.s o.r h.sound.returns-rise h.s-above h.holds-r

  level-case : (l.e ≡ suc o.e) ⊎ ((suc o.e < l.e) × (o.s < copy_of_s l.levels l.e))
  level-case = own-or-later (copy_of_s l.levels) l.s l.e o.e o.s h.sound.subroutines-rise h.e-above h.holds-s

  -- E after the top subroutine level was dropped, by what the test says: still above the old E where that was a later level
  e-still-above : o.s < l.s - 1 → (b : Bool) → both (ltb 0 l.e) (leb (l.s - 1) (copy_of_s l.levels l.e)) ≡ b
      → o.e < pick b (l.e - 1) l.e
  e-still-above lt true t =
      let le : l.s - 1 ≤ copy_of_s l.levels l.e = (drops l.e (l.s - 1) (copy_of_s l.levels l.e) t).1 in
      ⊎_elim
      (λ (is : l.e ≡ suc o.e).
      let holds : copy_of_s l.levels l.e ≡ copy_of_s l.levels (suc o.e) = ap (copy_of_s l.levels) is in
      absurd (omega (arith, h.holds-s)))
      (λ later. omega (arith, later.0))
      level-case
  e-still-above lt false t = h.e-above

  -- and the old E where it was the CATCH's own: no later exception level can stand on it
  e-is-old : l.s ≡ suc o.s → (b : Bool) → both (ltb 0 l.e) (leb (l.s - 1) (copy_of_s l.levels l.e)) ≡ b
      → pick b (l.e - 1) l.e ≡ o.e
  e-is-old own b t =
      let below : copy_of_s l.levels l.e < l.s =
      last-below (copy_of_s l.levels) l.s l.e h.sound.subroutines-rise (omega (arith, h.e-above)) in
      ⊎_elim (λ (is : l.e ≡ suc o.e). by-test is b t) (λ later. absurd (omega (arith, later.1))) level-case
    where
      by-test : l.e ≡ suc o.e → (b : Bool) → both (ltb 0 l.e) (leb (l.s - 1) (copy_of_s l.levels l.e)) ≡ b
          → pick b (l.e - 1) l.e ≡ o.e
      by-test is true t = omega arith
      by-test is false t =
          let holds : copy_of_s l.levels l.e ≡ copy_of_s l.levels (suc o.e) = ap (copy_of_s l.levels) is in
          let lt : copy_of_s l.levels l.e < l.s - 1 = stays l.e (l.s - 1) (copy_of_s l.levels l.e) t (omega arith) in
          absurd (omega (arith, h.holds-s))

  -- the top subroutine level is dropped, and R is the copy that it held
  pub left : (r : ℕ) → r ≡ copy_of_r l.frames l.s → Sound (lowered r (l.s - 1) (e_after_drop l) l)
      → Stands o p (lowered r (l.s - 1) (e_after_drop l) l) ⊎ Restored o (lowered r (l.s - 1) (e_after_drop l) l)
  left r is ok =
      ⊎_elim
      (λ (own : l.s ≡ suc o.s).
      let holds : copy_of_r l.frames l.s ≡ copy_of_r l.frames (suc o.s) = ap (copy_of_r l.frames) own in
      inr (lower-restores r (l.s - 1) (e_after_drop l) (omega (arith, h.holds-r)) (omega arith) (e-is-old own _ refl)))
      (λ later.
      let lt : o.s < l.s - 1 = omega (arith, later.0) in
      inl (lower-stands r (l.s - 1) (e_after_drop l) ok (omega (arith, later.1)) lt (e-still-above lt _ refl)))
      frame-case

  pub popped : 0 < l.r → (b : Bool) → drops_frame l ≡ b → Sound (lowered (l.r - 1) (pick b (l.s - 1) l.s) (pick b (e_after_drop l) l.e) l)
      → Stands o p (lowered (l.r - 1) (pick b (l.s - 1) l.s) (pick b (e_after_drop l) l.e) l)
      ⊎ Restored o (lowered (l.r - 1) (pick b (l.s - 1) l.s) (pick b (e_after_drop l) l.e) l)
  popped z true t ok =
      let d = drops l.s (l.r - 1) (copy_of_r l.frames l.s) t in
      let below : copy_of_r l.frames l.s < l.r = last-below (copy_of_r l.frames) l.r l.s h.sound.returns-rise d.0 in
      left (l.r - 1) (omega (arith, d.1)) ok
  popped z false t ok =
      let lt : copy_of_r l.frames l.s < l.r - 1 =
      stays l.s (l.r - 1) (copy_of_r l.frames l.s) t (omega (arith, h.s-above)) in
      let above : o.r < l.r - 1 =
      ⊎_elim
      (λ (own : l.s ≡ suc o.s).
      let holds : copy_of_r l.frames l.s ≡ copy_of_r l.frames (suc o.s) = ap (copy_of_r l.frames) own in
      omega (arith, h.holds-r))
      (λ later. omega (arith, later.1))
      frame-case in
      inl (lower-stands (l.r - 1) l.s l.e ok above h.s-above h.e-above)

  pub thrown : 0 < l.e → Sound (act throw l) → Stands o p (act throw l) ⊎ Gone o p l throw
  thrown z ok =
      ⊎_elim
      (λ (own : l.e ≡ suc o.e).
      let back : thrown_s l ≡ o.s = ap (copy_of_s l.levels) own ∙ h.holds-s in
      let r_back : thrown_r l ≡ o.r = ap (λ (n : ℕ). copy_of_r l.frames (suc n)) back ∙ h.holds-r in
      let p_back : copy_of_p l.levels l.e ≡ p = ap (copy_of_p l.levels) own ∙ h.holds-p in
      inr (by-throw (lower-restores (thrown_r l) (thrown_s l) (l.e - 1) r_back back (omega arith)) (ap suc p_back)))
      (λ later.
      let below : thrown_s l < l.s = last-below (copy_of_s l.levels) l.s l.e h.sound.subroutines-rise z in
      let r-up : copy_of_r l.frames (suc o.s) < thrown_r l =
      ordered (copy_of_r l.frames) l.r l.s (suc o.s) (suc (thrown_s l)) h.sound.returns-rise (omega arith)
      (omega (arith, later.1)) (omega arith) in
      inl
      (lower-stands (thrown_r l) (thrown_s l) (l.e - 1) ok (omega (arith, h.holds-r)) later.1 (omega (arith, later.0))))
      level-case
