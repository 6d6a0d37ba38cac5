-- The pointers after a drop, as the definition picks them.
use Rattle.std.specs.Prelude.{◌≡◌, refl, Bool, List, ℕ, zero, suc, ◌-◌, ◌≤◌, ◌<◌, ltb, leb, eqb}
use Rattle.std.proofs.Math.Bool.{true, false}
use native.Mathlib.Omega.{arith}
use Rattle.std.proofs.Common.{lt-ltb, le-ltb, ltb-true, eqb-true}
use Rattle.std.proofs.lemmas.Bool.{eqb-false}
use Rattle.plain.specs.Choice.{pick, both}
use Rattle.links.specs.Linked.{copy_of_r, copy_of_s}
use Rattle.links.specs.declared.Frame.{Frame}
use Rattle.links.specs.declared.Level.{Level}
use Rattle.run_words.specs.Verdicts.{s_after_pop, e_after_drop_of, e_after_pop}

pub positive : (n : ℕ) → (n ≡ 0 → ⊥) → 0 < n
positive zero h = absurd (h refl)
positive (suc n) h = omega arith

-- a pointer that falls by one where it is above 0 and a test holds: asked one way or the other
fallen : (n : ℕ) (b : Bool) → pick (eqb n 0) n (pick b (n - 1) n) ≡ pick (both (ltb 0 n) b) (n - 1) n
fallen n b = go (eqb n 0) refl
  where
    go : (z : Bool) → eqb n 0 ≡ z → pick z n (pick b (n - 1) n) ≡ pick (both (ltb 0 n) b) (n - 1) n
    go true h =
        let none : n ≤ 0 = omega (arith, eqb-true n 0 h) in
        rw (le-ltb 0 n none)
    go false h =
        let some : 0 < n = positive n (eqb-false n 0 h) in
        rw (lt-ltb 0 n some)

module _ (lower e : ℕ) (levels : List Level) where
  pub drop-same : e_after_drop_of lower e (copy_of_s levels e) ≡ pick (both (ltb 0 e) (leb lower (copy_of_s levels e))) (e - 1) e
  unfolding e_after_drop_of
  drop-same = fallen e (leb lower (copy_of_s levels e))

module _ (r s : ℕ) (frames : List Frame) where
  -- R> lowers R by one
  pub pop-s : s_after_pop (r - 1) s (copy_of_r frames s) ≡ pick (both (ltb 0 s) (leb (r - 1) (copy_of_r frames s))) (s - 1) s
  unfolding s_after_pop
  pop-s = fallen s (leb (r - 1) (copy_of_r frames s))

  -- where a level is dropped there was one
  drops-some : (b : Bool) → both (ltb 0 s) b ≡ true → 0 < s
  drops-some b h = go (ltb 0 s) refl h
    where
      go : (t : Bool) → ltb 0 s ≡ t → both t b ≡ true → 0 < s
      go true t h = ltb-true 0 s t
      go false t h = let z : ◌≡◌ {A = ℕ} 0 1 = cc in absurd (omega arith)

  pub pop-e : (e : ℕ) (levels : List Level) →
      e_after_pop (s_after_pop (r - 1) s (copy_of_r frames s)) s e (copy_of_s levels e) ≡
      pick (both (ltb 0 s) (leb (r - 1) (copy_of_r frames s))) (pick (both (ltb 0 e) (leb (s - 1) (copy_of_s levels e))) (e - 1) e) e
  unfolding e_after_pop
  pop-e e levels = rw pop-s (go (both (ltb 0 s) (leb (r - 1) (copy_of_r frames s))) refl)
    where
      go : (b : Bool) → both (ltb 0 s) (leb (r - 1) (copy_of_r frames s)) ≡ b →
          pick (ltb (pick b (s - 1) s) s) (e_after_drop_of (pick b (s - 1) s) e (copy_of_s levels e)) e ≡
          pick b (pick (both (ltb 0 e) (leb (s - 1) (copy_of_s levels e))) (e - 1) e) e
      go true h =
          let some = drops-some (leb (r - 1) (copy_of_r frames s)) h in
          let less : s - 1 < s = omega arith in
          rw (lt-ltb (s - 1) s less) (drop-same (s - 1) e levels)
      go false h =
          let none : s ≤ s = omega arith in
          rw (le-ltb s s none)
