-- What stands while a CATCH's exception level does, and what ends it.
use Rattle.std.specs.Prelude.{List, ◌≡◌, ℕ, suc, ◌<◌, ◌≤◌, get_or, take}
use Rattle.std.proofs.Common.{sym, ap, ◌∙◌, arith, get_or-take}
use Rattle.links.specs.Actions.{Act, exit, pop, throw, reset, act}
use Rattle.links.specs.Linked.{Shaped, frame_at, level_at, no_frame, no_level, copy_of_r, copy_of_s, copy_of_p}
use Rattle.links.specs.Restored.{Restored}
use Rattle.links.proofs.Laws.Sound.{Sound}
use Rattle.links.specs.declared.Links.{Links}

-- the links were o before the CATCH, and P was p after its address was taken
pub record Stands (o : Links) (p : ℕ) (l : Links) : Type 0 where
  pub shaped : Shaped l
  pub sound : Sound l
  pub r-above : o.r < l.r
  pub s-above : o.s < l.s
  pub e-above : o.e < l.e
  pub holds-r : copy_of_r l.frames (suc o.s) ≡ o.r
  pub holds-s : copy_of_s l.levels (suc o.e) ≡ o.s
  pub holds-p : copy_of_p l.levels (suc o.e) ≡ p
  pub same-returns : take o.r l.returns ≡ take o.r o.returns
  pub same-frames : take (suc o.s) l.frames ≡ take (suc o.s) o.frames
  pub same-levels : take (suc o.e) l.levels ≡ take (suc o.e) o.levels

-- P after a THROW: its copy, and the code pushed on it
abbrev pub thrown_p : Links → ℕ
thrown_p l = suc (copy_of_p l.levels l.e)

-- the action took the exception level away: a reset, or else the links are restored; after a THROW P is then one more than p,
-- since the code stands where the address stood
pub data Gone (o : Links) (p : ℕ) (l : Links) : Act → Type 0 where
  by-reset : Gone o p l reset
  by-exit : Restored o (act exit l) → Gone o p l exit
  by-pop : Restored o (act pop l) → Gone o p l pop
  by-throw : Restored o (act throw l) → thrown_p l ≡ suc p → Gone o p l throw

-- what two lists that agree on the first n elements hold there
same_at : {A : Type 0} (xs ys : List A) (n : ℕ) → take n xs ≡ take n ys → (i : ℕ) (d : A) → i < n → get_or xs i d ≡ get_or ys i d
same_at xs ys n e i d h = sym (get_or-take n xs i d h) ∙ ap (λ zs. get_or zs i d) e ∙ get_or-take n ys i d h

-- restored links, cell by cell and level by level: level S with its locals and level E with its cells are the last of them
module _ (o l : Links) (h : Restored o l) where
  pub return_back : (i d : ℕ) → i < o.r → get_or l.returns i d ≡ get_or o.returns i d
  return_back i d lt = same_at l.returns o.returns o.r h.same-returns i d lt

  pub frame_back : (n : ℕ) → n ≤ o.s → frame_at l n ≡ frame_at o n
  frame_back n le = same_at l.frames o.frames (suc o.s) h.same-frames n no_frame (omega arith)

  pub level-back : (n : ℕ) → n ≤ o.e → level_at l n ≡ level_at o n
  level-back n le = same_at l.levels o.levels (suc o.e) h.same-levels n no_level (omega arith)
