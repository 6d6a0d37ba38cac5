-- The core of demand 3, its two steps: a CATCH makes its exception level stand, and after one more action it stands or the links are restored.
use Rattle.std.specs.Prelude.{◌⊎◌, refl, ℕ, suc, ◌<◌, length}
use Rattle.std.proofs.Common.{inl, inr, ⊎_elim, ◌∙◌, arith}
use Rattle.std.proofs.lemmas.List.{take-set-le}
use Rattle.links.specs.Actions.{Act, still, push, call, catch, exit, pop, throw, keep, reset, act, drops_frame}
use Rattle.links.specs.Allowed.{Allowed}
use Rattle.links.proofs.Laws.Copies.{part-kept, part-below, part-stored}
use Rattle.links.proofs.Laws.Dropped.{left, popped, thrown}
use Rattle.links.proofs.Laws.Kept.{kept, shaped-kept}
use Rattle.links.specs.Linked.{Shaped, no_frame, no_level, copy_of_r}
use Rattle.links.proofs.Laws.Stands.{Stands, Gone, by-reset, by-exit, by-pop}
use Rattle.links.proofs.Laws.Sound.{Sound}
use Rattle.links.specs.declared.Frame.{Frame}
use Rattle.links.specs.declared.Level.{Level}
use Rattle.links.specs.declared.Links.{Links}

-- a CATCH that is not refused makes it stand
pub caught : (o : Links) (address p : ℕ) → Shaped o → Sound o → Allowed (catch address p) o → Stands o p (act (catch address p) o)
caught o address p f h ok =
    let room : suc o.s < length o.frames = omega (arith, f.frames-long, ok.1) in
    let more : suc o.e < length o.levels = omega (arith, f.levels-long, ok.2) in
    record {
      shaped = shaped-kept (catch address p) o f;
      sound = kept (catch address p) o f h ok;
      r-above = omega arith;
      s-above = omega arith;
      e-above = omega arith;
      holds-r = part-stored no_frame (λ (x : Frame). x.r) o.frames (suc o.s) _ room;
      holds-s = part-stored no_level (λ (x : Level). x.s) o.levels (suc o.e) _ more;
      holds-p = part-stored no_level (λ (x : Level). x.p) o.levels (suc o.e) _ more;
      same-returns = take-set-le o.r o.returns o.r address (omega arith);
      same-frames = take-set-le (suc o.s) o.frames (suc o.s) _ (omega arith);
      same-levels = take-set-le (suc o.e) o.levels (suc o.e) _ (omega arith);
    }

module _ (o : Links) (p : ℕ) (l : Links) (h : Stands o p l) where
  -- after one more action that is not refused it still stands, or it is gone
  pub next : (a : Act) → Allowed a l → Stands o p (act a l) ⊎ Gone o p l a
  next still ok = inl h
  next (push x) ok =
      inl
      (record {
        shaped = shaped-kept (push x) l h.shaped;
        sound = kept (push x) l h.shaped h.sound ok;
        r-above = omega (arith, h.r-above);
        s-above = h.s-above;
        e-above = h.e-above;
        holds-r = h.holds-r;
        holds-s = h.holds-s;
        holds-p = h.holds-p;
        same-returns = take-set-le o.r l.returns l.r x (omega (arith, h.r-above)) ∙ h.same-returns;
        same-frames = h.same-frames;
        same-levels = h.same-levels;
      })
  next (call address) ok =
      inl
      (record {
        shaped = shaped-kept (call address) l h.shaped;
        sound = kept (call address) l h.shaped h.sound ok;
        r-above = omega (arith, h.r-above);
        s-above = omega (arith, h.s-above);
        e-above = h.e-above;
        holds-r = part-below no_frame (λ (x : Frame). x.r) l.frames (suc l.s) _ (suc o.s) (omega (arith, h.s-above)) ∙ h.holds-r;
        holds-s = h.holds-s;
        holds-p = h.holds-p;
        same-returns = take-set-le o.r l.returns l.r address (omega (arith, h.r-above)) ∙ h.same-returns;
        same-frames = take-set-le (suc o.s) l.frames (suc l.s) _ (omega (arith, h.s-above)) ∙ h.same-frames;
        same-levels = h.same-levels;
      })
  next (catch address p₁) ok =
      let lower : suc o.e < suc l.e = omega (arith, h.e-above) in
      inl
      (record {
        shaped = shaped-kept (catch address p₁) l h.shaped;
        sound = kept (catch address p₁) l h.shaped h.sound ok;
        r-above = omega (arith, h.r-above);
        s-above = omega (arith, h.s-above);
        e-above = omega (arith, h.e-above);
        holds-r = part-below no_frame (λ (x : Frame). x.r) l.frames (suc l.s) _ (suc o.s) (omega (arith, h.s-above)) ∙ h.holds-r;
        holds-s = part-below no_level (λ (x : Level). x.s) l.levels (suc l.e) _ (suc o.e) lower ∙ h.holds-s;
        holds-p = part-below no_level (λ (x : Level). x.p) l.levels (suc l.e) _ (suc o.e) lower ∙ h.holds-p;
        same-returns = take-set-le o.r l.returns l.r address (omega (arith, h.r-above)) ∙ h.same-returns;
        same-frames = take-set-le (suc o.s) l.frames (suc l.s) _ (omega (arith, h.s-above)) ∙ h.same-frames;
        same-levels = take-set-le (suc o.e) l.levels (suc l.e) _ (omega arith) ∙ h.same-levels;
      })
  next exit ok =
      ⊎_elim inl (λ back. inr (by-exit back))
      (left o p l h (copy_of_r l.frames l.s) refl (kept exit l h.shaped h.sound ok))
  next pop ok =
      ⊎_elim inl (λ back. inr (by-pop back))
      (popped o p l h ok (drops_frame l) refl (kept pop l h.shaped h.sound ok))
  next throw ok = thrown o p l h ok (kept throw l h.shaped h.sound ok)
  next (keep locals cells) ok =
      inl
      (record {
        shaped = shaped-kept (keep locals cells) l h.shaped;
        sound = kept (keep locals cells) l h.shaped h.sound ok;
        r-above = h.r-above;
        s-above = h.s-above;
        e-above = h.e-above;
        holds-r = part-kept no_frame (λ (x : Frame). x.r) l.frames l.s _ refl (suc o.s) ∙ h.holds-r;
        holds-s = part-kept no_level (λ (x : Level). x.s) l.levels l.e _ refl (suc o.e) ∙ h.holds-s;
        holds-p = part-kept no_level (λ (x : Level). x.p) l.levels l.e _ refl (suc o.e) ∙ h.holds-p;
        same-returns = h.same-returns;
        same-frames = take-set-le (suc o.s) l.frames l.s _ h.s-above ∙ h.same-frames;
        same-levels = take-set-le (suc o.e) l.levels l.e _ h.e-above ∙ h.same-levels;
      })
  next reset ok = inr by-reset
