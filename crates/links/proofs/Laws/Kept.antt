-- Every action that is not refused keeps the links sound, and each keeps the lists' lengths.
use Rattle.std.specs.Prelude.{Bool, true, false, List, ◌≡◌, refl, ℕ, suc, ◌-◌, ◌<◌, ◌≤◌, ltb, leb, length}
use Rattle.std.proofs.Common.{sym, subst, ◌∙◌, arith, length-set}
use Rattle.links.specs.Depths.{subroutines_depth, exceptions_depth, most_copy_of_p}
use Rattle.links.specs.Actions.{Act, still, push, call, catch, exit, pop, throw, keep, reset, act, drops_frame, called, lowered, e_after_drop, thrown_s}
use Rattle.links.specs.Allowed.{Allowed}
use Rattle.plain.specs.Choice.{pick, both}
use Rattle.links.proofs.Laws.Copies.{part-kept, part-below, part-stored}
use Rattle.links.specs.Linked.{Shaped, no_frame, no_level, copy_of_r, copy_of_s, copy_of_p}
use Rattle.links.proofs.Laws.Rising.{last-below, under, raised, rest, cut, each_below, rest-within, same-rise, same-within, pushed-rise}
use Rattle.links.proofs.Laws.Sound.{Sound, Rise, Within}
use Rattle.links.proofs.Laws.Tests.{drops, stays}
use Rattle.links.specs.declared.Frame.{Frame}
use Rattle.links.specs.declared.Level.{Level}
use Rattle.links.specs.declared.Links.{Links}

pub lowered-shaped : (r s e : ℕ) (l : Links) → Shaped l → Shaped (lowered r s e l)
lowered-shaped r s e l h = record { returns-long = h.returns-long; frames-long = h.frames-long; levels-long = h.levels-long }

pub shaped-kept : (a : Act) (l : Links) → Shaped l → Shaped (act a l)
shaped-kept still l h = h
shaped-kept (push x) l h =
    record
    { returns-long = length-set l.returns l.r x ∙ h.returns-long; frames-long = h.frames-long; levels-long = h.levels-long }
shaped-kept (call address) l h =
    record {
      returns-long = length-set l.returns l.r address ∙ h.returns-long;
      frames-long = length-set l.frames (suc l.s) _ ∙ h.frames-long;
      levels-long = h.levels-long;
    }
shaped-kept (catch address p) l h =
    record {
      returns-long = length-set l.returns l.r address ∙ h.returns-long;
      frames-long = length-set l.frames (suc l.s) _ ∙ h.frames-long;
      levels-long = length-set l.levels (suc l.e) _ ∙ h.levels-long;
    }
shaped-kept exit l h = lowered-shaped (act exit l).r (act exit l).s (act exit l).e l h
shaped-kept pop l h = lowered-shaped (act pop l).r (act pop l).s (act pop l).e l h
shaped-kept throw l h = lowered-shaped (act throw l).r (act throw l).s (act throw l).e l h
shaped-kept (keep locals cells) l h =
    record {
      returns-long = h.returns-long;
      frames-long = length-set l.frames l.s _ ∙ h.frames-long;
      levels-long = length-set l.levels l.e _ ∙ h.levels-long;
    }
shaped-kept reset l h = lowered-shaped (act reset l).r (act reset l).s (act reset l).e l h

-- the exception levels after a subroutine level was dropped, by what the test says
module _ (copy : ℕ → ℕ) (s e : ℕ) where
  levels-rise : (b : Bool) → both (ltb 0 e) (leb (s - 1) (copy e)) ≡ b → Rise copy s e → Rise copy (s - 1) (pick b (e - 1) e)
  levels-rise true t h =
      let d = drops e (s - 1) (copy e) t in
      let below : copy e < s = last-below copy s e h d.0 in
      let top : copy e ≡ s - 1 = omega (arith, d.1) in
      subst (λ (k : ℕ). Rise copy k (e - 1)) top (rest copy s e h d.0)
  levels-rise false t h = under copy s (s - 1) e h (stays e (s - 1) (copy e) t)

lower-within : (copy : ℕ → ℕ) (limit e : ℕ) (b : Bool) → Within copy limit e → Within copy limit (pick b (e - 1) e)
lower-within copy limit e true h = rest-within copy limit e h
lower-within copy limit e false h = h

lower-le : (n limit : ℕ) (b : Bool) → n ≤ limit → pick b (n - 1) n ≤ limit
lower-le n limit true h = omega arith
lower-le n limit false h = h

-- R is now the copy in the level that was dropped
left-sound : (r : ℕ) (l : Links) → Sound l → 0 < l.s → r ≡ copy_of_r l.frames l.s
    → Sound (lowered r (l.s - 1) (e_after_drop l) l)
left-sound r l h z is =
    let below : copy_of_r l.frames l.s < l.r = last-below (copy_of_r l.frames) l.r l.s h.returns-rise z in
    let test : Bool = both (ltb 0 l.e) (leb (l.s - 1) (copy_of_s l.levels l.e)) in
    let rise : Rise (copy_of_s l.levels) (l.s - 1) (e_after_drop l) =
    levels-rise (copy_of_s l.levels) l.s l.e test refl h.subroutines-rise in
    record {
      r-within = omega arith;
      s-within = omega arith;
      e-within = lower-le l.e exceptions_depth test h.e-within;
      returns-rise =
          subst (λ (k : ℕ). Rise (copy_of_r l.frames) k (l.s - 1)) (sym is) (rest (copy_of_r l.frames) l.r l.s h.returns-rise z);
      subroutines-rise = rise;
      depths-within = lower-within (copy_of_p l.levels) most_copy_of_p l.e test h.depths-within;
    }

popped-sound : (l : Links) → Sound l → 0 < l.r → (b : Bool) → drops_frame l ≡ b
    → Sound (lowered (l.r - 1) (pick b (l.s - 1) l.s) (pick b (e_after_drop l) l.e) l)
popped-sound l h z true t =
    let d = drops l.s (l.r - 1) (copy_of_r l.frames l.s) t in
    let below : copy_of_r l.frames l.s < l.r = last-below (copy_of_r l.frames) l.r l.s h.returns-rise d.0 in
    left-sound (l.r - 1) l h d.0 (omega (arith, d.1))
popped-sound l h z false t =
    record {
      r-within = omega arith;
      s-within = h.s-within;
      e-within = h.e-within;
      returns-rise =
          under (copy_of_r l.frames) l.r (l.r - 1) l.s h.returns-rise (stays l.s (l.r - 1) (copy_of_r l.frames l.s) t);
      subroutines-rise = h.subroutines-rise;
      depths-within = h.depths-within;
    }

thrown-sound : (l : Links) → Sound l → 0 < l.e → Sound (act throw l)
thrown-sound l h z =
    let t : ℕ = thrown_s l in
    let t-below : t < l.s = last-below (copy_of_s l.levels) l.s l.e h.subroutines-rise z in
    let r-below : copy_of_r l.frames (suc t) < l.r =
    each_below (copy_of_r l.frames) l.r l.s (suc t) h.returns-rise (omega arith) (omega arith) in
    record {
      r-within = omega arith;
      s-within = omega arith;
      e-within = omega arith;
      returns-rise = cut (copy_of_r l.frames) l.r l.s t h.returns-rise t-below;
      subroutines-rise = rest (copy_of_s l.levels) l.s l.e h.subroutines-rise z;
      depths-within = rest-within (copy_of_p l.levels) most_copy_of_p l.e h.depths-within;
    }

called-rise : (address : ℕ) (l : Links) → Shaped l → Sound l → l.s < subroutines_depth
    → Rise (copy_of_r (called address l).frames) (suc l.r) (suc l.s)
called-rise address l f h below =
    let room : suc l.s < length l.frames = omega (arith, f.frames-long) in
    pushed-rise (copy_of_r l.frames) (copy_of_r (called address l).frames) l.r l.s
    (part-stored no_frame (λ (x : Frame). x.r) l.frames (suc l.s) _ room)
    (λ i z le. part-below no_frame (λ (x : Frame). x.r) l.frames (suc l.s) _ i (omega arith)) h.returns-rise

-- every action keeps sound links sound, if it is not refused
pub kept : (a : Act) (l : Links) → Shaped l → Sound l → Allowed a l → Sound (act a l)
kept still l f h ok = h
kept (push x) l f h ok =
    record {
      r-within = ok;
      s-within = h.s-within;
      e-within = h.e-within;
      returns-rise = raised (copy_of_r l.frames) l.r l.s h.returns-rise;
      subroutines-rise = h.subroutines-rise;
      depths-within = h.depths-within;
    }
kept (call address) l f h ok =
    record {
      r-within = ok.0;
      s-within = ok.1;
      e-within = h.e-within;
      returns-rise = called-rise address l f h ok.1;
      subroutines-rise = raised (copy_of_s l.levels) l.s l.e h.subroutines-rise;
      depths-within = h.depths-within;
    }
kept (catch address p) l f h ok =
    let room : suc l.e < length l.levels = omega (arith, f.levels-long, ok.2) in
    let new : List Level = (act (catch address p) l).levels in
    record {
      r-within = ok.0;
      s-within = ok.1;
      e-within = ok.2;
      returns-rise = called-rise address l f h ok.1;
      subroutines-rise =
          pushed-rise (copy_of_s l.levels) (copy_of_s new) l.s l.e
          (part-stored no_level (λ (x : Level). x.s) l.levels (suc l.e) _ room)
          (λ i z le. part-below no_level (λ (x : Level). x.s) l.levels (suc l.e) _ i (omega arith)) h.subroutines-rise;
      depths-within =
          let stored : copy_of_p new (suc l.e) ≡ p = part-stored no_level (λ (x : Level). x.p) l.levels (suc l.e) _ room in (
            omega (arith, ok.3),
            same-within (copy_of_p l.levels) (copy_of_p new) most_copy_of_p l.e
                (λ i z le. part-below no_level (λ (x : Level). x.p) l.levels (suc l.e) _ i (omega arith)) h.depths-within,
          );
    }
kept exit l f h ok = left-sound (copy_of_r l.frames l.s) l h ok refl
kept pop l f h ok = popped-sound l h ok (drops_frame l) refl
kept throw l f h ok = thrown-sound l h ok
kept (keep locals cells) l f h ok =
    let frames : List Frame = (act (keep locals cells) l).frames in
    let levels : List Level = (act (keep locals cells) l).levels in
    record {
      r-within = h.r-within;
      s-within = h.s-within;
      e-within = h.e-within;
      returns-rise =
          same-rise (copy_of_r l.frames) (copy_of_r frames) l.r l.s
          (λ i z le. part-kept no_frame (λ (x : Frame). x.r) l.frames l.s _ refl i) h.returns-rise;
      subroutines-rise =
          same-rise (copy_of_s l.levels) (copy_of_s levels) l.s l.e
          (λ i z le. part-kept no_level (λ (x : Level). x.s) l.levels l.e _ refl i) h.subroutines-rise;
      depths-within =
          same-within (copy_of_p l.levels) (copy_of_p levels) most_copy_of_p l.e
          (λ i z le. part-kept no_level (λ (x : Level). x.p) l.levels l.e _ refl i) h.depths-within;
    }
kept reset l f h ok =
    record
    { r-within = omega arith; s-within = omega arith; e-within = omega arith; returns-rise = tt; subroutines-rise = tt; depths-within = tt }
