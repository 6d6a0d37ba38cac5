-- A call and a CATCH make what document 01 says, field by field.
use Rattle.std.specs.Prelude.{◌≡◌, refl, ℕ, suc, length, get_or}
use Rattle.std.proofs.Common.{ap, ◌∙◌, arith, get_or-set_same}
use Rattle.std.proofs.lemmas.List.{length-replicate, get_or-replicate}
use Rattle.links.specs.Depths.{locals_count}
use Rattle.links.specs.Actions.{call, catch, act, no_locals, called_frame, caught_level}
use Rattle.links.specs.Called.{Called, Caught}
use Rattle.links.specs.Allowed.{Allowed}
use Rattle.links.specs.Linked.{Shaped, frame_at, level_at, no_frame, no_level}
use Rattle.links.specs.declared.Frame.{Frame}
use Rattle.links.specs.declared.Level.{Level}
use Rattle.links.specs.declared.Links.{Links}

called : (address : ℕ) (o l : Links) → l.r ≡ suc o.r → l.s ≡ suc o.s → ((d : ℕ) → get_or l.returns o.r d ≡ address)
    → frame_at l (suc o.s) ≡ called_frame o.r address → Called address o l
unfolding no_locals
called address o l one_cell one-level cell level =
    record {
      one_cell = one_cell;
      one-level = one-level;
      return-cell = cell;
      return-address = ap (λ (x : Frame). x.address) level;
      holds-r = ap (λ (x : Frame). x.r) level;
      sixteen = ap (λ (x : Frame). length x.locals) level ∙ length-replicate {A = ℕ} locals_count 0;
      cleared = λ i d h. ap (λ (x : Frame). get_or x.locals i d) level ∙ get_or-replicate {A = ℕ} locals_count i 0 d h;
    }

pub call-makes : (address : ℕ) (o : Links) → Shaped o → Allowed (call address) o → Called address o (act (call address) o)
call-makes address o f ok =
    called address o (act (call address) o) refl refl
    (λ d. get_or-set_same o.returns o.r address d (omega (arith, f.returns-long, ok.0)))
    (get_or-set_same o.frames (suc o.s) (called_frame o.r address) no_frame (omega (arith, f.frames-long, ok.1)))

pub catch-makes : (address p : ℕ) (o : Links) → Shaped o → Allowed (catch address p) o → Caught address p o (act (catch address p) o)
catch-makes address p o f ok =
    let made : Level = caught_level (level_at o o.e).cells o.s p address in
    let level : level_at (act (catch address p) o) (suc o.e) ≡ made =
    get_or-set_same o.levels (suc o.e) made no_level (omega (arith, f.levels-long, ok.2)) in
    record {
      call =
          called address o (act (catch address p) o) refl refl
          (λ d. get_or-set_same o.returns o.r address d (omega (arith, f.returns-long, ok.0)))
          (get_or-set_same o.frames (suc o.s) (called_frame o.r address) no_frame (omega (arith, f.frames-long, ok.1)));
      one_more = refl;
      same-cells = ap (λ (x : Level). x.cells) level;
      holds-s = ap (λ (x : Level). x.s) level;
      holds-p = ap (λ (x : Level). x.p) level;
      throw-address = ap (λ (x : Level). x.address) level;
    }
