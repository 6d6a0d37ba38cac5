-- An action with numbers that fit, on links that fit, leaves links that fit.
use Rattle.std.specs.Prelude.{◌≡◌, ℕ, suc, ◌≤◌, length}
use Rattle.std.proofs.Common.{arith}
use Rattle.std.proofs.lemmas.List.{length-replicate}
use Rattle.plain.specs.All.{All}
use Rattle.plain.specs.Laws.All.{all-at, all_set, all_replicate}
use Rattle.links.specs.Depths.{returns_depth, locals_count, level_cells}
use Rattle.links.specs.Linked.{Shaped, frame_at, level_at, no_frame, no_level}
use Rattle.links.specs.Actions.{Act, still, push, call, catch, exit, pop, throw, keep, reset, act, no_locals, called_frame}
use Rattle.links.specs.Allowed.{Allowed}
use Rattle.links.specs.Fits.{CellFits, FrameFits, LevelFits, LinksFit}
use Rattle.links.proofs.Laws.Sound.{Sound}
use Rattle.links.proofs.Laws.Kept.{kept}
use Rattle.links.specs.declared.Links.{Links}

-- the numbers that an action brings
abbrev pub ActFits : Act → Type 0
ActFits still = Unit {0}
ActFits (push x) = CellFits x
ActFits (call address) = CellFits address
ActFits (catch address p) = CellFits address
ActFits exit = Unit {0}
ActFits pop = Unit {0}
ActFits throw = Unit {0}
ActFits (keep locals cells) = (length locals ≡ locals_count) × All CellFits locals × (length cells ≡ level_cells) × All CellFits cells
ActFits reset = Unit {0}

no-locals : All CellFits no_locals
unfolding no_locals
no-locals = all_replicate CellFits locals_count 0 (omega arith)

called-fits : (r address : ℕ) → r ≤ returns_depth → CellFits address → FrameFits (called_frame r address)
unfolding no_locals
called-fits r address h fits =
    record { locals-long = length-replicate {A = ℕ} locals_count 0; locals-fit = no-locals; r-fits = omega arith; address-fits = fits }

-- the levels in view
module _ (l : Links) (shaped : Shaped l) (sound : Sound l) (h : LinksFit l) where
  pub frame-in-view : FrameFits (frame_at l l.s)
  frame-in-view = all-at FrameFits l.frames h.frames-fit l.s no_frame (omega (arith, shaped.frames-long, sound.s-within))

  pub level-in-view : LevelFits (level_at l l.e)
  level-in-view = all-at LevelFits l.levels h.levels-fit l.e no_level (omega (arith, shaped.levels-long, sound.e-within))

  -- pointers within the depths fit
  fitting : (a : Act) → Allowed a l → All CellFits (act a l).returns → All FrameFits (act a l).frames → All LevelFits (act a l).levels →
      LinksFit (act a l)
  fitting a ok returns frames levels =
      let after = kept a l shaped sound ok in
      record {
        returns-fit = returns;
        r-fits = omega (arith, after.r-within);
        frames-fit = frames;
        s-fits = omega (arith, after.s-within);
        levels-fit = levels;
        e-fits = omega (arith, after.e-within);
      }

  pub act-fits : (a : Act) → ActFits a → Allowed a l → LinksFit (act a l)
  act-fits still fits ok = h
  act-fits (push x) fits ok =
      fitting (push x) ok (all_set CellFits l.returns h.returns-fit l.r x fits) h.frames-fit h.levels-fit
  act-fits (call address) fits ok =
      fitting (call address) ok (all_set CellFits l.returns h.returns-fit l.r address fits)
      (all_set FrameFits l.frames h.frames-fit (suc l.s) _ (called-fits l.r address sound.r-within fits)) h.levels-fit
  act-fits (catch address p) fits ok =
      fitting (catch address p) ok (all_set CellFits l.returns h.returns-fit l.r address fits)
      (all_set FrameFits l.frames h.frames-fit (suc l.s) _ (called-fits l.r address sound.r-within fits))
      (all_set LevelFits l.levels h.levels-fit (suc l.e) _
      (record {
        cells-long = level-in-view.cells-long;
        cells_fit = level-in-view.cells_fit;
        s-fits = omega (arith, sound.s-within);
        p-fits = omega (arith, ok.3);
        address-fits = omega arith;
      }))
  act-fits exit fits ok = fitting exit ok h.returns-fit h.frames-fit h.levels-fit
  act-fits pop fits ok = fitting pop ok h.returns-fit h.frames-fit h.levels-fit
  act-fits throw fits ok = fitting throw ok h.returns-fit h.frames-fit h.levels-fit
  act-fits (keep locals cells) fits ok =
      fitting (keep locals cells) ok h.returns-fit
      (all_set FrameFits l.frames h.frames-fit l.s _
      (record { locals-long = fits.0; locals-fit = fits.1; r-fits = frame-in-view.r-fits; address-fits = frame-in-view.address-fits }))
      (all_set LevelFits l.levels h.levels-fit l.e _
      (record {
        cells-long = fits.2;
        cells_fit = fits.3;
        s-fits = level-in-view.s-fits;
        p-fits = level-in-view.p-fits;
        address-fits = level-in-view.address-fits;
      }))
  act-fits reset fits ok = fitting reset ok h.returns-fit h.frames-fit h.levels-fit
