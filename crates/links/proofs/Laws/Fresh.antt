-- Fresh links are of the right shape and sound, and their numbers fit.
use Rattle.std.specs.Prelude.{refl}
use Rattle.std.proofs.Common.{lit≤, lit<}
use Rattle.plain.specs.Laws.All.{all_replicate}
use Rattle.links.specs.Depths.{returns_depth, frames_count, levels_count, locals_count, level_cells}
use Rattle.links.specs.Actions.{no_locals}
use Rattle.links.specs.Fresh.{fresh_frame, fresh_level, fresh_links}
use Rattle.links.specs.Fits.{CellFits, FrameFits, LevelFits, LinksFit}
use Rattle.links.specs.Linked.{Shaped}
use Rattle.links.proofs.Laws.Sound.{Sound}

pub fresh-shaped : Shaped fresh_links
unfolding fresh_links
fresh-shaped = record { returns-long = refl; frames-long = refl; levels-long = refl }

pub fresh-sound : Sound fresh_links
unfolding fresh_links
fresh-sound =
    record
    { r-within = lit≤ tt; s-within = lit≤ tt; e-within = lit≤ tt; returns-rise = tt; subroutines-rise = tt; depths-within = tt }

frame-fits : FrameFits fresh_frame
unfolding fresh_frame no_locals
frame-fits =
    record { locals-long = refl; locals-fit = all_replicate CellFits locals_count 0 (lit< tt); r-fits = lit< tt; address-fits = lit< tt }

level-fits : LevelFits fresh_level
unfolding fresh_level
level-fits =
    record
    { cells-long = refl; cells_fit = all_replicate CellFits level_cells 0 (lit< tt); s-fits = lit< tt; p-fits = lit< tt; address-fits = lit< tt }

pub fresh-fits : LinksFit fresh_links
unfolding fresh_links
fresh-fits =
    record {
      returns-fit = all_replicate CellFits returns_depth 0 (lit< tt);
      r-fits = lit< tt;
      frames-fit = all_replicate FrameFits frames_count fresh_frame frame-fits;
      s-fits = lit< tt;
      levels-fit = all_replicate LevelFits levels_count fresh_level level-fits;
      e-fits = lit< tt;
    }
