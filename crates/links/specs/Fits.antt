-- What the links of a machine that exists can hold: cells and addresses of 32 bits, pointers and copies of 64.
use Rattle.std.specs.Prelude.{◌≡◌, ℕ, ◌^◌, ◌<◌, length}
use Rattle.plain.specs.All.{All}
use Rattle.links.specs.Depths.{locals_count, level_cells}
use Rattle.links.specs.declared.Frame.{Frame}
use Rattle.links.specs.declared.Level.{Level}
use Rattle.links.specs.declared.Links.{Links}

abbrev pub CellFits : ℕ → Type 0
CellFits x = x < 2 ^ 32

abbrev pub PointerFits : ℕ → Type 0
PointerFits x = x < 2 ^ 64

pub record FrameFits (f : Frame) : Type 0 where
  pub locals-long : length f.locals ≡ locals_count
  pub locals-fit : All CellFits f.locals
  pub r-fits : PointerFits f.r
  pub address-fits : CellFits f.address

pub record LevelFits (x : Level) : Type 0 where
  pub cells-long : length x.cells ≡ level_cells
  pub cells_fit : All CellFits x.cells
  pub s-fits : PointerFits x.s
  pub p-fits : PointerFits x.p
  pub address-fits : CellFits x.address

pub record LinksFit (l : Links) : Type 0 where
  pub returns-fit : All CellFits l.returns
  pub r-fits : PointerFits l.r
  pub frames-fit : All FrameFits l.frames
  pub s-fits : PointerFits l.s
  pub levels-fit : All LevelFits l.levels
  pub e-fits : PointerFits l.e
