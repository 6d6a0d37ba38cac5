-- What a machine and a memory that exist can hold: cells and addresses of 32 bits, pointers and their copies of 64, bytes of 8.
use Rattle.std.specs.Prelude.{List, ℕ, ◌^◌, ◌<◌}
use Rattle.plain.specs.All.{All}
use Rattle.links.specs.Fits.{CellFits, PointerFits, LinksFit}
use Rattle.machine.specs.State.{Whole}
use Rattle.machine.specs.declared.LastThrow.{LastThrow}
use Rattle.machine.specs.declared.Lines.{Lines}
use Rattle.machine.specs.declared.Machine.{Machine}

pub record ThrowFits (t : LastThrow) : Type 0 where
  pub address-fits : CellFits t.address
  pub code_fits : CellFits t.code

pub record LinesFit (l : Lines) : Type 0 where
  pub mask_fits : CellFits l.mask
  pub waiting-fits : CellFits l.waiting
  pub block-fits : CellFits l.block

pub record Fits (m : Machine) : Type 0 where
  pub cells_fit : All CellFits m.cells
  pub p-fits : PointerFits m.p
  pub links-fit : LinksFit m.links
  pub counter-fits : CellFits m.counter
  pub flag-fits : CellFits m.flag
  pub thrown-fits : ThrowFits m.thrown
  pub lines_fit : LinesFit m.lines

-- every byte of a memory is one
abbrev pub AllBytes : List ℕ → Type 0
AllBytes mem = All (λ b. b < 2 ^ 8) mem

-- a machine and a memory that exist
pub record Exist (mem : List ℕ) (m : Machine) : Type 0 where
  pub whole : Whole m
  pub fits : Fits m
  pub bytes : AllBytes mem
