-- Before pass i the array is the first i cells and zeros above them.
use Rattle.std.proofs.Common.{◌≡◌}
use Rattle.links.specs.Depths.{cells_depth}
use Rattle.numbers.specs.Lists.{list_at}
use Rattle.plain.specs.Zeros.{padded}
use Rattle.image.specs.Format.{cell_width}
use Rattle.image.proofs.place.cells.Given as goal

abbrev pub invariant-loop-i : goal.invariant-loop-i
invariant-loop-i l = l.cells ≡ padded cells_depth (list_at cell_width l.i l.file l.from)
