-- The machine's levels, its last THROW and its lines are those of the rows.
use Rattle.run_levels.proofs.parts.whole.Goals as goal

pub returns : goal.returns
returns c = rw (c.frames_whole-frames.ensures, c.levels_whole-levels.ensures, c.noted-thrown.ensures, c.lines-lines.ensures)
