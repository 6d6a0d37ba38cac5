-- Before a pass the levels below its number are read.
use Rattle.links.specs.Depths.{frames_count}
use Rattle.run_words.specs.Levels.{frames_in}
use Rattle.run_words.specs.Laws.Filled.{Filled}
use Rattle.run_levels.proofs.parts.frames_whole.Given as goal

abbrev pub invariant-loop-s : goal.invariant-loop-s
invariant-loop-s l = Filled frames_count (frames_in l.rows l.copies) l.frames l.s
