-- Before a pass the levels below its number are read.
use Rattle.links.specs.Depths.{levels_count}
use Rattle.run_words.specs.Levels.{levels_in}
use Rattle.run_words.specs.Laws.Filled.{Filled}
use Rattle.run_levels.proofs.parts.levels_whole.Given as goal

abbrev pub invariant-loop-e : goal.invariant-loop-e
invariant-loop-e l = Filled levels_count (levels_in l.rows l.copies) l.levels l.e
