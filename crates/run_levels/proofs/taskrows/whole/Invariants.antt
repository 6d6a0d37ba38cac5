-- Before pass t the first t machines are read.
use Rattle.machine.specs.Limits.{tasks_count}
use Rattle.run_words.specs.Levels.{machines_in}
use Rattle.run_words.specs.Laws.Filled.{Filled}
use Rattle.run_levels.proofs.taskrows.whole.Given as goal

abbrev pub invariant-loop-t : goal.invariant-loop-t
invariant-loop-t l = Filled tasks_count (machines_in l.cells l.returns l.rows l.copies l.saved) l.machines l.t
