-- Before pass t the first t machines are written, and what was lost before is what it was.
use Rattle.std.proofs.Common.{◌≡◌}
use Rattle.machine.specs.Sum.{sum_of}
use Rattle.run_words.specs.Levels.{losses_in, HeedsSame}
use Rattle.run_words.specs.Laws.Tasked.{Apart}
use Rattle.run_levels.proofs.taskrows.apart.Given as goal

abbrev pub invariant-loop-t : goal.invariant-loop-t
invariant-loop-t l = Apart l.machines l.cells l.returns l.rows l.copies l.saved l.t × ((sum_of (losses_in l.rows) ≡ sum_of (losses_in l.initial.rows)) × HeedsSame l.initial.rows l.rows)
