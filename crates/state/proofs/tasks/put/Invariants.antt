-- Before pass i the first i tasks have been put.
use Rattle.machine.specs.Limits.{tasks_count}
use Rattle.machine.specs.Tasks.{paired}
use Rattle.state.specs.Layout.{task}
use Rattle.state.proofs.Putting.{Putting}
use Rattle.state.proofs.tasks.put.Given as goal

abbrev pub invariant-loop-i : goal.invariant-loop-i
invariant-loop-i l = Putting task l.initial.state l.from tasks_count (paired l.machines l.kept) l.state l.i
