-- Before pass i the first i tasks stand in the state.
use mathlib.Core.List.{List}
use Prim.Native.Nat.{ℕ}
use Rattle.machine.specs.Limits.{tasks_count}
use Rattle.machine.specs.declared.Machine.{Machine}
use Rattle.machine.specs.declared.Tasks.{Tasks}
use Rattle.machine.specs.Tasks.{paired, Four}
use Rattle.state.specs.Layout.{task}
use Rattle.state.proofs.Standing.{Filling}
use Rattle.state.proofs.tasks.read.Given as goal

abbrev pub tasks_of : List Machine → List ℕ → Tasks
tasks_of machines kept = record { machines = machines; kept = kept }

abbrev pub invariant-loop-i : goal.invariant-loop-i
invariant-loop-i l = Four (tasks_of l.machines l.kept) × Filling task l.state l.from tasks_count (paired l.machines l.kept) l.i
