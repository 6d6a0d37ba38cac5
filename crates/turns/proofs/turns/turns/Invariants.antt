-- The loop is the definition's run of turns; what the memory lost is what all four have lost.
use mathlib.Core.Path.{◌≡◌}
use Prim.Native.Nat.{◌%◌, ◌^◌}
use Rattle.machine.specs.Tasks.{paired, start_of}
use Rattle.machine.specs.Sum.{sum_of, sum_after}
use Rattle.machine.proofs.Laws.Turns.{to_go}
use Rattle.order.specs.Order.{says_next}
use Rattle.run_words.specs.Clocks.{between}
use Rattle.run_words.specs.Levels.{machines_in, losses_in}
use Rattle.run_words.specs.Laws.Seated.{Seated}
use Rattle.turns.proofs.turns.turns.Given as goal

abbrev pub invariant-loop-clock : goal.invariant-loop-clock
invariant-loop-clock l =
    Seated l.quantum l.budget l.lined (start_of l.initial.mem (paired (machines_in l.initial.cells l.initial.returns l.initial.rows l.initial.copies l.initial.saved) l.initial.kept) l.budget) l.mem l.kept l.rests l.cells l.returns l.rows l.copies l.saved l.clock (says_next l.next) ×
    ((sum_of (losses_in l.rows) % 2 ^ 32 ≡ sum_after 0 l.mem l.initial.mem) × (l.most ≡ l.quantum))

abbrev pub decreases-loop-clock : goal.decreases-loop-clock
decreases-loop-clock l =
    to_go (between l.budget l.mem (machines_in l.cells l.returns l.rows l.copies l.saved) l.kept l.clock)
