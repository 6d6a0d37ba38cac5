-- Before pass i the first i values stand in the state.
use lib.ListN.{length}
use Rattle.state.proofs.Standing.{Filling}
use Rattle.state.proofs.stored.fill.Given as goal

abbrev pub invariant-loop-i : goal.invariant-loop-i
invariant-loop-i g l = Filling g.T.Stored.part l.state l.from (length l.initial.values) l.values l.i
