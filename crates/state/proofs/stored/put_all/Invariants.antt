-- Before pass i the first i values have been put.
use lib.ListN.{length}
use Rattle.state.proofs.Putting.{Putting}
use Rattle.state.proofs.stored.put_all.Given as goal

abbrev pub invariant-loop-i : goal.invariant-loop-i
invariant-loop-i g l = Putting g.T.Stored.part l.initial.state l.from (length l.values) l.values l.state l.i
