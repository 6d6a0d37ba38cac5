-- Before pass i the first i values have been put.
use mathlib.Core.Path.{refl, subst, ◌∙◌}
use Prim.Native.Nat.{ℕ, ◌+◌, ◌*◌}
use native.Mathlib.Omega.{arith}
use lib.ListN.{length}
use Rattle.state.specs.Places.{PartPut}
use Rattle.state.proofs.Putting.{putting-none, putting-more}
use Rattle.state.proofs.stored.put_all.Goals as goal

pub loop-i-init : goal.loop-i-init
loop-i-init g c = putting-none g.T.Stored.part c.args.state.now c.args.from (length c.args.values.now) c.args.values.now refl

pub loop-i-preserved : goal.loop-i-preserved
loop-i-preserved g c =
    putting-more g.T.Stored.part c.args.state.now c.args.from (length c.args.values.now) c.args.values.now c.loop-i.invariant (omega arith)
    c.index-values-i.result c.index-values-i.result c.index-values-i.is
    (subst (λ (w : ℕ). PartPut g.T.Stored.part c.loop-i.state (c.args.from + c.loop-i.i * w) c.index-values-i.result c.put.new.state)
    (c.WIDTH.ensures ∙ g.met.T.Stored.as_wide) c.put.ensures)
