-- Before pass i the first i values stand in the state.
use mathlib.Core.Path.{refl, subst, ◌∙◌}
use Prim.Native.Nat.{ℕ, ◌+◌, ◌*◌}
use native.Mathlib.Omega.{arith}
use lib.ListN.{length}
use Rattle.state.specs.Places.{PartStands}
use Rattle.state.proofs.Standing.{filling-none, filling-more}
use Rattle.state.proofs.stored.fill.Goals as goal

pub loop-i-init : goal.loop-i-init
loop-i-init g c = filling-none g.T.Stored.part c.args.state.now c.args.from (length c.args.values.now) c.args.values.now refl

pub loop-i-preserved : goal.loop-i-preserved
loop-i-preserved g c =
    filling-more g.T.Stored.part c.args.state.now c.args.from (length c.args.values.now) c.loop-i.invariant (omega arith) c.read.result
    (subst (λ (w : ℕ). PartStands g.T.Stored.part c.args.state.now (c.args.from + c.loop-i.i * w) c.read.result)
    (c.WIDTH.ensures ∙ g.met.T.Stored.as_wide) c.read.ensures)
