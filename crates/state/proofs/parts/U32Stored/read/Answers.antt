-- Four bytes that lie inside the state.
use native.Mathlib.Omega.{arith}
use Rattle.state.proofs.Standing.{number-stands, there-is, unwrapped}
use Rattle.state.proofs.parts.U32Stored.read.Goals as goal

pub unwrap-requires : goal.unwrap-requires
unwrap-requires c = there-is 4 c.args.state.now c.args.at c.requires _ c.read.ensures

pub returns : goal.returns
returns c =
    number-stands 4 c.args.state.now c.args.at c.requires (λ i. omega (arith, c.type_inv.state i)) _
    (unwrapped 4 c.args.state.now c.args.at c.requires _ _ c.unwrap.ensures c.read.ensures)
