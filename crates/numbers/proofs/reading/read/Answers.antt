-- The part that is joined stands at the place, and its number fits the type.
use Rattle.std.proofs.Common.{arith}
use Rattle.numbers.proofs.Answering.{within, read-number, found, not_found}
use Rattle.numbers.proofs.reading.read.Goals as goal

pub returns-then-not-inside : goal.returns-then-not-inside
returns-then-not-inside g c =
    not_found _ c.args.bytes.now c.args.at c.BYTES.result c.BYTES.ensures c.if-not-inside.ensures

pub returns : goal.returns
returns g c =
    found g.T.Number.BYTES c.args.bytes.now c.args.at c.BYTES.result c.BYTES.ensures _ c.if-not-inside.ensures
    (read-number g.T.Number.BYTES c.args.at c.args.bytes.now c.BYTES-2.result _ _
    (λ i. omega (arith, c.type_inv.bytes i))
    (within g.T.Number.BYTES c.args.bytes.now c.args.at c.BYTES.result c.BYTES.ensures c.if-not-inside.ensures)
    c.BYTES-2.ensures c.joined.ensures c.lowest.ensures)
