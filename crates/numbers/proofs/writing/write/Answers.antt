-- Where the bytes lie inside they are put, else nothing is touched.
use Rattle.std.proofs.Common.{ℕ}
use Rattle.numbers.specs.Bytes.{bytes_of}
use Rattle.numbers.specs.Laws.Bytes.{length-bytes}
use Rattle.numbers.proofs.Answering.{within, part-sets, written, not_written}
use Rattle.numbers.proofs.writing.write.Goals as goal

pub returns-then-not-inside : goal.returns-then-not-inside
returns-then-not-inside g c =
    not_written _ c.args.bytes.now c.args.at c.BYTES.result c.BYTES.ensures c.args.value c.if-not-inside.ensures

pub returns : goal.returns
returns g c =
    written g.T.Number.BYTES c.args.bytes.now c.args.at c.BYTES.result c.BYTES.ensures c.args.value _
    c.if-not-inside.ensures
    (part-sets (λ (n : ℕ). bytes_of n c.args.value) (λ n. length-bytes n c.args.value)
    g.T.Number.BYTES c.args.at c.BYTES-2.result c.args.bytes.now _
    (within g.T.Number.BYTES c.args.bytes.now c.args.at c.BYTES.result c.BYTES.ensures c.if-not-inside.ensures)
    c.BYTES-2.ensures c.spell.ensures)
