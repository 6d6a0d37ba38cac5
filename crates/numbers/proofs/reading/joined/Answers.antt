-- The other bytes of the eight are 0.
use Rattle.std.proofs.Common.{◌∙◌}
use Rattle.numbers.proofs.Eight.{joined-eight}
use Rattle.numbers.proofs.reading.joined.Goals as goal

pub returns : goal.returns
returns c = c.from_be_bytes.ensures ∙ joined-eight c.args.bytes.now _ c.requires c.copy_from_slice.ensures.after
