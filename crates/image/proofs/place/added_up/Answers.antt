-- The library's sum is that of a memory.
use Rattle.std.proofs.Common.{◌≡◌, ◌∙◌, sum, rules}
use Rattle.image.proofs.Placing.{sum_is}
use Rattle.image.proofs.place.added_up.Goals as goal

pub returns : goal.returns
returns c = let total : c.sum.result ≡ sum c.args.bytes.now = search rules in total ∙ sum_is c.args.bytes.now
