-- The lowest bytes are the last of the eight.
use Rattle.std.proofs.Common.{◌∙◌}
use Rattle.numbers.proofs.Eight.{last-bytes}
use Rattle.numbers.proofs.writing.spell.Goals as goal

pub returns : goal.returns
returns c =
    c.copy_from_slice.ensures.after ∙ last-bytes _ _ c.to_be_bytes-all.result c.requires c.to_be_bytes-all.ensures
