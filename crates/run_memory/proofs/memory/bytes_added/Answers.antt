-- Two and two bytes, then both halves.
use Rattle.std.proofs.Common.{rules}
use Rattle.run_words.specs.Laws.Losses.{halves-added}
use Rattle.run_memory.proofs.memory.bytes_added.Goals as goal

pub returns : goal.returns
returns c = halves-added c.args.value _ _ (search rules) c.every_second.ensures.0 c.every_second-2.ensures.0
