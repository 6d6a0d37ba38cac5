-- Room for five shared bytes is enough; else what bars the instruction decides.
use Rattle.run_words.specs.Laws.Fetching.{all-shared}
use Rattle.run_memory.proofs.fetch.foreign.Goals as goal

pub returns-then-counter-reach : goal.returns-then-counter-reach
returns-then-counter-reach c = all-shared c.args.reach c.args.mem.now c.args.counter c.requires.1 c.if-counter-reach.true
