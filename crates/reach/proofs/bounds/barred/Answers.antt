-- By the first address past the reach.
use Rattle.reach.proofs.Beyond.{no_bytes, barred-far, barred-near, barred-past, barred-not}
use Rattle.reach.proofs.bounds.barred.Goals as goal

pub returns-then-size-eq0 : goal.returns-then-size-eq0
returns-then-size-eq0 c = no_bytes c.args.reach c.args.address c.if-size-eq0.true

pub returns-then-beyond-lt-MEMORY : goal.returns-then-beyond-lt-MEMORY
returns-then-beyond-lt-MEMORY c = barred-near c.args.reach c.args.address c.args.size c.past_shared.ensures c.past_own-beyond.ensures c.if-size-eq0.false c.if-beyond-end.true c.if-beyond-lt-MEMORY.true

pub returns-then-beyond-end : goal.returns-then-beyond-end
returns-then-beyond-end c = barred-far c.args.reach c.args.address c.args.size c.past_shared.ensures c.past_own-beyond.ensures c.if-size-eq0.false c.if-beyond-end.true c.if-beyond-lt-MEMORY.false

pub returns-then-end-gt-MEMORY : goal.returns-then-end-gt-MEMORY
returns-then-end-gt-MEMORY c = barred-past c.args.reach c.args.address c.args.size c.past_shared.ensures c.past_own-beyond.ensures c.if-size-eq0.false c.if-beyond-end.false c.if-end-gt-MEMORY.true

pub returns : goal.returns
returns c = barred-not c.args.reach c.args.address c.args.size c.past_shared.ensures c.past_own-beyond.ensures c.if-size-eq0.false c.if-beyond-end.false c.if-end-gt-MEMORY.false
