-- The bench's own promise, its answer as a number.
use Rattle.glidecotton.proofs.glidecotton_bench.Goals as goal

pub returns : goal.returns
returns c = let number = c.number.ensures in record { done = _; benched = c.bench.ensures; same = λ i. record { number = number i; memory = c.bench.new.memory; out = c.bench.new.out } }
