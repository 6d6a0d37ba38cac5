-- What is counted over one history after another is the sum.
use Rattle.std.specs.Prelude.{◌≡◌, ◌+◌}
use Rattle.std.proofs.Common.{arith}
use Rattle.demands.specs.History.{World, step, enters, host, others, History, here, then, joined, steps_in, cycles_in}

pub steps-joined : {w u v : World} (h : History w u) (k : History u v) → steps_in (joined h k) ≡ steps_in h + steps_in k
steps-joined here k = omega arith
steps-joined (then (step reach cost e) rest) k = omega (arith, steps-joined rest k)
steps-joined (then (enters n e kept is) rest) k = steps-joined rest k
steps-joined (then (host mask waiting e) rest) k = steps-joined rest k
steps-joined (then (others e) rest) k = steps-joined rest k

pub cycles-joined : {w u v : World} (h : History w u) (k : History u v) → cycles_in (joined h k) ≡ cycles_in h + cycles_in k
cycles-joined here k = omega arith
cycles-joined (then (step reach cost e) rest) k = omega (arith, cycles-joined rest k)
cycles-joined (then (enters n e kept is) rest) k = cycles-joined rest k
cycles-joined (then (host mask waiting e) rest) k = cycles-joined rest k
cycles-joined (then (others e) rest) k = cycles-joined rest k
