-- The request is cleared, and the block set.
use mathlib.Core.Path.{ap}
use Prim.Native.Nat.{ℕ}
use Rattle.machine.specs.declared.Lines.{Lines}
use Rattle.requests.proofs.serving.Goals as goal

pub returns : goal.returns
returns c = ap {B = Lines} (λ (w : ℕ). record { mask = c.args.lines.mask; waiting = w; block = 1 }) c.without-waiting.ensures
