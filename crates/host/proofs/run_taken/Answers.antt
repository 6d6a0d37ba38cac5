-- What the called functions ensure is handed to the law.
use mathlib.Core.Path.{ap, refl, ◌∙◌}
use Prim.Native.Nat.{ℕ}
use Rattle.machine.specs.Limits.{most_budget}
use Rattle.machine.specs.Sum.{run_summed}
use Rattle.state.specs.Narrowed.{narrowed-min}
use Rattle.host.proofs.Handing.{handed-back}
use Rattle.host.proofs.run_taken.Goals as goal

pub returns : goal.returns
returns c =
    handed-back c.args.state.now c.args.memory.now c.args.budget c.args.sum c.args.res.now _ _ _ _ _ _ _ c.requires.0 refl c.requires.1
    (c.run_in-ran.ensures
    ∙ ap (λ (n : ℕ). run_summed c.args.memory.now c.args.machine.now n c.args.sum) (c.min-most.ensures ∙ narrowed-min most_budget c.args.budget))
    c.give.ensures c.give_counts.ensures
