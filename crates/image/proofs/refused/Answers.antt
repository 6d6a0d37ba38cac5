-- A refusal hands back a fresh machine, and neither budget nor sum.
use Rattle.image.specs.Loading.{refused_with}
use Rattle.image.proofs.refused.Goals as goal

pub returns : goal.returns
unfolding refused_with
returns c = cc
