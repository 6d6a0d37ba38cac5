-- The tests are the definition's own, in its order.
use Rattle.std.specs.Prelude.{ltb, leb}
use Rattle.std.proofs.Common.{◌∙◌}
use Rattle.plain.specs.Answer.{refuses, gives}
use Rattle.plain.specs.Choice.{pick}
use Rattle.links.specs.Depths.{returns_depth}
use Rattle.run_words.specs.Verdicts.{pushable}
use Rattle.run_instructions.proofs.Testing.{handed_on, refused_first, passed_first}
use Rattle.run_instructions.proofs.checks.can_push.Goals as goal

pub returns-in_err-cells_there : goal.returns-in_err-cells_there
unfolding pushable
returns-in_err-cells_there c =
    handed_on _ _ c.from_residual.ensures.1
    ∙ refused_first (ltb c.args.p 1) 5 (pick (leb returns_depth c.args.r) (refuses 9) (gives tt)) c.in_err-cells_there.ensures

pub returns : goal.returns
unfolding pushable
returns c = passed_first (ltb c.args.p 1) 5 (pick (leb returns_depth c.args.r) (refuses 9) (gives tt)) c.in_ok-cells_there.ensures (c.return_room.ensures)
