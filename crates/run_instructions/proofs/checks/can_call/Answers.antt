-- The tests are the definition's own, in its order.
use Rattle.std.specs.Prelude.{ltb, leb}
use Rattle.std.proofs.Common.{◌∙◌}
use Rattle.plain.specs.Answer.{refuses, gives}
use Rattle.plain.specs.Choice.{pick}
use Rattle.links.specs.Depths.{returns_depth, subroutines_depth}
use Rattle.run_words.specs.Verdicts.{callable}
use Rattle.run_instructions.proofs.Testing.{handed_on, refused_first, passed_first}
use Rattle.run_instructions.proofs.checks.can_call.Goals as goal

pub returns-in_err-cells_there : goal.returns-in_err-cells_there
unfolding callable
returns-in_err-cells_there c =
    handed_on _ _ c.from_residual.ensures.1
    ∙ refused_first (ltb c.args.p c.args.takes) 5 (pick (leb returns_depth c.args.r) (refuses 9) (pick (leb subroutines_depth c.args.s) (refuses 10) (gives tt))) c.in_err-cells_there.ensures

pub returns-in_err-return_room : goal.returns-in_err-return_room
unfolding callable
returns-in_err-return_room c =
    handed_on _ _ c.from_residual-in_err-return_room.ensures.1
    ∙ passed_first (ltb c.args.p c.args.takes) 5 (pick (leb returns_depth c.args.r) (refuses 9) (pick (leb subroutines_depth c.args.s) (refuses 10) (gives tt))) c.in_ok-cells_there.ensures (refused_first (leb returns_depth c.args.r) 9 (pick (leb subroutines_depth c.args.s) (refuses 10) (gives tt)) c.in_err-return_room.ensures)

pub returns : goal.returns
unfolding callable
returns c = passed_first (ltb c.args.p c.args.takes) 5 (pick (leb returns_depth c.args.r) (refuses 9) (pick (leb subroutines_depth c.args.s) (refuses 10) (gives tt))) c.in_ok-cells_there.ensures (passed_first (leb returns_depth c.args.r) 9 (pick (leb subroutines_depth c.args.s) (refuses 10) (gives tt)) c.in_ok-return_room.ensures (c.level_room.ensures))
