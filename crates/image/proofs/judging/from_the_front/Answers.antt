-- The budget's section is whole, so that its elements lie inside the file.
use Rattle.image.proofs.Stops.{span_inside}
use Rattle.image.specs.declared.Section.TheVariants.{Budget}
use Rattle.image.proofs.judging.from_the_front.Goals as goal

pub budget_in-requires : goal.budget_in-requires
budget_in-requires c = span_inside _ Budget _ _ _ c.span_at-3.ensures c.in_ok-budget.was
