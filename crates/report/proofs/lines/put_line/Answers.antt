-- Before pass i the text is the first i numbers, each with its space.
use Rattle.std.proofs.Common.{rules, arith, length-take}
use Rattle.report.proofs.Growing.{grown_more, line_ends}
use Rattle.report.proofs.lines.put_line.Goals as goal

pub loop-value-preserved : goal.loop-value-preserved
loop-value-preserved c = record { short = omega arith; added = search (rules, grown_more) }

pub returns : goal.returns
returns c = (
  omega (arith, length-take 9 c.args.numbers),
  line_ends c.args.numbers _ _ _ _ _ _ _ (omega arith) (omega arith) c.loop-value.invariant.added c.put_field.ensures.1,
)
