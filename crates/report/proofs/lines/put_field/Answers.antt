-- There is room for the digits and one character more.
use Rattle.std.proofs.Common.{rules, arith}
use Rattle.report.specs.Text.{field}
use Rattle.report.proofs.Ending.{in-decimal, not-refused, short, inside, ended}
use Rattle.report.proofs.lines.put_field.Goals as goal

pub unwrap-last-requires : goal.unwrap-last-requires
unwrap-last-requires c = search (rules, not-refused in-decimal)

pub bounds-text-last : goal.bounds-text-last
bounds-text-last c = search (rules, inside in-decimal)

pub overflow_add-result : goal.overflow_add-result
overflow_add-result c = omega (arith, short in-decimal _ _ _ _ _ c.write_decimal.ensures c.requires _ c.unwrap-last.ensures)

pub returns : goal.returns
unfolding field
returns c = search (rules, short in-decimal, ended in-decimal)
