-- Each range that the value is not in puts it above a power of ten, and the one that it is in below the next.
use Rattle.std.proofs.Common.{arith}
use Rattle.numbers.proofs.Filling.{few-digits, many-digits}
use Rattle.numbers.proofs.digits.decimal_length.Goals as goal

pub returns-in-0-to-9 : goal.returns-in-0-to-9
returns-in-0-to-9 c = few-digits c.args.value (omega arith)

pub returns-in-0-to-99 : goal.returns-in-0-to-99
returns-in-0-to-99 c = many-digits _ c.args.value (omega arith) (omega arith) (omega arith)

pub returns-in-0-to-999 : goal.returns-in-0-to-999
returns-in-0-to-999 c = many-digits _ c.args.value (omega arith) (omega arith) (omega arith)

pub returns-in-0-to-9999 : goal.returns-in-0-to-9999
returns-in-0-to-9999 c = many-digits _ c.args.value (omega arith) (omega arith) (omega arith)

pub returns-in-0-to-99999 : goal.returns-in-0-to-99999
returns-in-0-to-99999 c = many-digits _ c.args.value (omega arith) (omega arith) (omega arith)

pub returns-in-0-to-999999 : goal.returns-in-0-to-999999
returns-in-0-to-999999 c = many-digits _ c.args.value (omega arith) (omega arith) (omega arith)

pub returns-in-0-to-9999999 : goal.returns-in-0-to-9999999
returns-in-0-to-9999999 c = many-digits _ c.args.value (omega arith) (omega arith) (omega arith)

pub returns-in-0-to-99999999 : goal.returns-in-0-to-99999999
returns-in-0-to-99999999 c = many-digits _ c.args.value (omega arith) (omega arith) (omega arith)

pub returns-in-0-to-999999999 : goal.returns-in-0-to-999999999
returns-in-0-to-999999999 c = many-digits _ c.args.value (omega arith) (omega arith) (omega arith)

pub returns-in-0-to-9999999999 : goal.returns-in-0-to-9999999999
returns-in-0-to-9999999999 c = many-digits _ c.args.value (omega arith) (omega arith) (omega arith)

pub returns-in-0-to-99999999999 : goal.returns-in-0-to-99999999999
returns-in-0-to-99999999999 c = many-digits _ c.args.value (omega arith) (omega arith) (omega arith)

pub returns-in-0-to-999999999999 : goal.returns-in-0-to-999999999999
returns-in-0-to-999999999999 c = many-digits _ c.args.value (omega arith) (omega arith) (omega arith)

pub returns-in-0-to-9999999999999 : goal.returns-in-0-to-9999999999999
returns-in-0-to-9999999999999 c = many-digits _ c.args.value (omega arith) (omega arith) (omega arith)

pub returns-in-0-to-99999999999999 : goal.returns-in-0-to-99999999999999
returns-in-0-to-99999999999999 c = many-digits _ c.args.value (omega arith) (omega arith) (omega arith)

pub returns-in-0-to-999999999999999 : goal.returns-in-0-to-999999999999999
returns-in-0-to-999999999999999 c = many-digits _ c.args.value (omega arith) (omega arith) (omega arith)

pub returns-in-0-to-9999999999999999 : goal.returns-in-0-to-9999999999999999
returns-in-0-to-9999999999999999 c = many-digits _ c.args.value (omega arith) (omega arith) (omega arith)

pub returns-in-0-to-99999999999999999 : goal.returns-in-0-to-99999999999999999
returns-in-0-to-99999999999999999 c = many-digits _ c.args.value (omega arith) (omega arith) (omega arith)

pub returns-in-0-to-999999999999999999 : goal.returns-in-0-to-999999999999999999
returns-in-0-to-999999999999999999 c = many-digits _ c.args.value (omega arith) (omega arith) (omega arith)

pub returns-in-0-to-9999999999999999999 : goal.returns-in-0-to-9999999999999999999
returns-in-0-to-9999999999999999999 c = many-digits _ c.args.value (omega arith) (omega arith) (omega arith)

pub returns-in_default : goal.returns-in_default
returns-in_default c = many-digits _ c.args.value (omega arith) (omega arith) (omega arith)
