-- Below 80 a code that no bytes follow is one byte.
use Rattle.std.proofs.Common.{refl, arith}
use Rattle.machine.specs.Codes.{none}
use Rattle.run_words.specs.Laws.Fetching.{whole}
use Rattle.run_words.specs.Laws.OneByte.{nothing-follows}
use Rattle.run_memory.proofs.fetch.plain.Goals as goal

pub returns : goal.returns
returns c = whole c.args.mem.now c.args.counter c.args.code none c.requires.1.1.1 (nothing-follows c.args.code c.requires.1.1.0.0 c.requires.1.1.0.1) 0 _ (omega arith) refl refl
