-- What is written lies inside, so the bytes of the number stand there.
use Rattle.std.proofs.Common.{◌≡◌, ap, arith, rules, ne_eqb}
use Rattle.machine.specs.Memory.{size}
use Rattle.machine.specs.declared.Width.TheVariants.{Byte}
use Rattle.reach.specs.Spots.{width_of}
use Rattle.run_words.specs.Laws.Written.{written}
use Rattle.run_memory.proofs.memory.write_number.Goals as goal

pub returns-in-45 : goal.returns-in-45
returns-in-45 c = rw c.in-45.is (written 4 c.args.value c.args.at c.args.mem.now (omega (arith, ap (λ c. size (width_of c)) c.in-45.is)) c.write.ensures)

pub returns-in-46 : goal.returns-in-46
returns-in-46 c = rw c.in-46.is (written 4 c.args.value c.args.at c.args.mem.now (omega (arith, ap (λ c. size (width_of c)) c.in-46.is)) c.write-in-46.ensures)

pub returns-in-47 : goal.returns-in-47
returns-in-47 c = rw c.in-47.is (written 2 c.args.value c.args.at c.args.mem.now (omega (arith, ap (λ c. size (width_of c)) c.in-47.is)) c.write-in-47.ensures)

pub returns-in-48 : goal.returns-in-48
returns-in-48 c = rw c.in-48.is (written 2 c.args.value c.args.at c.args.mem.now (omega (arith, ap (λ c. size (width_of c)) c.in-48.is)) c.write-in-48.ensures)

pub returns-in_default : goal.returns-in_default
returns-in_default c = let byte : width_of c.args.code ≡ Byte = search (rules, ne_eqb) in rw byte (written 1 c.args.value c.args.at c.args.mem.now (omega (arith, ap size byte)) c.write-in_default.ensures)
