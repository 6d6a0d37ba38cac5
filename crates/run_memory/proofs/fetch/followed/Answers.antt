-- The code's entry says how many bytes follow.
use Rattle.std.specs.Prelude.{◌≡◌, ℕ, ◌+◌, ◌%◌, ◌^◌}
use Rattle.std.proofs.Common.{ap, arith}
use Rattle.machine.specs.Codes.{number, bytes_with}
use Rattle.run_words.specs.Laws.Fetching.{cut, whole}
use Rattle.run_memory.proofs.fetch.followed.Goals as goal

pub returns-then-at-gt-MEMORY : goal.returns-then-at-gt-MEMORY
returns-then-at-gt-MEMORY g c = λ stands. cut c.args.mem.now c.args.counter c.args.code (number g.row.N) stands c.requires.1.1 (omega arith)

pub returns : goal.returns
returns g c =
    let size : 1 + g.row.N ≡ bytes_with (number g.row.N) = omega arith in
    λ stands. whole c.args.mem.now c.args.counter c.args.code (number g.row.N) stands c.requires.1.1 c.read.result _ (omega arith) c.read.ensures
    (ap (λ (n : ℕ). (c.args.counter + n) % 2 ^ 32) size)
