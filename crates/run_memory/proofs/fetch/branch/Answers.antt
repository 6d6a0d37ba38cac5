-- Both branches are two bytes; the target wraps.
-- the code's own two bits go
use Rattle.std.proofs.Common.{◌≡◌, ℕ, ◌+◌, ◌*◌, ◌%◌, ◌^◌, ◌<◌, refl, ap, ◌∙◌, arith}
use Rattle.numbers.specs.Bytes.{byte_at}
use Rattle.machine.specs.Codes.{offset}
use Rattle.machine.specs.Fetch.{extended}
use Rattle.run_words.specs.Laws.Fetching.{cut, whole, branch_follows}
use Rattle.run_memory.proofs.fetch.branch.Goals as goal

low_bits : (high low : ℕ) → low < 2 ^ 8 → (high * 2 ^ 8 + low) % 2 ^ 14 ≡ high % 2 ^ 6 * 2 ^ 8 + low
low_bits high low small = omega arith

pub returns-then-at-gt-MEMORY : goal.returns-then-at-gt-MEMORY
returns-then-at-gt-MEMORY c = cut c.args.mem.now c.args.counter c.args.code offset c.requires.1.1.1 (branch_follows c.args.code (omega arith)) c.if-at-gt-MEMORY.true

pub returns : goal.returns
returns c = let exact : (c.args.counter + 2) % 2 ^ 32 ≡ c.args.counter + 2 = omega arith in whole c.args.mem.now c.args.counter c.args.code offset c.requires.1.1.1 (branch_follows c.args.code (omega arith)) _ _ (omega arith) ((ap (λ (x : ℕ). (x + c.branch_offset-offset.result) % 2 ^ 32) exact ∙ ap (λ (x : ℕ). (c.args.counter + 2 + x) % 2 ^ 32) (c.branch_offset-offset.ensures ∙ ap extended (ap (λ (x : ℕ). x % 2 ^ 14) c.read.ensures ∙ low_bits (byte_at c.args.mem.now c.args.counter) (byte_at c.args.mem.now (c.args.counter + 1)) (c.shared_slice_known-1.given (c.args.counter + 1)).fits)))) refl
