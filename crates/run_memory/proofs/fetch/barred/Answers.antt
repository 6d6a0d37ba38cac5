-- The first byte decides where it is barred; else the code says how many there are.
use Rattle.std.specs.Prelude.{Some, List, ◌≡◌, ℕ}
use Rattle.std.proofs.Common.{refl, arith, rules}
use Rattle.machine.specs.Fetch.{instruction_at}
use Rattle.machine.specs.Reach.{bar_of}
use Rattle.machine.specs.declared.Reach.{Reach}
use Rattle.reach.specs.Bars.{says_barred}
use Rattle.reach.specs.declared.Bar.{Bar}
use Rattle.reach.specs.declared.Bar.TheVariants.{Outside, Foreign}
use Rattle.run_words.specs.Laws.Fetching.{by_first, by_all, first-inside}
use Rattle.run_memory.proofs.fetch.barred.Goals as goal

first_barred : (reach : Reach) (mem : List ℕ) (at : ℕ) (bar : Bar) → says_barred (Some bar) ≡ bar_of reach at 1
    → says_barred (Some bar) ≡ (instruction_at reach mem at).bar
first_barred reach mem at Outside e = by_first reach mem at e refl
first_barred reach mem at Foreign e = by_first reach mem at e refl

pub returns-in-Some : goal.returns-in-Some
returns-in-Some c = first_barred c.args.reach c.args.mem.now c.args.counter c.in-Some.bar c.in-Some.ensures

pub bounds-mem-counter : goal.bounds-mem-counter
bounds-mem-counter c = omega (arith, first-inside c.args.reach c.args.mem.now c.args.counter c.in_default.ensures)

pub returns : goal.returns
returns c = by_all c.args.reach c.args.mem.now c.args.counter (search rules) c.length_of.ensures c.barred-2.ensures
