-- The loop is the definition's run of turns; what the memory lost is what all four have lost.
use mathlib.Core.Path.{refl, ap, ◌∙◌}
use mathlib.Core.List.{[]}
use Prim.Native.Nat.{◌+◌, ◌-◌, ◌%◌, ◌^◌}
use native.Mathlib.Omega.{arith}
use lib.ListN.{get_or, replicate}
use Rattle.machine.specs.Limits.{tasks_count}
use Rattle.machine.specs.Tasks.{tasks_in}
use Rattle.machine.specs.Sum.{sum_of}
use Rattle.machine.specs.declared.Tasks.{Tasks}
use Rattle.machine.proofs.Laws.TasksTaken.{taken}
use Rattle.order.specs.Order.{says_next}
use Rattle.run_words.specs.Clocks.{ran_tasks_of}
use Rattle.run_words.specs.Levels.{no_pointers, machines_in, losses_in}
use Rattle.run_words.specs.Laws.Again.{zero_rows, all-zeros-laid, no-losses, no-heeds}
use Rattle.run_words.specs.Laws.Lining.{lining-first}
use Rattle.run_words.specs.Laws.Losses.{nothing-lost, losses-more, sum_less, twice}
use Rattle.run_words.specs.Laws.Serving.{attended}
use Rattle.run_words.specs.Laws.Seated.{Opened, seated-first, noted-there, noted-machines, noted-losses, seated-idle, idle-less, seat-within, seat-ready, some_left, opened-plain, opened-lined, opened-as, seat-starts, again-answers, seat-steps, seat-cycles, seat-unspent, seated-on, seated-less, rows_then, from-first-to-last}
use Rattle.turns.proofs.turns.turns.Goals.{then-t-lined, else-t-lined}
use Rattle.turns.proofs.turns.turns.Goals as goal

-- however a turn starts
opened-there : (c : goal.After-reach_of) → Opened c.args.quantum (get_or c.loop-clock.rests 0 0) c.lined_task-lined.result c.loop-clock.mem (machines_in c.loop-clock.cells c.loop-clock.returns c.loop-clock.rows c.loop-clock.copies c.loop-clock.saved) c.loop-clock.clock.left.0
    c.in-Some.t c.loop-clock.cells c.loop-clock.rows c.if-t-lined.length c.if-t-lined.rests c.if-t-lined.returns c.if-t-lined.rows c.if-t-lined.copies c.if-t-lined.saved
opened-there c =
    let less = c.loop-clock-test.true in
    let is = ap says_next c.in-Some.is in
    elim c.if-t-lined.branch [
      | then-t-lined w ↦ opened-as c.loop-clock.invariant.0 less is (opened-lined c.loop-clock.invariant.0 less is w.if-t-lined.true w.opened-length.ensures c.loop-clock.invariant.1.1 w.let_in.ensures)
          w.returns-is w.rows-is w.copies-is w.saved-is w.rests-is w.length-is
      | else-t-lined w ↦ opened-as c.loop-clock.invariant.0 less is (opened-plain c.loop-clock.invariant.0 less is c.turn_length-length.ensures c.loop-clock.invariant.1.1 w.if-t-lined.false)
          w.returns-is w.rows-is w.copies-is w.saved-is w.rests-is w.length-is
    ]

pub apart-saved-requires : goal.apart-saved-requires
apart-saved-requires c = ((refl, refl), all-zeros-laid)

pub some-most-requires : goal.some-most-requires
some-most-requires c = (taken c.args.mem.now (tasks_in c.args.tasks.now) c.args.quantum c.args.budget c.requires.0.0).some

pub loop-clock-init : goal.loop-clock-init
loop-clock-init c = (seated-first c.args.mem.now c.args.tasks.now.machines c.args.tasks.now.kept c.args.quantum c.args.budget c.requires.1.0 c.requires.1.1 c.requires.0.0 c.requires.0.1.0 c.apart-saved.ensures.0 c.apart-saved.ensures.1.0 (attended (get_or c.apart-saved.new.cells 0 []) (get_or c.apart-saved.new.returns 0 []) (get_or c.apart-saved.result 0 no_pointers) (c.apart-saved.ensures.0.laid 0 (omega arith)) c.lined_task-lined.ensures.attends) (lining-first (replicate tasks_count zero_rows) c.apart-saved.new.rows no-heeds c.apart-saved.ensures.1.1.1 c.lined_task-lined.ensures (c.apart-saved.ensures.0.laid 0 (omega arith)) (noted-there c.apart-saved.ensures.0 (attended (get_or c.apart-saved.new.cells 0 []) (get_or c.apart-saved.new.returns 0 []) (get_or c.apart-saved.result 0 no_pointers) (c.apart-saved.ensures.0.laid 0 (omega arith)) c.lined_task-lined.ensures.attends))) refl refl refl refl refl c.next_ready-next.ensures, (ap (λ n. n % 2 ^ 32) (noted-losses c.apart-saved.ensures.0 (attended (get_or c.apart-saved.new.cells 0 []) (get_or c.apart-saved.new.returns 0 []) (get_or c.apart-saved.result 0 no_pointers) (c.apart-saved.ensures.0.laid 0 (omega arith)) c.lined_task-lined.ensures.attends) ∙ (c.apart-saved.ensures.1.1.0 ∙ no-losses)) ∙ nothing-lost 0 c.args.mem.now, c.some-most.ensures))

pub loop-clock-smaller-in_default : goal.loop-clock-smaller-in_default
loop-clock-smaller-in_default c = idle-less c.loop-clock.invariant.0 c.loop-clock-test.true c.idle-clock.ensures

pub loop-clock-preserved-in_default : goal.loop-clock-preserved-in_default
loop-clock-preserved-in_default c = (seated-idle c.loop-clock.invariant.0 c.loop-clock-test.true (ap says_next c.in_default.is) c.idle-clock.ensures, c.loop-clock.invariant.1)

pub offset_bounds-rests-t : goal.offset_bounds-rests-t
offset_bounds-rests-t c = omega (arith, seat-within c.loop-clock.invariant.0 c.loop-clock-test.true (ap says_next c.in-Some.is))

pub bounds-rests-t : goal.bounds-rests-t
bounds-rests-t c = omega (arith, seat-within c.loop-clock.invariant.0 c.loop-clock-test.true (ap says_next c.in-Some.is))

pub opened-length-requires : goal.opened-length-requires
opened-length-requires c = (omega (arith, c.loop-clock.invariant.1.1, c.loop-clock.invariant.0.turning.some), some_left c.loop-clock.invariant.0 c.loop-clock-test.true (ap says_next c.in-Some.is))

pub offset_bounds-rests-t-then-t-lined : goal.offset_bounds-rests-t-then-t-lined
offset_bounds-rests-t-then-t-lined c = omega (arith, seat-within c.loop-clock.invariant.0 c.loop-clock-test.true (ap says_next c.in-Some.is))

pub bounds-rests-t-then-t-lined : goal.bounds-rests-t-then-t-lined
bounds-rests-t-then-t-lined c = omega (arith, seat-within c.loop-clock.invariant.0 c.loop-clock-test.true (ap says_next c.in-Some.is))

pub offset_bounds-returns-t : goal.offset_bounds-returns-t
offset_bounds-returns-t c = omega (arith, seat-within c.loop-clock.invariant.0 c.loop-clock-test.true (ap says_next c.in-Some.is))

pub offset_bounds-rows-t : goal.offset_bounds-rows-t
offset_bounds-rows-t c = omega (arith, seat-within c.loop-clock.invariant.0 c.loop-clock-test.true (ap says_next c.in-Some.is))

pub offset_bounds-copies-t : goal.offset_bounds-copies-t
offset_bounds-copies-t c = omega (arith, seat-within c.loop-clock.invariant.0 c.loop-clock-test.true (ap says_next c.in-Some.is))

pub offset_bounds-saved-t : goal.offset_bounds-saved-t
offset_bounds-saved-t c = omega (arith, seat-within c.loop-clock.invariant.0 c.loop-clock-test.true (ap says_next c.in-Some.is))

pub bounds-saved-t : goal.bounds-saved-t
bounds-saved-t c = omega (arith, seat-within c.loop-clock.invariant.0 c.loop-clock-test.true (ap says_next c.in-Some.is))

pub let_in-requires : goal.let_in-requires
let_in-requires c = c.loop-clock.invariant.0.seats.laid c.in-Some.t (seat-within c.loop-clock.invariant.0 c.loop-clock-test.true (ap says_next c.in-Some.is))

pub offset_bounds-saved-t-then-t-lined : goal.offset_bounds-saved-t-then-t-lined
offset_bounds-saved-t-then-t-lined c = omega (arith, seat-within c.loop-clock.invariant.0 c.loop-clock-test.true (ap says_next c.in-Some.is))

pub bounds-saved-t-then-t-lined : goal.bounds-saved-t-then-t-lined
bounds-saved-t-then-t-lined c = omega (arith, seat-within c.loop-clock.invariant.0 c.loop-clock-test.true (ap says_next c.in-Some.is))

pub offset_bounds-cells-t : goal.offset_bounds-cells-t
offset_bounds-cells-t c = omega (arith, seat-within c.loop-clock.invariant.0 c.loop-clock-test.true (ap says_next c.in-Some.is))

pub offset_bounds-returns-t-in-loop-clock : goal.offset_bounds-returns-t-in-loop-clock
offset_bounds-returns-t-in-loop-clock c = omega (arith, seat-within c.loop-clock.invariant.0 c.loop-clock-test.true (ap says_next c.in-Some.is))

pub offset_bounds-rows-t-in-loop-clock : goal.offset_bounds-rows-t-in-loop-clock
offset_bounds-rows-t-in-loop-clock c = omega (arith, seat-within c.loop-clock.invariant.0 c.loop-clock-test.true (ap says_next c.in-Some.is))

pub offset_bounds-copies-t-in-loop-clock : goal.offset_bounds-copies-t-in-loop-clock
offset_bounds-copies-t-in-loop-clock c = omega (arith, seat-within c.loop-clock.invariant.0 c.loop-clock-test.true (ap says_next c.in-Some.is))

pub offset_bounds-saved-t-in-loop-clock : goal.offset_bounds-saved-t-in-loop-clock
offset_bounds-saved-t-in-loop-clock c = omega (arith, seat-within c.loop-clock.invariant.0 c.loop-clock-test.true (ap says_next c.in-Some.is))

pub bounds-saved-t-in-loop-clock : goal.bounds-saved-t-in-loop-clock
bounds-saved-t-in-loop-clock c = omega (arith, seat-within c.loop-clock.invariant.0 c.loop-clock-test.true (ap says_next c.in-Some.is))

pub reach_of-requires : goal.reach_of-requires
reach_of-requires c = seat-within c.loop-clock.invariant.0 c.loop-clock-test.true (ap says_next c.in-Some.is)

pub rounds-after-requires : goal.rounds-after-requires
rounds-after-requires c = seat-starts c.loop-clock.invariant.0 c.loop-clock-test.true (ap says_next c.in-Some.is) (opened-there c) c.reach_of.ensures.0 c.reach_of.ensures.1

pub offset_bounds-saved-t-in-loop-clock-2 : goal.offset_bounds-saved-t-in-loop-clock-2
offset_bounds-saved-t-in-loop-clock-2 c = omega (arith, seat-within c.loop-clock.invariant.0 c.loop-clock-test.true (ap says_next c.in-Some.is))

pub bounds-saved-t-in-loop-clock-2 : goal.bounds-saved-t-in-loop-clock-2
bounds-saved-t-in-loop-clock-2 c = omega (arith, seat-within c.loop-clock.invariant.0 c.loop-clock-test.true (ap says_next c.in-Some.is))

pub closed-from-requires : goal.closed-from-requires
closed-from-requires c = (seat-within c.loop-clock.invariant.0 c.loop-clock-test.true (ap says_next c.in-Some.is), (seat-ready c.loop-clock.invariant.0 c.loop-clock-test.true (ap says_next c.in-Some.is), again-answers c.loop-clock.invariant.0 c.loop-clock-test.true (ap says_next c.in-Some.is) (opened-there c.before.before.before.before.before.before.before) c.reach_of.ensures.0 c.rounds-after.ensures))

pub overflow_sub-length : goal.overflow_sub-length
overflow_sub-length c = omega (arith, seat-unspent c.loop-clock.invariant.0 c.loop-clock-test.true (ap says_next c.in-Some.is) (opened-there c.before.before.before.before.before.before.before.before.before.before.before) c.reach_of.ensures.0 c.rounds-after.ensures)

pub turned-clock-requires : goal.turned-clock-requires
turned-clock-requires c = (seat-steps c.loop-clock.invariant.0 c.loop-clock-test.true (ap says_next c.in-Some.is) (opened-there c.before.before.before.before.before.before.before.before.before.before.before) c.reach_of.ensures.0 c.rounds-after.ensures, seat-cycles c.loop-clock.invariant.0 c.loop-clock-test.true (ap says_next c.in-Some.is) (opened-there c.before.before.before.before.before.before.before.before.before.before.before) c.reach_of.ensures.0 c.rounds-after.ensures)

pub loop-clock-smaller : goal.loop-clock-smaller
loop-clock-smaller c = seated-less c.loop-clock.invariant.0 c.loop-clock-test.true (ap says_next c.in-Some.is) (opened-there c.before.before.before.before.before.before.before.before.before.before.before.before.before.before) c.reach_of.ensures.0 c.rounds-after.ensures c.left_in.ensures c.closed-from.ensures c.turned-clock.ensures

pub loop-clock-preserved : goal.loop-clock-preserved
loop-clock-preserved c = (seated-on c.loop-clock.invariant.0 c.loop-clock-test.true (ap says_next c.in-Some.is) (opened-there c.before.before.before.before.before.before.before.before.before.before.before.before.before.before) c.reach_of.ensures.0 c.rounds-after.ensures c.left_in.ensures c.closed-from.ensures c.turned-clock.ensures c.next_ready-next-in-loop-clock.ensures, ((losses-more _ c.in-Some.t c.rounds-after.new.rows (seat-within c.loop-clock.invariant.0 c.loop-clock-test.true (ap says_next c.in-Some.is)) (rows_then c.loop-clock.invariant.0 c.loop-clock-test.true (ap says_next c.in-Some.is) (opened-there c.before.before.before.before.before.before.before.before.before.before.before.before.before.before) c.reach_of.ensures.0 c.rounds-after.ensures c.left_in.ensures c.closed-from.ensures c.turned-clock.ensures) c.args.mem.now c.loop-clock.mem c.rounds-after.new.mem (ap (λ n. n % 2 ^ 32) (opened-there c.before.before.before.before.before.before.before.before.before.before.before.before.before.before).lost₁ ∙ c.loop-clock.invariant.1.0) c.rounds-after.ensures.leaves.loses), c.loop-clock.invariant.1.1))

pub less-requires : goal.less-requires
less-requires c = c.requires.0.1.1

pub put_back-requires : goal.put_back-requires
put_back-requires c = c.loop-clock.invariant.0.seats.laid

pub overflow_sub-result : goal.overflow_sub-result
overflow_sub-result c = omega (arith, c.loop-clock.invariant.0.turning.unspent-within)

pub returns : goal.returns
returns c = (from-first-to-last c.args.quantum c.args.budget c.args.mem.now c.args.tasks.now.kept c.loop-clock.mem (noted-machines c.apart-saved.ensures.0 (attended (get_or c.apart-saved.new.cells 0 []) (get_or c.apart-saved.new.returns 0 []) (get_or c.apart-saved.result 0 no_pointers) (c.apart-saved.ensures.0.laid 0 (omega arith)) c.lined_task-lined.ensures.attends) ∙ c.apart-saved.ensures.1.0) (ap (λ (four : Tasks). ran_tasks_of c.loop-clock.clock.answer (record { 0 = c.args.budget - c.loop-clock.clock.unspent.0 }) c.loop-clock.clock.cycles four) c.put_back.ensures) (c.loop-clock.invariant.0.turning.over c.loop-clock-test.false), (c.less.ensures ∙ (ap (λ n. (c.args.sum.now + (2 ^ 32 - n % 2 ^ 32)) % 2 ^ 32) c.lost_by_all.ensures ∙ sum_less c.args.sum.now (sum_of (losses_in c.loop-clock.rows) % 2 ^ 32) c.args.mem.now c.loop-clock.mem (twice (sum_of (losses_in c.loop-clock.rows)) ∙ c.loop-clock.invariant.1.0))))
