-- CATCH is the definition's step: a call, and an exception level above it.
use Rattle.std.proofs.Common.{◌+◌, ◌-◌, ◌%◌, ◌^◌, refl, ap, arith}
use Rattle.machine.specs.Refusals.{says}
use Rattle.run_words.specs.Notes.{Note}
use Rattle.run_words.specs.Laws.Answered.{told}
use Rattle.run_words.specs.Laws.Arms.{catch-acts, held-there}
use Rattle.run_words.specs.Laws.Levels.{caught-above}
use Rattle.run_words.specs.Laws.Rooms.{catch-room}
use Rattle.run_words.specs.Laws.Rounds.{ends, goes, halted-less}
use Rattle.run_instructions.specs.Standing.{found_here, stays, holds}
use Rattle.run_instructions.proofs.arms.catch.Goals as goal

pub returns-in_default : goal.returns-in_default
returns-in_default c = (halted-less c.args.regs c.by.ensures (ap says c.in_default.is) c.requires.less, λ reach course lines mem operand stood fetched. stays stood (ends (found_here stood c.requires.less fetched) (catch-acts (found_here stood c.requires.less fetched) refl refl) (told says c.can_catch-checked.ensures c.in_default.is) c.can_catch-checked.ensures c.by.ensures))

pub overflow_sub-to : goal.overflow_sub-to
overflow_sub-to c = omega (arith, catch-room (told says c.can_catch-checked.ensures c.in-Ok.is))

pub bounds-returns-r : goal.bounds-returns-r
bounds-returns-r c = omega (arith, catch-room (told says c.can_catch-checked.ensures c.in-Ok.is))

pub called-requires : goal.called-requires
called-requires c = omega (arith, catch-room (told says c.can_catch-checked.ensures c.in-Ok.is))

pub overflow_sub-p : goal.overflow_sub-p
overflow_sub-p c = omega (arith, catch-room (told says c.can_catch-checked.ensures c.in-Ok.is))

pub caught-requires : goal.caught-requires
caught-requires c = omega (arith, catch-room (told says c.can_catch-checked.ensures c.in-Ok.is))

pub overflow_sub-after : goal.overflow_sub-after
overflow_sub-after c = omega (arith, catch-room (told says c.can_catch-checked.ensures c.in-Ok.is))

pub returns : goal.returns
returns c = (c.counted.ensures.1, λ reach course lines mem operand stood fetched. holds stood (caught-above c.args.regs.e c.args.regs.s (c.args.regs.p - 1) ((c.args.next + 1) % 2 ^ 32) (c.called.ensures stood.laid) (c.caught.ensures (c.called.ensures stood.laid).laid)) refl refl refl (goes (found_here stood c.requires.less fetched) (catch-acts (found_here stood c.requires.less fetched) refl refl) (told says c.can_catch-checked.ensures c.in-Ok.is) (held-there (caught-above c.args.regs.e c.args.regs.s (c.args.regs.p - 1) ((c.args.next + 1) % 2 ^ 32) (c.called.ensures stood.laid) (c.caught.ensures (c.called.ensures stood.laid).laid))) refl (record { lines_same = ap (λ (n : Note). n.aside.lines) (caught-above c.args.regs.e c.args.regs.s (c.args.regs.p - 1) ((c.args.next + 1) % 2 ^ 32) (c.called.ensures stood.laid) (c.caught.ensures (c.called.ensures stood.laid).laid)).note-is; r-rises = omega arith; s-rises = omega arith }) c.price.ensures.0 c.counted.ensures.0))
