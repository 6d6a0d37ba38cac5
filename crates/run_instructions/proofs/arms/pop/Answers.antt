-- R> is the definition's step, and drops the levels that it empties.
use Rattle.std.proofs.Common.{◌-◌, refl, ap, ◌∙◌, arith}
use Rattle.machine.specs.Refusals.{says}
use Rattle.run_words.specs.Verdicts.{s_after_pop, e_after_pop}
use Rattle.run_words.specs.Laws.Answered.{told}
use Rattle.run_words.specs.Laws.Arms.{pop-acts}
use Rattle.run_words.specs.Laws.Rooms.{read-room}
use Rattle.run_words.specs.Laws.Rounds.{ends, goes_in, halted-less}
use Rattle.run_instructions.specs.Standing.{found_here, stays, unheeded-here}
use Rattle.run_instructions.proofs.arms.pop.Goals as goal

pub returns-in_default : goal.returns-in_default
returns-in_default c = (halted-less c.args.regs c.by.ensures (ap says c.in_default.is) c.requires.less, λ reach course mem operand stood fetched. stays stood (ends (found_here stood c.requires.less fetched) (pop-acts (found_here stood c.requires.less fetched) refl refl refl) (told says c.can_read-checked.ensures c.in_default.is) c.can_read-checked.ensures c.by.ensures))

pub overflow_sub-r : goal.overflow_sub-r
overflow_sub-r c = omega (arith, read-room (told says c.can_read-checked.ensures c.in-Ok.is))

pub overflow_sub-cells : goal.overflow_sub-cells
overflow_sub-cells c = omega (arith, read-room (told says c.can_read-checked.ensures c.in-Ok.is))

pub bounds-cells-p : goal.bounds-cells-p
bounds-cells-p c = omega (arith, read-room (told says c.can_read-checked.ensures c.in-Ok.is))

pub overflow_sub-after : goal.overflow_sub-after
overflow_sub-after c = omega (arith, read-room (told says c.can_read-checked.ensures c.in-Ok.is))

pub returns : goal.returns
returns c = (omega (arith, c.counted-after.ensures.1, c.parted.ensures.1), λ reach course mem operand stood fetched. stays stood (goes_in (found_here stood c.requires.less fetched) (pop-acts (found_here stood c.requires.less fetched) refl (c.s_after_pop-lower.ensures ∙ ap (s_after_pop (c.args.regs.r - 1) c.args.regs.s) (c.copy_of_r.ensures c.args.rows.now)) (c.e_after_pop.ensures ∙ ap (e_after_pop c.s_after_pop-lower.result c.args.regs.s c.args.regs.e) (c.copy_of_s.ensures c.args.rows.now))) (told says c.can_read-checked.ensures c.in-Ok.is) refl refl c.price.ensures.0 c.counted-after.ensures.0 stood.heeds-same stood.unasked c.held.ensures c.parted.ensures.0 (unheeded-here stood c.args.rows.now refl refl)))
