-- THROW of 0 takes its cell; THROW of a code goes to the top exception level, and is noted.
use Rattle.std.specs.Prelude.{Ok}
use Rattle.std.proofs.Common.{refl, ap, ◌∙◌, arith}
use Rattle.machine.specs.Lines.{lowest_due}
use Rattle.machine.specs.Refusals.{says}
use Rattle.run_words.specs.Notes.{Note}
use Rattle.run_words.specs.Laws.Answered.{told}
use Rattle.run_words.specs.Laws.Arms.{throw-acts, thrown-there, held-there}
use Rattle.run_words.specs.Laws.Rooms.{zero_room, code-room}
use Rattle.run_words.specs.Laws.Rounds.{ends, goes, goes_in, halted-less}
use Rattle.run_instructions.specs.Standing.{found_here, stays, holds, unheeded-here}
use Rattle.run_instructions.proofs.arms.throw.Goals as goal

pub returns-in_default : goal.returns-in_default
returns-in_default c = (halted-less c.args.regs c.by.ensures (ap says c.in_default.is) c.requires.0.less, λ reach course mem returns operand stood fetched. stays stood (ends (found_here stood c.requires.0.less fetched) (throw-acts (found_here stood c.requires.0.less fetched) refl) (told says c.can_throw-thrown.ensures c.in_default.is) c.can_throw-thrown.ensures c.by.ensures))

pub overflow_sub-after : goal.overflow_sub-after
overflow_sub-after c = omega (arith, zero_room c.args.cells.now c.args.regs.e (told says c.can_throw-thrown.ensures (c.in-Ok.is ∙ ap Ok c.in-None.is)))

pub offset_bounds-cells-at : goal.offset_bounds-cells-at
offset_bounds-cells-at c = omega (arith, (c.requires.1 (code-room c.args.cells.now c.args.regs.p (told says c.can_throw-thrown.ensures (c.in-Ok.is ∙ ap Ok c.in-Some.is)))), c.copy_of_p-at.ensures c.args.rows.now, c.requires.0.s-within, (c.copy_of_s-kept.ensures c.args.rows.now))

pub bounds-cells-at : goal.bounds-cells-at
bounds-cells-at c = omega (arith, (c.requires.1 (code-room c.args.cells.now c.args.regs.p (told says c.can_throw-thrown.ensures (c.in-Ok.is ∙ ap Ok c.in-Some.is)))), c.copy_of_p-at.ensures c.args.rows.now, c.requires.0.s-within, (c.copy_of_s-kept.ensures c.args.rows.now))

pub overflow_add-after : goal.overflow_add-after
overflow_add-after c = omega (arith, (c.requires.1 (code-room c.args.cells.now c.args.regs.p (told says c.can_throw-thrown.ensures (c.in-Ok.is ∙ ap Ok c.in-Some.is)))), c.copy_of_p-at.ensures c.args.rows.now, c.requires.0.s-within, (c.copy_of_s-kept.ensures c.args.rows.now))

pub overflow_add-kept : goal.overflow_add-kept
overflow_add-kept c = omega (arith, (c.requires.1 (code-room c.args.cells.now c.args.regs.p (told says c.can_throw-thrown.ensures (c.in-Ok.is ∙ ap Ok c.in-Some.is)))), c.copy_of_p-at.ensures c.args.rows.now, c.requires.0.s-within, (c.copy_of_s-kept.ensures c.args.rows.now))

pub copy_of_r-requires : goal.copy_of_r-requires
copy_of_r-requires c = omega (arith, c.requires.0.s-within, (c.requires.1 (code-room c.args.cells.now c.args.regs.p (told says c.can_throw-thrown.ensures (c.in-Ok.is ∙ ap Ok c.in-Some.is)))), (c.copy_of_s-kept.ensures c.args.rows.now))

pub overflow_sub-after-in-Some : goal.overflow_sub-after-in-Some
overflow_sub-after-in-Some c = omega (arith, (code-room c.args.cells.now c.args.regs.p (told says c.can_throw-thrown.ensures (c.in-Ok.is ∙ ap Ok c.in-Some.is))))

pub returns-in-None : goal.returns-in-None
returns-in-None c = (c.counted.ensures.1, λ reach course mem returns operand stood fetched. stays stood (goes (found_here stood c.requires.0.less fetched) (throw-acts (found_here stood c.requires.0.less fetched) refl) (told says c.can_throw-thrown.ensures (c.in-Ok.is ∙ ap Ok c.in-None.is)) refl refl (record { lines_same = refl; r-rises = omega arith; s-rises = omega arith }) refl c.counted.ensures.0))

pub returns-in-Some : goal.returns-in-Some
returns-in-Some c = (omega (arith, c.counted-after.ensures.1, c.parted.ensures.1), λ reach course mem returns operand stood fetched. holds stood (c.note.ensures c.args.copies.now stood.laid) refl refl refl (goes_in (found_here stood c.requires.0.less fetched) (throw-acts (found_here stood c.requires.0.less fetched) refl) (told says c.can_throw-thrown.ensures (c.in-Ok.is ∙ ap Ok c.in-Some.is)) (thrown-there (found_here stood c.requires.0.less fetched) c.in-Some.n (c.copy_of_p-at.ensures c.args.rows.now) (c.copy_of_s-kept.ensures c.args.rows.now) (c.copy_of_r.ensures c.args.rows.now) (c.throw_address-to.ensures c.args.copies.now) ∙ held-there (c.note.ensures c.args.copies.now stood.laid)) refl c.price.ensures.0 c.counted-after.ensures.0 (ap (λ (n : Note). n.heeds) (c.note.ensures c.args.copies.now stood.laid).note-is ∙ stood.heeds-same) stood.unasked c.held.ensures c.parted.ensures.0 (unheeded-here stood c.note.new.rows (ap (λ (n : Note). n.heeds) (c.note.ensures c.args.copies.now stood.laid).note-is) (ap (λ (n : Note). lowest_due n.aside.lines) (c.note.ensures c.args.copies.now stood.laid).note-is))))
