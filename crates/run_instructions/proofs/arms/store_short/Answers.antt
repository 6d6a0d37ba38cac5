-- A store is the definition's step, wherever it reaches.
-- what both stores answer
use Rattle.std.specs.Prelude.{Ok}
use Rattle.std.proofs.Common.{◌+◌, ◌-◌, ◌*◌, get_or, refl, ap, ◌∙◌, arith}
use Rattle.links.specs.Depths.{locals_count}
use Rattle.reach.specs.Spots.{width_of, says_reached}
use Rattle.machine.specs.Refusals.{says}
use Rattle.run_words.specs.Laws.Answered.{told, refused-reach}
use Rattle.run_words.specs.Laws.Rooms.{memory-room, view-room, spot-within}
use Rattle.machine.specs.Lines.{lowest_due}
use Rattle.machine.specs.Memory.{size}
use Rattle.run_words.specs.Levels.{note_in}
use Rattle.run_words.specs.Notes.{Note}
use Rattle.run_words.specs.Laws.Arms.{store-acts, written-there, kept_whole, held-there}
use Rattle.run_words.specs.Laws.Losses.{size_few, stored-loses}
use Rattle.run_words.specs.Laws.Rounds.{ends, goes, halted-less}
use Rattle.run_instructions.specs.Standing.{found_here, stays, holds, reach-room}
use Rattle.run_instructions.proofs.arms.store_short.Goals as goal

pub returns-in_default : goal.returns-in_default
returns-in_default c = (halted-less c.args.regs c.by.ensures (ap says c.in_default.is) c.requires.0.less, λ course lines returns copies operand stood fetched. stays stood (ends (found_here stood c.requires.0.less fetched) (store-acts (found_here stood c.requires.0.less fetched) c.requires.1.0) (told says_reached c.reach-reached.ensures.0 c.in_default.is) c.reach-reached.ensures.0 (c.by.ensures ∙ refused-reach c.reach-reached.result c.args.regs)))

pub overflow_sub-value : goal.overflow_sub-value
overflow_sub-value c = omega (arith, (reach-room c.args.reach (width_of c.args.code) c.args.cells.now (told says_reached c.reach-reached.ensures.0 c.in-Ok.is)), c.requires.0.p-within)

pub overflow_sub-after : goal.overflow_sub-after
overflow_sub-after c = omega (arith, (reach-room c.args.reach (width_of c.args.code) c.args.cells.now (told says_reached c.reach-reached.ensures.0 c.in-Ok.is)), c.requires.0.p-within)

pub store_number-lost-requires : goal.store_number-lost-requires
store_number-lost-requires c = (c.requires.1.0, (omega (arith, memory-room c.args.reach (width_of c.args.code) c.args.cells.now (told says_reached c.reach-reached.ensures.0 (c.in-Ok.is ∙ ap Ok c.in-Memory.is)), c.requires.1.1.0)))

pub write_in_view-requires : goal.write_in_view-requires
write_in_view-requires c = ((omega (arith, c.requires.0.s-within)), ((omega (arith, c.requires.0.e-within)), (view-room c.args.reach (width_of c.args.code) c.args.cells.now (told says_reached c.reach-reached.ensures.0 (c.in-Ok.is ∙ ap Ok c.in-View.is))).1))

pub returns-in-Memory : goal.returns-in-Memory
returns-in-Memory c = (c.counted.ensures.1, λ course lines returns copies operand stood fetched. record { round = (goes (found_here stood c.requires.0.less fetched) (store-acts (found_here stood c.requires.0.less fetched) c.requires.1.0) (told says_reached c.reach-reached.ensures.0 (c.in-Ok.is ∙ ap Ok c.in-Memory.is)) (written-there (found_here stood c.requires.0.less fetched) (width_of c.args.code) c.in-Memory.at c.store_number-lost.ensures.written ∙ held-there (c.lose.ensures copies stood.laid)) refl (record { lines_same = ap (λ (n : Note). n.aside.lines) (c.lose.ensures copies stood.laid).note-is; r-rises = omega arith; s-rises = omega arith }) c.price.ensures.0 c.counted.ensures.0); laid = (c.lose.ensures copies stood.laid).laid; loses = (stored-loses (size (width_of c.args.code)) (get_or c.args.cells.now (c.args.regs.p - 2) 0) course.note.lost course.memory c.args.mem.now c.store_number-lost.new.mem c.in-Memory.at (note_in c.args.rows.now).lost c.store_number-lost.result (size_few (width_of c.args.code)) (omega (arith, memory-room c.args.reach (width_of c.args.code) c.args.cells.now (told says_reached c.reach-reached.ensures.0 (c.in-Ok.is ∙ ap Ok c.in-Memory.is)), c.requires.1.1.0)) c.store_number-lost.ensures stood.loses (ap (λ (n : Note). n.lost) (c.lose.ensures copies stood.laid).note-is)); heeds-same = ap (λ (n : Note). n.heeds) (c.lose.ensures copies stood.laid).note-is ∙ stood.heeds-same; due-same = ap (λ (n : Note). lowest_due n.aside.lines) (c.lose.ensures copies stood.laid).note-is ∙ stood.due-same; unasked = stood.unasked; unheeded = stood.unheeded })

pub returns-in-Own : goal.returns-in-Own
returns-in-Own c = (c.counted-in-Own.ensures.1, λ course lines returns copies operand stood fetched. record { round = (goes (found_here stood c.requires.0.less fetched) (store-acts (found_here stood c.requires.0.less fetched) c.requires.1.0) (told says_reached c.reach-reached.ensures.0 (c.in-Ok.is ∙ ap Ok c.in-Own.is)) (written-there (found_here stood c.requires.0.less fetched) (width_of c.args.code) c.in-Own.at c.store_own-lost.ensures.written ∙ held-there (c.lose-in-Own.ensures copies stood.laid)) refl (record { lines_same = ap (λ (n : Note). n.aside.lines) (c.lose-in-Own.ensures copies stood.laid).note-is; r-rises = omega arith; s-rises = omega arith }) c.price-in-Own.ensures.0 c.counted-in-Own.ensures.0); laid = (c.lose-in-Own.ensures copies stood.laid).laid; loses = (stored-loses (size (width_of c.args.code)) (get_or c.args.cells.now (c.args.regs.p - 2) 0) course.note.lost course.memory c.args.mem.now c.store_own-lost.new.mem c.in-Own.at (note_in c.args.rows.now).lost c.store_own-lost.result (size_few (width_of c.args.code)) (omega (arith, memory-room c.args.reach (width_of c.args.code) c.args.cells.now (told says_reached c.reach-reached.ensures.0 (c.in-Ok.is ∙ ap Ok c.in-Own.is)), c.requires.1.1.0)) c.store_own-lost.ensures stood.loses (ap (λ (n : Note). n.lost) (c.lose-in-Own.ensures copies stood.laid).note-is)); heeds-same = ap (λ (n : Note). n.heeds) (c.lose-in-Own.ensures copies stood.laid).note-is ∙ stood.heeds-same; due-same = ap (λ (n : Note). lowest_due n.aside.lines) (c.lose-in-Own.ensures copies stood.laid).note-is ∙ stood.due-same; unasked = stood.unasked; unheeded = stood.unheeded })

pub returns-in-Local : goal.returns-in-Local
returns-in-Local c = (c.counted-in-Local.ensures.1, λ course lines returns copies operand stood fetched. holds stood (kept_whole (found_here stood c.requires.0.less fetched) (width_of c.args.code) (4 * c.in-Local.k) (get_or c.args.cells.now (c.args.regs.p - 2) 0) (spot-within c.args.reach (width_of c.args.code) c.reach-reached.ensures.1 (c.in-Ok.is ∙ ap Ok c.in-Local.is)).0 (c.set_local.ensures copies c.args.regs.e (omega (arith, c.requires.0.e-within)) stood.laid)) refl refl refl (goes (found_here stood c.requires.0.less fetched) (store-acts (found_here stood c.requires.0.less fetched) c.requires.1.0) (told says_reached c.reach-reached.ensures.0 (c.in-Ok.is ∙ ap Ok c.in-Local.is)) (held-there (kept_whole (found_here stood c.requires.0.less fetched) (width_of c.args.code) (4 * c.in-Local.k) (get_or c.args.cells.now (c.args.regs.p - 2) 0) (spot-within c.args.reach (width_of c.args.code) c.reach-reached.ensures.1 (c.in-Ok.is ∙ ap Ok c.in-Local.is)).0 (c.set_local.ensures copies c.args.regs.e (omega (arith, c.requires.0.e-within)) stood.laid))) refl (record { lines_same = ap (λ (n : Note). n.aside.lines) (kept_whole (found_here stood c.requires.0.less fetched) (width_of c.args.code) (4 * c.in-Local.k) (get_or c.args.cells.now (c.args.regs.p - 2) 0) (spot-within c.args.reach (width_of c.args.code) c.reach-reached.ensures.1 (c.in-Ok.is ∙ ap Ok c.in-Local.is)).0 (c.set_local.ensures copies c.args.regs.e (omega (arith, c.requires.0.e-within)) stood.laid)).note-is; r-rises = omega arith; s-rises = omega arith }) c.price-in-Local.ensures.0 c.counted-in-Local.ensures.0))

pub returns-in-Cell : goal.returns-in-Cell
returns-in-Cell c = (c.counted-in-Cell.ensures.1, λ course lines returns copies operand stood fetched. holds stood (kept_whole (found_here stood c.requires.0.less fetched) (width_of c.args.code) (4 * (locals_count + c.in-Cell.k)) (get_or c.args.cells.now (c.args.regs.p - 2) 0) (spot-within c.args.reach (width_of c.args.code) c.reach-reached.ensures.1 (c.in-Ok.is ∙ ap Ok c.in-Cell.is)).0 (c.set_cell.ensures copies c.args.regs.s (omega (arith, c.requires.0.s-within)) stood.laid)) refl refl refl (goes (found_here stood c.requires.0.less fetched) (store-acts (found_here stood c.requires.0.less fetched) c.requires.1.0) (told says_reached c.reach-reached.ensures.0 (c.in-Ok.is ∙ ap Ok c.in-Cell.is)) (held-there (kept_whole (found_here stood c.requires.0.less fetched) (width_of c.args.code) (4 * (locals_count + c.in-Cell.k)) (get_or c.args.cells.now (c.args.regs.p - 2) 0) (spot-within c.args.reach (width_of c.args.code) c.reach-reached.ensures.1 (c.in-Ok.is ∙ ap Ok c.in-Cell.is)).0 (c.set_cell.ensures copies c.args.regs.s (omega (arith, c.requires.0.s-within)) stood.laid))) refl (record { lines_same = ap (λ (n : Note). n.aside.lines) (kept_whole (found_here stood c.requires.0.less fetched) (width_of c.args.code) (4 * (locals_count + c.in-Cell.k)) (get_or c.args.cells.now (c.args.regs.p - 2) 0) (spot-within c.args.reach (width_of c.args.code) c.reach-reached.ensures.1 (c.in-Ok.is ∙ ap Ok c.in-Cell.is)).0 (c.set_cell.ensures copies c.args.regs.s (omega (arith, c.requires.0.s-within)) stood.laid)).note-is; r-rises = omega arith; s-rises = omega arith }) c.price-in-Cell.ensures.0 c.counted-in-Cell.ensures.0))

pub returns-in-View : goal.returns-in-View
returns-in-View c = (c.counted-in-View.ensures.1, λ course lines returns copies operand stood fetched. holds stood (c.write_in_view.ensures copies stood.laid) refl refl refl (goes (found_here stood c.requires.0.less fetched) (store-acts (found_here stood c.requires.0.less fetched) c.requires.1.0) (told says_reached c.reach-reached.ensures.0 (c.in-Ok.is ∙ ap Ok c.in-View.is)) (held-there (c.write_in_view.ensures copies stood.laid)) refl (record { lines_same = ap (λ (n : Note). n.aside.lines) (c.write_in_view.ensures copies stood.laid).note-is; r-rises = omega arith; s-rises = omega arith }) c.price-in-View.ensures.0 c.counted-in-View.ensures.0))
