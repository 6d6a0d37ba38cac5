-- A fetch is the definition's step, wherever it reaches.
use Rattle.machine.specs.Codes.{cycles_of}
use Rattle.run_words.specs.Laws.Arms.{fetch-acts, fetched_as, fetched-whole, long-fetch}
use Rattle.run_words.specs.Laws.Rounds.{ends, goes, halted-less}
use Rattle.run_instructions.specs.Standing.{found_here, stays}
use Rattle.std.specs.Prelude.{Ok}
use Rattle.std.proofs.Common.{◌+◌, ◌*◌, sym, refl, ap, ◌∙◌, arith}
use Rattle.links.specs.Depths.{locals_count}
use Rattle.reach.specs.Spots.{width_of, says_reached}
use Rattle.machine.specs.Refusals.{says}
use Rattle.run_words.specs.Laws.Answered.{told, refused-reach}
use Rattle.run_words.specs.Laws.Rooms.{memory-room, view-room, spot-within}
use Rattle.run_instructions.proofs.arms.load.Goals as goal

pub returns-in_default : goal.returns-in_default
returns-in_default c = (halted-less c.args.regs c.by.ensures (ap says c.in_default.is) c.requires.0.less, λ course lines returns copies operand stood fetched. stays stood (ends (found_here stood c.requires.0.less fetched) (fetch-acts (found_here stood c.requires.0.less fetched) c.requires.1.0) (told says_reached c.reach-reached.ensures.0 c.in_default.is) c.reach-reached.ensures.0 (c.by.ensures ∙ refused-reach c.reach-reached.result c.args.regs)))

pub read_number-requires : goal.read_number-requires
read_number-requires c = (omega (arith, memory-room c.args.reach (width_of c.args.code) c.args.cells.now (told says_reached c.reach-reached.ensures.0 (c.in-Ok.is ∙ ap Ok c.in-Memory.is)), c.requires.1.1.0))

pub overflow_sub-cells : goal.overflow_sub-cells
overflow_sub-cells c = omega (arith, memory-room c.args.reach (width_of c.args.code) c.args.cells.now (told says_reached c.reach-reached.ensures.0 (c.in-Ok.is ∙ ap Ok c.in-Memory.is)), c.requires.0.p-within)

pub overflow_sub-cells-in-Own : goal.overflow_sub-cells-in-Own
overflow_sub-cells-in-Own c = omega (arith, memory-room c.args.reach (width_of c.args.code) c.args.cells.now (told says_reached c.reach-reached.ensures.0 (c.in-Ok.is ∙ ap Ok c.in-Own.is)), c.requires.0.p-within)

pub overflow_sub-cells-in-Local : goal.overflow_sub-cells-in-Local
overflow_sub-cells-in-Local c = omega (arith, (view-room c.args.reach (width_of c.args.code) c.args.cells.now (told says_reached c.reach-reached.ensures.0 (c.in-Ok.is ∙ ap Ok c.in-Local.is))), c.requires.0.p-within)

pub overflow_sub-cells-in-Cell : goal.overflow_sub-cells-in-Cell
overflow_sub-cells-in-Cell c = omega (arith, (view-room c.args.reach (width_of c.args.code) c.args.cells.now (told says_reached c.reach-reached.ensures.0 (c.in-Ok.is ∙ ap Ok c.in-Cell.is))), c.requires.0.p-within)

pub read_in_view-requires : goal.read_in_view-requires
read_in_view-requires c = ((omega (arith, c.requires.0.s-within)), ((omega (arith, c.requires.0.e-within)), (view-room c.args.reach (width_of c.args.code) c.args.cells.now (told says_reached c.reach-reached.ensures.0 (c.in-Ok.is ∙ ap Ok c.in-View.is))).1))

pub overflow_sub-cells-in-View : goal.overflow_sub-cells-in-View
overflow_sub-cells-in-View c = omega (arith, (view-room c.args.reach (width_of c.args.code) c.args.cells.now (told says_reached c.reach-reached.ensures.0 (c.in-Ok.is ∙ ap Ok c.in-View.is))), c.requires.0.p-within)

pub returns-in-Memory : goal.returns-in-Memory
returns-in-Memory c = (c.counted.ensures.1, λ course lines returns copies operand stood fetched. stays stood (goes (found_here stood c.requires.0.less fetched) (fetch-acts (found_here stood c.requires.0.less fetched) c.requires.1.0) (told says_reached c.reach-reached.ensures.0 (c.in-Ok.is ∙ ap Ok c.in-Memory.is)) (ap (fetched_as (found_here stood c.requires.0.less fetched)) (sym c.read_number.ensures)) refl (record { lines_same = refl; r-rises = omega arith; s-rises = omega arith }) c.price.ensures.0 c.counted.ensures.0))

pub returns-in-Own : goal.returns-in-Own
returns-in-Own c = (c.counted-in-Own.ensures.1, λ course lines returns copies operand stood fetched. stays stood (goes (found_here stood c.requires.0.less fetched) (fetch-acts (found_here stood c.requires.0.less fetched) c.requires.1.0) (told says_reached c.reach-reached.ensures.0 (c.in-Ok.is ∙ ap Ok c.in-Own.is)) (ap (fetched_as (found_here stood c.requires.0.less fetched)) (sym c.read_number-in-Own.ensures)) refl (record { lines_same = refl; r-rises = omega arith; s-rises = omega arith }) c.price-in-Own.ensures.0 c.counted-in-Own.ensures.0))

pub returns-in-Local : goal.returns-in-Local
returns-in-Local c = (c.counted-in-Local.ensures.1, λ course lines returns copies operand stood fetched. stays stood (goes (found_here stood c.requires.0.less fetched) (fetch-acts (found_here stood c.requires.0.less fetched) c.requires.1.0) (told says_reached c.reach-reached.ensures.0 (c.in-Ok.is ∙ ap Ok c.in-Local.is)) (fetched-whole (found_here stood c.requires.0.less fetched) (width_of c.args.code) (4 * c.in-Local.k) (spot-within c.args.reach (width_of c.args.code) c.reach-reached.ensures.1 (c.in-Ok.is ∙ ap Ok c.in-Local.is)).0 (c.local.ensures copies c.args.regs.e (omega (arith, c.requires.0.e-within)) stood.laid)) refl (record { lines_same = refl; r-rises = omega arith; s-rises = omega arith }) (c.price-in-Local.ensures.0 ∙ ap cycles_of (sym (long-fetch c.args.code c.requires.1.0 (spot-within c.args.reach (width_of c.args.code) c.reach-reached.ensures.1 (c.in-Ok.is ∙ ap Ok c.in-Local.is)).0))) c.counted-in-Local.ensures.0))

pub returns-in-Cell : goal.returns-in-Cell
returns-in-Cell c = (c.counted-in-Cell.ensures.1, λ course lines returns copies operand stood fetched. stays stood (goes (found_here stood c.requires.0.less fetched) (fetch-acts (found_here stood c.requires.0.less fetched) c.requires.1.0) (told says_reached c.reach-reached.ensures.0 (c.in-Ok.is ∙ ap Ok c.in-Cell.is)) (fetched-whole (found_here stood c.requires.0.less fetched) (width_of c.args.code) (4 * (locals_count + c.in-Cell.k)) (spot-within c.args.reach (width_of c.args.code) c.reach-reached.ensures.1 (c.in-Ok.is ∙ ap Ok c.in-Cell.is)).0 (c.cell.ensures copies c.args.regs.s (omega (arith, c.requires.0.s-within)) stood.laid)) refl (record { lines_same = refl; r-rises = omega arith; s-rises = omega arith }) (c.price-in-Cell.ensures.0 ∙ ap cycles_of (sym (long-fetch c.args.code c.requires.1.0 (spot-within c.args.reach (width_of c.args.code) c.reach-reached.ensures.1 (c.in-Ok.is ∙ ap Ok c.in-Cell.is)).0))) c.counted-in-Cell.ensures.0))

pub returns-in-View : goal.returns-in-View
returns-in-View c = (c.counted-in-View.ensures.1, λ course lines returns copies operand stood fetched. stays stood (goes (found_here stood c.requires.0.less fetched) (fetch-acts (found_here stood c.requires.0.less fetched) c.requires.1.0) (told says_reached c.reach-reached.ensures.0 (c.in-Ok.is ∙ ap Ok c.in-View.is)) (ap (fetched_as (found_here stood c.requires.0.less fetched)) (sym (c.read_in_view.ensures copies stood.laid))) refl (record { lines_same = refl; r-rises = omega arith; s-rises = omega arith }) c.price-in-View.ensures.0 c.counted-in-View.ensures.0))
