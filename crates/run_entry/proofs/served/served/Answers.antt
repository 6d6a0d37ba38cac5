-- Each stretch of the loop goes on with the run, or ends it; between them the registers are parked.
use mathlib.Core.Path.{◌≡◌, refl, ap, sym, ◌∙◌, subst⁻¹}
use mathlib.Core.Bool.{true}
use native.Mathlib.Omega.{arith}
use Rattle.machine.specs.Run.{acceptable}
use Rattle.machine.specs.State.{Whole}
use Rattle.machine.specs.declared.Machine.{Machine}
use Rattle.run_words.specs.Levels.{note_in, pointers_in, in_rows, parked_in}
use Rattle.run_words.specs.Notes.{Note}
use Rattle.run_words.specs.declared.Registers.{Registers}
use Rattle.run_words.specs.Laws.Serving.{Serving, attended, machine-parked, serving-as, serving-first, serving-parked, serving-last, stretch-starts, stretched, stretched-less, stretched-unmarked, joins}
use borrow.Author.Rules.{rules}
use Rattle.run_entry.proofs.served.served.Goals as goal

pub loop-reach-init : goal.loop-reach-init
loop-reach-init c = serving-parked (c.park.ensures (attended c.args.cells.now c.args.returns.now c.args.start c.requires.laid c.attend.ensures).still-laid) (ap (λ (g : Registers). in_rows c.args.cells.now c.args.returns.now c.park.new.rows c.park.new.copies (pointers_in g)) ((c.park.ensures (attended c.args.cells.now c.args.returns.now c.args.start c.requires.laid c.attend.ensures).still-laid).parked (ap (λ (g : Registers). g.again) c.begun.ensures) ∙ c.begun.ensures) ∙ machine-parked (c.park.ensures (attended c.args.cells.now c.args.returns.now c.args.start c.requires.laid c.attend.ensures).still-laid) c.args.cells.now c.args.returns.now c.args.start) (ap (λ (n : Note). n.lost) (c.park.ensures (attended c.args.cells.now c.args.returns.now c.args.start c.requires.laid c.attend.ensures).still-laid).held.note-is) (ap (λ (g : Registers). g.again) c.begun.ensures) (serving-as c.begun.ensures (serving-first {start = c.args.start} (subst⁻¹ (λ (m : Machine). acceptable c.args.mem.now m c.args.left ≡ true) (attended c.args.cells.now c.args.returns.now c.args.start c.requires.laid c.attend.ensures).same c.requires.accepted) (subst⁻¹ Whole (attended c.args.cells.now c.args.returns.now c.args.start c.requires.laid c.attend.ensures).same c.requires.whole) (attended c.args.cells.now c.args.returns.now c.args.start c.requires.laid c.attend.ensures).still-laid c.requires.bounded c.requires.lined (attended c.args.cells.now c.args.returns.now c.args.start c.requires.laid c.attend.ensures).unheeded))

pub let_in-at-requires : goal.let_in-at-requires
let_in-at-requires c = c.loop-reach.invariant.laid

pub rounds-after-requires : goal.rounds-after-requires
rounds-after-requires c = stretch-starts (serving-as c.parked-regs.ensures c.loop-reach.invariant) (omega (arith, (ap (λ (g : Registers). g.left.0) c.parked-regs.ensures), c.left.ensures c.loop-reach.copies, c.loop-reach-test.true)) c.left_in.ensures c.let_in-at.ensures

pub joined-requires : goal.joined-requires
joined-requires c = joins (serving-as c.parked-regs.ensures c.loop-reach.invariant) (omega (arith, (ap (λ (g : Registers). g.left.0) c.parked-regs.ensures), c.left.ensures c.loop-reach.copies, c.loop-reach-test.true)) c.left_in.ensures c.let_in-at.ensures refl c.rounds-after.ensures

pub loop-reach-smaller : goal.loop-reach-smaller
loop-reach-smaller c = omega (arith, stretched-less (serving-as c.parked-regs.ensures c.loop-reach.invariant) (omega (arith, (ap (λ (g : Registers). g.left.0) c.parked-regs.ensures), c.left.ensures c.loop-reach.copies, c.loop-reach-test.true)) c.left_in.ensures c.let_in-at.ensures refl c.rounds-after.ensures c.joined.ensures, (ap (λ (g : Registers). g.left.0) ((c.park-in-loop-reach.ensures c.rounds-after.ensures.leaves.laid).parked (stretched-unmarked (serving-as c.parked-regs.ensures c.loop-reach.invariant) (omega (arith, (ap (λ (g : Registers). g.left.0) c.parked-regs.ensures), c.left.ensures c.loop-reach.copies, c.loop-reach-test.true)) c.left_in.ensures c.let_in-at.ensures refl c.rounds-after.ensures c.joined.ensures))), (ap (λ (g : Registers). g.left.0) c.parked-regs.ensures))

pub loop-reach-preserved : goal.loop-reach-preserved
loop-reach-preserved c = serving-parked (c.park-in-loop-reach.ensures c.rounds-after.ensures.leaves.laid) refl refl (stretched-unmarked (serving-as c.parked-regs.ensures c.loop-reach.invariant) (omega (arith, (ap (λ (g : Registers). g.left.0) c.parked-regs.ensures), c.left.ensures c.loop-reach.copies, c.loop-reach-test.true)) c.left_in.ensures c.let_in-at.ensures refl c.rounds-after.ensures c.joined.ensures) (stretched (serving-as c.parked-regs.ensures c.loop-reach.invariant) (omega (arith, (ap (λ (g : Registers). g.left.0) c.parked-regs.ensures), c.left.ensures c.loop-reach.copies, c.loop-reach-test.true)) c.left_in.ensures c.let_in-at.ensures refl c.rounds-after.ensures c.joined.ensures)

pub returns : goal.returns
returns c = serving-last ((ap (λ (g : Registers). in_rows c.args.cells.now c.args.returns.now c.park.new.rows c.park.new.copies (pointers_in g)) ((c.park.ensures (attended c.args.cells.now c.args.returns.now c.args.start c.requires.laid c.attend.ensures).still-laid).parked (ap (λ (g : Registers). g.again) c.begun.ensures) ∙ c.begun.ensures) ∙ machine-parked (c.park.ensures (attended c.args.cells.now c.args.returns.now c.args.start c.requires.laid c.attend.ensures).still-laid) c.args.cells.now c.args.returns.now c.args.start) ∙ (attended c.args.cells.now c.args.returns.now c.args.start c.requires.laid c.attend.ensures).same) ((ap (λ (n : Note). n.lost) (c.park.ensures (attended c.args.cells.now c.args.returns.now c.args.start c.requires.laid c.attend.ensures).still-laid).held.note-is) ∙ (attended c.args.cells.now c.args.returns.now c.args.start c.requires.laid c.attend.ensures).lost-same) (serving-as c.parked.ensures c.loop-reach.invariant) (omega (arith, (ap (λ (g : Registers). g.left.0) c.parked.ensures), c.left.ensures c.loop-reach.copies, c.loop-reach-test.false))
