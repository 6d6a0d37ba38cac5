-- Each stretch of the loop goes on with the run, or ends it; between them the registers are parked.
use mathlib.Core.Path.{◌≡◌, refl, ap, sym, ◌∙◌, subst⁻¹}
use mathlib.Core.Bool.{true}
use native.Mathlib.Omega.{arith}
use Rattle.machine.specs.Run.{acceptable}
use Rattle.machine.specs.State.{Whole}
use Rattle.machine.specs.declared.Machine.{Machine}
use Rattle.run_words.specs.Levels.{note_in, pointers_in, in_rows, parked_in}
use Rattle.run_words.specs.Notes.{Note}
use Rattle.run_words.specs.declared.Registers.{Registers}
use Rattle.run_words.specs.Laws.Serving.{Serving, attended, machine-parked, serving-as, serving-first, serving-parked, serving-last, stretch-starts, stretched, stretched-less, stretched-unmarked, joins}
use borrow.Author.Rules.{rules}
use Rattle.run_entry.proofs.served.served.Given as goal

abbrev pub invariant-loop-reach : goal.invariant-loop-reach
invariant-loop-reach l =
    Serving l.reach l.initial.mem (in_rows l.initial.cells l.initial.returns l.initial.rows l.initial.copies (pointers_in (parked_in l.initial.rows l.initial.copies))) l.left (note_in l.initial.rows).lost l.mem l.cells l.returns l.rows l.copies (parked_in l.rows l.copies)

abbrev pub decreases-loop-reach : goal.decreases-loop-reach
decreases-loop-reach l = (parked_in l.rows l.copies).left.0
