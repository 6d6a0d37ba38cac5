-- A good file's sections lie inside it; what is placed is the image that they spell.
use Rattle.std.proofs.Common.{◌≡◌, ◌+◌, ◌-◌, take, drop, arith}
use Rattle.image.specs.Judging.{values_in}
use Rattle.image.specs.declared.Section.TheVariants.{Memory}
use Rattle.image.proofs.Answers.{memory-inside, memory-placed, machine-placed}
use Rattle.image.proofs.Placing.{bytes_between}
use Rattle.image.proofs.place.image.Goals as goal

pub returns : goal.returns
returns c =
    let file = c.args.file.now in
    let span = c.args.spans.memory in
    let inside = memory-inside file c.args.spans c.requires.0 in
    let bytes : take (span.from + span.count - span.from) (drop span.from file) ≡ values_in file Memory span = bytes_between file span.from span.count (omega arith) in (
      memory-placed file c.args.spans c.args.memory.now _ c.requires.1 (rw bytes at c.memory_bytes.ensures),
      machine-placed file c.args.spans c.fresh-machine.result _ _ _ c.fresh-machine.ensures
          c.cells-placed.ensures c.budget_in-budget.ensures (rw bytes at c.added_up-sum.ensures),
    )
