-- The loop is the definition's run: each round is one step of `step_of`, and what ends it is the definition's own.
use Rattle.run_words.specs.Registers.{machine_in}
use Rattle.run_words.specs.Levels.{frames_in, levels_in, note_in}
use Rattle.run_instructions.specs.Arms.{Stood}
use Rattle.run_loop.proofs.round.rounds.Given as goal

abbrev pub invariant-loop-reach : goal.invariant-loop-reach
invariant-loop-reach l =
    Stood l.reach (record { in_turns = l.turns; memory = l.initial.mem; machine = machine_in l.initial.cells l.initial.returns (frames_in l.initial.rows l.initial.copies) (levels_in l.initial.rows l.initial.copies) (note_in l.initial.rows).aside l.initial.regs; budget = l.left; note = note_in l.initial.rows }) l.lines l.mem l.cells l.returns l.rows l.copies l.regs

abbrev pub decreases-loop-reach : goal.decreases-loop-reach
decreases-loop-reach l = l.regs.left.0
