-- A CATCH that nothing refuses is carried out, said in plain numbers: so demand 3 is about something.
use Rattle.std.specs.Prelude.{◌≡◌, true, ◌<◌, ◌≤◌}
use Rattle.links.specs.Depths.{cells_depth, returns_depth, subroutines_depth, exceptions_depth}
use Rattle.machine.specs.Limits.{memory_length}
use Rattle.machine.specs.Reach.{may_touch}
use Rattle.machine.specs.Step.{done, put, row_at, step_of}
use Rattle.machine.specs.declared.Reach.{Reach}
use Rattle.demands.specs.History.{World, code_at}
use Rattle.demands.proofs.Laws.Carried.{catch-goes}

-- its byte inside memory and in reach, an address to take and room on the three stacks: it takes 2 cycles. Alone all of memory is in reach
pub catch-carried : (reach : Reach) (w : World) → code_at w ≡ 0x0B → w.machine.counter < memory_length → may_touch reach w.machine.counter ≡ true →
    1 ≤ w.machine.p → w.machine.p ≤ cells_depth →
    w.machine.links.r < returns_depth → w.machine.links.s < subroutines_depth → w.machine.links.e < exceptions_depth →
    step_of reach w.memory w.machine ≡ done w.memory (put (row_at reach w.memory w.machine) w.machine) 2
catch-carried reach w is below may some p r s e = catch-goes reach w.memory w.machine is below may some p r s e
