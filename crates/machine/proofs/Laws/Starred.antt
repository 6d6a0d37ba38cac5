-- Every starred case comes out as its line says, computed over the definition.
use Rattle.std.specs.Prelude.{T}
use Rattle.machine.specs.Sheet.{all_right, starred}

pub starred-right : T (all_right starred)
unfolding Rattle.plain.specs.Zeros.padded Rattle.machine.specs.State.machine_with Rattle.machine.specs.State.well_formed
    Rattle.links.specs.Linked.linked Rattle.links.specs.Fresh.fresh_links Rattle.links.specs.Fresh.fresh_frame Rattle.links.specs.Fresh.fresh_level Rattle.links.specs.Actions.no_locals
    Rattle.machine.specs.Lines.let_in Rattle.machine.specs.Lines.entering Rattle.machine.specs.Lines.lowest_due
    Rattle.machine.specs.Run.run_of Rattle.machine.specs.Run.run_from Rattle.machine.specs.Run.acceptable
    Rattle.machine.specs.Step.step_of Rattle.machine.specs.Step.carried Rattle.machine.specs.Fetch.instruction_at Rattle.machine.specs.Reach.bar_of
    Rattle.machine.specs.Rows.row_of Rattle.machine.specs.Codes.entry_at Rattle.machine.specs.Codes.table Rattle.machine.specs.Memory.place_of
    Rattle.word.specs.Dispatch.one_cell_of Rattle.word.specs.Dispatch.two_cells_of
starred-right = tt
