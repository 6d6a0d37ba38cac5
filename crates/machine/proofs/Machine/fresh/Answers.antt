-- Every part that the fresh machine is made of is zero: its cells by the repeat, its links by their own promise.
use Rattle.std.proofs.Common.{ap, replicate}
use Rattle.links.specs.Depths.{cells_depth}
use Rattle.links.specs.declared.Links.{Links}
use Rattle.plain.specs.Zeros.{padded}
use Rattle.machine.specs.State.{fresh_machine, machine_with, no_throw}
use Rattle.machine.specs.Lines.{no_lines}
use Rattle.machine.specs.declared.Machine.{Machine}
use Rattle.machine.proofs.Machine.fresh.Goals as goal

abbrev around : Links → Machine
around links = record { cells = replicate cells_depth 0; p = 0; links = links; counter = 0; flag = 0; thrown = no_throw; lines = no_lines }

pub returns : goal.returns
unfolding fresh_machine machine_with padded
returns c = ap around c.fresh-links.ensures
