-- The fresh machine with these cells, handed back.
use mathlib.Core.Path.{ap, ◌∙◌}
use Rattle.plain.specs.Zeros.{padded}
use Rattle.machine.specs.State.{fresh_machine, machine_with}
use Rattle.machine.specs.declared.Machine.{Machine}
use Rattle.run_words.specs.Machines.{ran_of}
use Rattle.run.proofs.alone.declined.Goals as goal

pub returns : goal.returns
unfolding fresh_machine machine_with padded
returns c = c.ended.ensures ∙ ap (λ (m : Machine). ran_of 2 (record { 0 = 0 }) (record { 0 = 0 }) (record { cells = c.args.cells; p = c.args.p; links = m.links; counter = m.counter; flag = m.flag; thrown = m.thrown; lines = m.lines })) c.fresh-machine.ensures
