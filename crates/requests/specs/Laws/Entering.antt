-- The line that enters a machine is decided by its lines, R and S alone.
use Rattle.std.specs.Prelude.{◌≡◌, refl}
use Rattle.machine.specs.Lines.{entering}
use Rattle.machine.specs.declared.Machine.{Machine}
use Rattle.requests.specs.Requests.{entering_with}

pub entering-with : (m : Machine) → entering m ≡ entering_with m.lines m.links.r m.links.s
unfolding entering entering_with
entering-with m = refl
