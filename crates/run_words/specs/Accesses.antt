-- Where a fetch or a store reaches, by the address on top of the parameter cells.
use Rattle.std.specs.Prelude.{Result, Ok, Err, ◌≡◌, List, ℕ, ◌+◌, ◌-◌, ◌<◌, ◌≤◌, ltb, get_or}
use Rattle.plain.specs.Answer.{Answer, refuses}
use Rattle.plain.specs.Choice.{pick}
use Rattle.links.specs.Depths.{locals_count, level_cells}
use Rattle.machine.specs.declared.Reach.{Reach}
use Rattle.machine.specs.declared.refusal.Refusal.{Refusal}
use Rattle.machine.specs.declared.Width.{Width}
use Rattle.machine.specs.declared.Place.{Place}
use Rattle.machine.specs.Memory.{size}
use Rattle.reach.specs.Spots.{spot_of}
use Rattle.reach.specs.declared.Spot.{Spot}
use Rattle.reach.specs.declared.Spot.TheVariants as spot

unfoldable pub reach_of : Reach → ℕ → Width → List ℕ → ℕ → Answer Place
reach_of reach takes w cells p = pick (ltb p takes) (refuses 5) (spot_of reach w (get_or cells (p - 1) 0))

-- an access that is told apart as one to the own part lies wholly in it, and one to the whole of a cell is to one of them
abbrev pub SpotWithin : Reach → Width → Spot → Type 0
SpotWithin reach w (spot.Memory a) = Unit {0}
SpotWithin reach w (spot.Own a) = (reach.own ≤ a) × (a + size w ≤ reach.end)
SpotWithin reach w (spot.Local k) = (size w ≡ 4) × (k < locals_count)
SpotWithin reach w (spot.Cell k) = (size w ≡ 4) × (k < level_cells)
SpotWithin reach w (spot.View a) = Unit {0}

abbrev pub ReachedWithin : Reach → Width → Result Spot Refusal → Type 0
ReachedWithin reach w (Ok spot) = SpotWithin reach w spot
ReachedWithin reach w (Err why) = Unit {0}
