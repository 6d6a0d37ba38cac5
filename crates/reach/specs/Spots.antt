-- Where a fetch or a store reaches: by the width that its code names and the place of its address.
use Rattle.std.specs.Prelude.{Result, Ok, Err, ◌≡◌, Bool, true, false, ℕ, ◌+◌, ◌-◌, ◌*◌, ◌%◌, ◌<◌, leb, eqb}
use Rattle.plain.specs.Answer.{Answer, refuses, gives}
use Rattle.plain.specs.Choice.{pick, both}
use Rattle.links.specs.Depths.{locals_count, level_cells}
use Rattle.machine.specs.Reach.{bar_of, is_foreign}
use Rattle.machine.specs.Memory.{size, place_of, view_start, view_end}
use Rattle.machine.specs.Refusals.{number_of}
use Rattle.machine.specs.declared.Reach.{Reach}
use Rattle.machine.specs.declared.refusal.Refusal.{Refusal}
use Rattle.machine.specs.declared.Width.{Width}
use Rattle.machine.specs.declared.Width.TheVariants.{Byte, Word, Long}
use Rattle.machine.specs.declared.Place.{Place}
use Rattle.machine.specs.declared.Place.TheVariants.{Memory, View, Nowhere}
use Rattle.reach.specs.declared.Spot.{Spot}
use Rattle.reach.specs.declared.Spot.TheVariants as spot

-- FETCH.L and STORE.L, FETCH.W and STORE.W, FETCH.B and STORE.B
abbrev pub width_of : ℕ → Width
width_of code =
    pick (eqb code 0x2D) Long (pick (eqb code 0x2E) Long (pick (eqb code 0x2F) Word (pick (eqb code 0x30) Word Byte)))

-- the place of an access that begins in view or past it
abbrev pub view_place : Width → ℕ → Place
view_place w a = pick (leb (a + size w) view_end) (View (a - view_start)) Nowhere

-- 12 before 17; the cells in view are the machine's own
abbrev pub allowed : Reach → Width → Place → Answer Place
allowed reach w (Memory a) = pick (is_foreign (bar_of reach a (size w))) (refuses 17) (gives (Memory a))
allowed reach w (View a) = gives (View a)
allowed reach w Nowhere = refuses 12

unfoldable pub spot_of : Reach → Width → ℕ → Answer Place
spot_of reach w a = allowed reach w (place_of w a)

-- the own part is a place in memory, and a cell is one in view
abbrev pub place_at : Spot → Place
place_at (spot.Memory a) = Memory a
place_at (spot.Own a) = Memory a
place_at (spot.Local k) = View (4 * k)
place_at (spot.Cell k) = View (4 * (locals_count + k))
place_at (spot.View a) = View a

abbrev pub says_reached : Result Spot Refusal → Answer Place
says_reached (Ok spot) = gives (place_at spot)
says_reached (Err why) = refuses (number_of why)

-- an access that lies wholly in the own part
abbrev pub in_own : Reach → ℕ → ℕ → Bool
in_own reach a n = both (leb reach.own a) (leb (a + n) reach.end)

-- an access to the whole of a cell in view
abbrev pub is_whole : Width → ℕ → Bool
is_whole w a = both (eqb (size w) 4) (eqb (a % 4) 0)

-- such accesses, and no others, are told apart
abbrev pub SpotToldApart : Reach → Width → Spot → Type 0
SpotToldApart reach w (spot.Memory a) = in_own reach a (size w) ≡ false
SpotToldApart reach w (spot.Own a) = in_own reach a (size w) ≡ true
SpotToldApart reach w (spot.Local k) = (size w ≡ 4) × (k < locals_count)
SpotToldApart reach w (spot.Cell k) = (size w ≡ 4) × (k < level_cells)
SpotToldApart reach w (spot.View a) = is_whole w a ≡ false

abbrev pub ToldApart : Reach → Width → Result Spot Refusal → Type 0
ToldApart reach w (Ok spot) = SpotToldApart reach w spot
ToldApart reach w (Err why) = Unit {0}
