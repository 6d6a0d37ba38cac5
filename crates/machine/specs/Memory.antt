-- An access lies in memory, in view or nowhere: document 01, with request P5 for the cells.
use Rattle.std.specs.Prelude.{ℕ, ◌+◌, ◌-◌, leb}
use Rattle.plain.specs.Choice.{pick, both}
use Rattle.machine.specs.Limits.{memory_length}
use Rattle.machine.specs.declared.Width.{Width}
use Rattle.machine.specs.declared.Width.TheVariants.{Byte, Word, Long}
use Rattle.machine.specs.declared.Place.{Place}
use Rattle.machine.specs.declared.Place.TheVariants.{Memory, View, Nowhere}

-- how many bytes an access touches
abbrev pub size : Width → ℕ
size Byte = 1
size Word = 2
size Long = 4

-- the bytes in view stand from the first address to before the second: those of the locals of level S, from 10040 on those of the
-- cells of level E
abbrev pub view_start : ℕ
view_start = 0x10000

abbrev pub view_end : ℕ
view_end = 0x10060

-- wholly inside memory; wholly in view, from its first byte on; or nowhere
unfoldable pub place_of : Width → ℕ → Place
place_of w a =
    pick (leb (a + size w) memory_length)
    (Memory a)
    (pick (both (leb view_start a) (leb (a + size w) view_end)) (View (a - view_start)) Nowhere)
