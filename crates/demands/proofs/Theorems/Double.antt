-- What the flag is for: + on the low cells and ADDX on the high cells make the sum of two numbers of 64 bits, whatever codes come between
-- that leave the flag; - and SUBX make the difference.
use Rattle.std.specs.Prelude.{true, ◌≡◌, refl, ◌+◌, ◌-◌, ◌^◌, ◌%◌, leb, ltb}
use Rattle.word.specs.Truth.{bit_of}
use Rattle.word.specs.Dispatch.{two_cells_of}
use Rattle.word.specs.Laws.Meaning.Double.{double-sum-means, double-difference-means}
use Rattle.word.specs.declared.TwoCells.TheVariants.{Plus, Minus, AddExtended, SubtractExtended}
use Rattle.machine.specs.Codes.{entry_at, table}
use Rattle.machine.specs.State.{well_formed}
use Rattle.machine.specs.Fits.{Exist}
use Rattle.machine.specs.Rows.{top, second}
use Rattle.machine.proofs.Laws.Kept.{formed, steady}
use Rattle.demands.specs.History.{World}
use Rattle.demands.specs.Double.{LowThenHigh, on_top, deeper}
use Rattle.demands.proofs.Laws.Double.{left-in-two}

-- The sum modulo 2 ^ 64 is left, and the flag is 1 exactly where the sum has more than 64 bits.
pub double-sum : {a b c d : World} → Exist a.memory a.machine → well_formed a.machine ≡ true → LowThenHigh 0x0E 0x14 a b c d →
    (on_top b d ≡ (deeper a c + on_top a c) % 2 ^ 64) × (d.machine.flag ≡ bit_of (leb (2 ^ 64) (deeper a c + on_top a c)))
unfolding entry_at table two_cells_of
double-sum {a} {b} {c} {d} exist accepted l =
    left-in-two exist (steady a.machine (formed a.machine accepted)) l Plus AddExtended refl refl _ _
    (double-sum-means (second a.machine) (second c.machine) (top a.machine) (top c.machine) a.machine.flag)

-- The difference modulo 2 ^ 64 is left, and the flag is 1 exactly where more is taken off than is there.
pub double-difference : {a b c d : World} → Exist a.memory a.machine → well_formed a.machine ≡ true → LowThenHigh 0x0F 0x15 a b c d →
    (on_top b d ≡ (deeper a c + 2 ^ 64 - on_top a c) % 2 ^ 64) × (d.machine.flag ≡ bit_of (ltb (deeper a c) (on_top a c)))
unfolding entry_at table two_cells_of
double-difference {a} {b} {c} {d} exist accepted l =
    left-in-two exist (steady a.machine (formed a.machine accepted)) l Minus SubtractExtended refl refl _ _
    (double-difference-means (second a.machine) (second c.machine) (top a.machine) (top c.machine) a.machine.flag)
