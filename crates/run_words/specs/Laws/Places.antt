-- An access that is wholly within the shared bytes lies in memory, and nothing bars it; and what is told apart lies where it is told.
use Rattle.std.specs.Prelude.{Result, Ok, Err, ◌≡◌, ℕ, ◌+◌, ◌<◌, ◌≤◌, T, leb}
use Rattle.std.proofs.Math.Path.{subst⁻¹}
use Rattle.std.proofs.Common.{arith, le-leb, ne_eqb, leb→le}
use Rattle.plain.specs.Answer.{gives}
use Rattle.plain.specs.Laws.Choice.{both-parts}
use Rattle.machine.specs.Limits.{memory_length}
use Rattle.machine.specs.Memory.{size, place_of}
use Rattle.machine.proofs.Laws.Bars.{shared-free}
use Rattle.machine.specs.declared.Reach.{Reach}
use Rattle.machine.specs.declared.refusal.Refusal.{Refusal}
use Rattle.machine.specs.declared.Width.{Width}
use Rattle.machine.specs.declared.Width.TheVariants.{Byte, Word, Long}
use Rattle.machine.specs.declared.Place.TheVariants.{Memory}
use Rattle.reach.specs.Spots.{width_of, spot_of, ToldApart}
use Rattle.reach.specs.declared.Spot.{Spot}
use Rattle.reach.specs.declared.Spot.TheVariants as spot
use Rattle.run_words.specs.Accesses.{ReachedWithin}

-- no access has more than four bytes
pub four_bytes : (w : Width) → size w ≤ 4
four_bytes Byte = omega arith
four_bytes Word = omega arith
four_bytes Long = omega arith

-- the codes past those of longs and words are of bytes
pub byte-code : (code : ℕ) → 0x30 < code → 1 ≡ size (width_of code)
byte-code code h =
    rw (ne_eqb code 0x2D (λ e. omega arith), ne_eqb code 0x2E (λ e. omega arith), ne_eqb code 0x2F (λ e. omega arith), ne_eqb code 0x30 (λ e. omega arith))

pub shared-place : (reach : Reach) (w : Width) (a : ℕ) → reach.shared ≤ memory_length → a + 4 ≤ reach.shared → gives (Memory a) ≡ spot_of reach w a
unfolding spot_of place_of
shared-place reach w a limit h =
    let few = four_bytes w in
    let within : a + size w ≤ reach.shared = omega arith in
    let inside : a + size w ≤ memory_length = omega arith in
    rw (le-leb (a + size w) memory_length inside, shared-free reach (size w) a limit within)

-- what is told apart as an access to the own part lies in it, and what is to the whole of a cell is to one of them
pub told-within : (reach : Reach) (w : Width) (r : Result Spot Refusal) → ToldApart reach w r → ReachedWithin reach w r
told-within reach w (Ok (spot.Memory a)) h = tt
told-within reach w (Ok (spot.Own a)) h =
    let t = both-parts (leb reach.own a) (leb (a + size w) reach.end) (subst⁻¹ T h tt) in
    (leb→le reach.own a t.0, leb→le (a + size w) reach.end t.1)
told-within reach w (Ok (spot.Local k)) h = h
told-within reach w (Ok (spot.Cell k)) h = h
told-within reach w (Ok (spot.View a)) h = tt
told-within reach w (Err why) h = tt
