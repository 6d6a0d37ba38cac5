-- An access: in memory and in reach, in memory and in another's part, in view, or nowhere.
use mathlib.Core.Path.{◌≡◌, refl, ap, sym, ◌∙◌, subst}
use mathlib.Core.Bool.{Bool, true, false}
use Prim.Native.Nat.{ℕ, zero, suc, ◌+◌, ◌-◌, ◌≤◌, ◌<◌}
use native.Mathlib.Omega.{arith}
use borrow.Author.Tests.{le-leb, lt-leb, lt-ltb}
use lib.Dec.{T, ltb, leb, leb→le}
use Rattle.plain.specs.Answer.{Answer, refuses, gives}
use Rattle.plain.specs.Choice.{pick, both}
use Rattle.plain.specs.Laws.Choice.{both-parts}
use Rattle.machine.specs.Limits.{memory_length}
use Rattle.machine.specs.Reach.{Bar, none, alone, bar_of, is_foreign}
use Rattle.machine.specs.Memory.{size, place_of, view_start, view_end}
use Rattle.machine.specs.declared.Reach.{Reach}
use Rattle.machine.specs.declared.Width.{Width}
use Rattle.machine.specs.declared.Place.{Place}
use Rattle.machine.specs.declared.Place.TheVariants.{Memory, View, Nowhere}
use Rattle.reach.specs.Spots.{view_place, allowed, spot_of, in_own}

-- an access that begins below the cells
abbrev pub in_memory : Width → ℕ → Place
in_memory w a = pick (leb (a + size w) memory_length) (Memory a) Nowhere

module _ (reach : Reach) (w : Width) (a : ℕ) {bytes : ℕ} (es : bytes ≡ size w) where
  pub outside-memory : memory_length < a + bytes → refuses 12 ≡ allowed reach w (in_memory w a)
  outside-memory h = let past : memory_length < a + size w = omega arith in rw (lt-leb (a + size w) memory_length past)

  inside : a + bytes ≤ memory_length → in_memory w a ≡ Memory a
  inside h = let within : a + size w ≤ memory_length = omega arith in rw (le-leb (a + size w) memory_length within)

  module _ {bar : Bar} (eb : bar ≡ bar_of reach a bytes) (within : a + bytes ≤ memory_length) where
    pub others : true ≡ is_foreign bar → refuses 17 ≡ allowed reach w (in_memory w a)
    others h = rw (inside within, sym es, sym eb, sym h)

    pub allowed-here : false ≡ is_foreign bar → gives (Memory a) ≡ allowed reach w (in_memory w a)
    allowed-here h = rw (inside within, sym es, sym eb, sym h)

-- below the cells an access is in memory or nowhere
pub below-cells : (reach : Reach) (w : Width) (a : ℕ) {said : Answer Place} → a < view_start → said ≡ allowed reach w (in_memory w a) → said ≡ spot_of reach w a
unfolding spot_of place_of
below-cells reach w a h e = rw (lt-leb view_start a h) e

-- from there on it is in view or nowhere, and nobody else's
pub past_memory : (reach : Reach) (w : Width) (a : ℕ) {said : Answer Place} → view_start ≤ a → said ≡ allowed alone w (view_place w a) → said ≡ spot_of reach w a
unfolding spot_of place_of
past_memory reach w a above e =
    let past : memory_length < a + size w = omega arith in
    rw (lt-leb (a + size w) memory_length past, le-leb view_start a above) (e ∙ go (leb (a + size w) view_end))
  where
    go : (x : Bool) → allowed alone w (pick x (View (a - view_start)) Nowhere) ≡ allowed reach w (pick x (View (a - view_start)) Nowhere)
    go true = refl
    go false = refl

-- what lies in the own part may be touched
module _ (reach : Reach) where
  own-free : (n a : ℕ) → a + n ≤ memory_length → reach.own ≤ a → a + n ≤ reach.end → bar_of reach a n ≡ none
  unfolding bar_of
  own-free zero a limit low high = refl
  own-free (suc n) a limit low high =
      rw (lt-leb memory_length a (omega arith), le-leb reach.own a low, lt-ltb a reach.end (omega arith), either (ltb a reach.shared))
      (own-free n (suc a) (omega arith) (omega arith) (omega arith))
    where
      either : (b : Bool) → pick b true true ≡ true
      either true = refl
      either false = refl

  module _ (w : Width) (a : ℕ) {bytes : ℕ} (es : bytes ≡ size w) {b : Bool} (eb : b ≡ both (leb reach.own a) (leb (a + bytes) reach.end)) where
    -- an access is told apart by the test for it
    pub own-told : {verdict : Bool} → b ≡ verdict → in_own reach a (size w) ≡ verdict
    own-told v = ap (λ (n : ℕ). both (leb reach.own a) (leb (a + n) reach.end)) (sym es) ∙ (sym eb ∙ v)

    pub own-allowed : a + bytes ≤ memory_length → b ≡ true → gives (Memory a) ≡ allowed reach w (in_memory w a)
    own-allowed within v =
        let t = both-parts (leb reach.own a) (leb (a + bytes) reach.end) (subst T (sym (sym eb ∙ v)) tt) in
        allowed-here reach w a es refl within
        (ap is_foreign (sym (own-free bytes a within (leb→le reach.own a t.0) (leb→le (a + bytes) reach.end t.1))))
