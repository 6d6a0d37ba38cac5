-- What an answer of a check that gives something tells of the pointers.
use Rattle.std.specs.Prelude.{Option, Some, None, Result, Ok, ◌≡◌, refl, Bool, true, false, List, ℕ, ◌+◌, ◌-◌, ◌*◌, ◌≤◌, ◌<◌, ltb, leb, eqb}
use Rattle.std.proofs.Common.{subst, arith, ltb-false, leb-true, leb-false}
use Rattle.std.proofs.lemmas.Bool.{eqb-false}
use Rattle.std.proofs.Math.ListN.{get_or}
use Rattle.plain.specs.Answer.{Answer, refuses, gives}
use Rattle.plain.specs.Choice.{pick, both}
use Rattle.links.specs.Depths.{cells_depth, returns_depth, subroutines_depth, exceptions_depth}
use Rattle.machine.specs.Limits.{memory_length}
use Rattle.machine.specs.Reach.{bar_of, is_foreign}
use Rattle.machine.specs.Memory.{size, view_start, view_end, place_of}
use Rattle.machine.specs.declared.Reach.{Reach}
use Rattle.machine.specs.declared.refusal.Refusal.{Refusal}
use Rattle.machine.specs.declared.Width.{Width}
use Rattle.machine.specs.declared.Place.{Place}
use Rattle.machine.specs.declared.Place.TheVariants.{Memory, View, Nowhere}
use Rattle.reach.specs.Spots.{allowed, spot_of}
use Rattle.reach.specs.declared.Spot.{Spot}
use Rattle.run_words.specs.Accesses.{reach_of, SpotWithin, ReachedWithin}
use Rattle.run_words.specs.Levels.{view_cells}
use Rattle.run_words.specs.Verdicts.{pushable, readable, callable, catchable, throwable, exitable, returnable}
use Rattle.run_words.specs.Laws.Drops.{positive}
use Rattle.run_words.specs.Laws.Answered.{apart}

-- a chain of checks that gives something passed each of them
passed : {A : Type 0} (b : Bool) (number : ℕ) (rest : Answer A) (values : A) → pick b (refuses number) rest ≡ gives values → (b ≡ false) × (rest ≡ gives values)
passed true number rest values e = apart cc
passed false number rest values e = (refl, e)

pub push-room : {p r : ℕ} → pushable p r ≡ gives tt → (1 ≤ p) × (r < returns_depth)
unfolding pushable
push-room {p} {r} e =
    let a = passed (ltb p 1) 5 (pick (leb returns_depth r) (refuses 9) (gives tt)) tt e in
    let b = passed (leb returns_depth r) 9 (gives tt) tt a.1 in
    (ltb-false p 1 a.0, leb-false returns_depth r b.0)

pub read-room : {p r : ℕ} → readable p r ≡ gives tt → (0 < r) × (p < cells_depth)
unfolding readable
read-room {p} {r} e =
    let a = passed (eqb r 0) 6 (pick (leb cells_depth p) (refuses 8) (gives tt)) tt e in
    let b = passed (leb cells_depth p) 8 (gives tt) tt a.1 in
    (positive r (eqb-false r 0 a.0), leb-false cells_depth p b.0)

pub call-room : {takes p r s : ℕ} → callable takes p r s ≡ gives tt → (takes ≤ p) × ((r < returns_depth) × (s < subroutines_depth))
unfolding callable
call-room {takes} {p} {r} {s} e =
    let a = passed (ltb p takes) 5 (pick (leb returns_depth r) (refuses 9) (pick (leb subroutines_depth s) (refuses 10) (gives tt))) tt e in
    let b = passed (leb returns_depth r) 9 (pick (leb subroutines_depth s) (refuses 10) (gives tt)) tt a.1 in
    let d = passed (leb subroutines_depth s) 10 (gives tt) tt b.1 in
    (ltb-false p takes a.0, (leb-false returns_depth r b.0, leb-false subroutines_depth s d.0))

pub catch-room : {p r s e : ℕ} → catchable p r s e ≡ gives tt → (1 ≤ p) × ((r < returns_depth) × ((s < subroutines_depth) × (e < exceptions_depth)))
unfolding catchable
catch-room {p} {r} {s} {e} h =
    let a = passed (ltb p 1) 5 (pick (leb returns_depth r) (refuses 9) (pick (leb subroutines_depth s) (refuses 10) (pick (leb exceptions_depth e) (refuses 11) (gives tt)))) tt h in
    let b = passed (leb returns_depth r) 9 (pick (leb subroutines_depth s) (refuses 10) (pick (leb exceptions_depth e) (refuses 11) (gives tt))) tt a.1 in
    let d = passed (leb subroutines_depth s) 10 (pick (leb exceptions_depth e) (refuses 11) (gives tt)) tt b.1 in
    let f = passed (leb exceptions_depth e) 11 (gives tt) tt d.1 in
    (ltb-false p 1 a.0, (leb-false returns_depth r b.0, (leb-false subroutines_depth s d.0, leb-false exceptions_depth e f.0)))

pub exit-room : {s : ℕ} → exitable s ≡ gives tt → 0 < s
unfolding exitable
exit-room {s} e = positive s (eqb-false s 0 (passed (eqb s 0) 0 (gives tt) tt e).0)

pub return-room : (block : ℕ) {s : ℕ} → returnable block s ≡ gives tt → 0 < s
unfolding returnable
return-room block {s} e =
    let rest = passed (eqb block 0) 16 (pick (eqb s 0) (refuses 16) (gives tt)) tt e in
    positive s (eqb-false s 0 (passed (eqb s 0) 16 (gives tt) tt rest.1).0)

pub zero_room : (cells : List ℕ) {p : ℕ} (e : ℕ) {throw : Option ℕ} → throwable cells p e ≡ gives throw → 1 ≤ p
unfolding throwable
zero_room cells {p} e {throw} h =
    ltb-false p 1
    (passed (ltb p 1) 5 (pick (eqb (get_or cells (p - 1) 0) 0) (gives None) (pick (eqb e 0) (refuses 7) (gives (Some (get_or cells (p - 1) 0))))) throw h).0

pub code-room : (cells : List ℕ) (p : ℕ) {e n : ℕ} → throwable cells p e ≡ gives (Some n) → 0 < e
unfolding throwable
code-room cells p {e} {n} h = go (ltb p 1) (eqb (get_or cells (p - 1) 0) 0) (eqb e 0) refl h
  where
    go : (a b d : Bool) → eqb e 0 ≡ d →
        pick a (refuses 5) (pick b (gives None) (pick d (refuses 7) (gives (Some (get_or cells (p - 1) 0))))) ≡ gives (Some n) → 0 < e
    go true b d t h = apart cc
    go false true d t h = apart cc
    go false false true t h = apart cc
    go false false false t h = positive e (eqb-false e 0 t)

-- an access in memory lies wholly inside it, and one in view wholly in the cells' bytes
Within : Width → Place → Type 0
Within w (Memory a) = a + size w ≤ memory_length
Within w (View a) = a + size w ≤ 4 * view_cells
Within w Nowhere = Unit {0}

place-within : (w : Width) (a : ℕ) → Within w (place_of w a)
unfolding place_of Within
place-within w a = go (leb (a + size w) memory_length) refl (leb view_start a) refl (leb (a + size w) view_end) refl
  where
    go : (b : Bool) → leb (a + size w) memory_length ≡ b → (d : Bool) → leb view_start a ≡ d → (f : Bool) → leb (a + size w) view_end ≡ f →
        Within w (pick b (Memory a) (pick (both d f) (View (a - view_start)) Nowhere))
    go true h d hd f hf = leb-true (a + size w) memory_length h
    go false h true hd true hf = omega (arith, leb-true view_start a hd, leb-true (a + size w) view_end hf)
    go false h true hd false hf = tt
    go false h false hd f hf = tt

-- what is allowed is where it is
allowed-within : (reach : Reach) (w : Width) (place at : Place) → allowed reach w place ≡ gives at → Within w place → Within w at
allowed-within reach w (Memory a) at e h =
    let same = (passed (is_foreign (bar_of reach a (size w))) 17 (gives (Memory a)) at e).1 in
    let is : Memory a ≡ at = cc in
    subst (Within w) is h
allowed-within reach w (View a) at e h = let is : View a ≡ at = cc in subst (Within w) is h
allowed-within reach w Nowhere at e h = apart cc

module _ (reach : Reach) (w : Width) (cells : List ℕ) {takes p : ℕ} where
  reaches : {at : Place} → reach_of reach takes w cells p ≡ gives at → (takes ≤ p) × Within w at
  unfolding reach_of spot_of
  reaches {at} e =
      let address = get_or cells (p - 1) 0 in
      let a = passed (ltb p takes) 5 (spot_of reach w address) at e in
      (ltb-false p takes a.0, allowed-within reach w (place_of w address) at a.1 (place-within w address))

  pub memory-room : {a : ℕ} → reach_of reach takes w cells p ≡ gives (Memory a) → (takes ≤ p) × (a + size w ≤ memory_length)
  unfolding Within
  memory-room e = reaches e

  pub view-room : {a : ℕ} → reach_of reach takes w cells p ≡ gives (View a) → (takes ≤ p) × (a + size w ≤ 4 * view_cells)
  unfolding Within
  view-room e = reaches e

-- what is told apart, where it is known what it is
pub spot-within : (reach : Reach) (w : Width) {r : Result Spot Refusal} {at : Spot} → ReachedWithin reach w r → r ≡ Ok at → SpotWithin reach w at
spot-within reach w h e = subst (ReachedWithin reach w) e h
