-- No second answer: two answers that meet a promise are equal.
use Rattle.std.specs.Prelude.{Option, Some, None, Result, Ok, Err, Bool, true, false, ◌≡◌, refl, ℕ, ◌+◌, ◌*◌, ◌%◌}
use Rattle.std.proofs.Common.{sym, ap, ◌∙◌, arith, eq-eqb}
use Rattle.links.specs.Depths.{locals_count}
use Rattle.machine.proofs.Laws.Clash.{clash}
use Rattle.machine.specs.Memory.{size}
use Rattle.machine.specs.Reach.{bar_of, is_foreign}
use Rattle.machine.specs.declared.Reach.{Reach}
use Rattle.machine.specs.declared.refusal.Refusal.{Refusal}
use Rattle.machine.specs.declared.Width.{Width}
use Rattle.machine.proofs.Laws.Refusing.{same-refusal}
use Rattle.reach.specs.Bars.{says_barred}
use Rattle.reach.specs.Spots.{width_of, spot_of, place_at, says_reached, in_own, is_whole, SpotToldApart, ToldApart}
use Rattle.reach.specs.declared.Bar.{Bar}
use Rattle.reach.specs.declared.Bar.TheVariants.{Outside, Foreign}
use Rattle.reach.specs.declared.Spot.{Spot}
use Rattle.reach.specs.declared.Spot.TheVariants as spot

-- an answer says nothing that another case says
pub same-barring : (a b : Option Bar) → says_barred a ≡ says_barred b → a ≡ b
same-barring None None e = refl
same-barring None (Some Outside) e = cc
same-barring None (Some Foreign) e = cc
same-barring (Some Outside) None e = cc
same-barring (Some Outside) (Some Outside) e = refl
same-barring (Some Outside) (Some Foreign) e = cc
same-barring (Some Foreign) None e = cc
same-barring (Some Foreign) (Some Outside) e = cc
same-barring (Some Foreign) (Some Foreign) e = refl

pub only-barred : (reach : Reach) (address size : ℕ) (a b : Option Bar) → says_barred a ≡ bar_of reach address size → says_barred b ≡ bar_of reach address size → a ≡ b
only-barred reach address size a b h k = same-barring a b (h ∙ sym k)

pub only-foreign : (barring : Option Bar) (a b : Bool) → a ≡ is_foreign (says_barred barring) → b ≡ is_foreign (says_barred barring) → a ≡ b
only-foreign barring a b h k = h ∙ sym k

-- an address in memory is told as the own part's or not, and never as both
module _ (reach : Reach) (w : Width) where
  apart : (a b : ℕ) → a ≡ b → in_own reach a (size w) ≡ false → in_own reach b (size w) ≡ true → {A : Type 0} → A
  apart a b e off on = clash (in_own reach a (size w)) (ap (λ (x : ℕ). in_own reach x (size w)) e ∙ on) off

  -- and the whole of a cell as that cell alone
  not-whole : (a : ℕ) → size w ≡ 4 → a % 4 ≡ 0 → is_whole w a ≡ false → {A : Type 0} → A
  not-whole a long at off = clash (is_whole w a) (rw (eq-eqb (size w) 4 long, eq-eqb (a % 4) 0 at)) off

  same_spot : (a b : Spot) → SpotToldApart reach w a → SpotToldApart reach w b → place_at a ≡ place_at b → a ≡ b
  same_spot (spot.Memory a) (spot.Memory b) h k e = cc
  same_spot (spot.Memory a) (spot.Own b) h k e = apart a b (cc) h k
  same_spot (spot.Memory a) (spot.Local b) h k e = cc
  same_spot (spot.Memory a) (spot.Cell b) h k e = cc
  same_spot (spot.Memory a) (spot.View b) h k e = cc
  same_spot (spot.Own a) (spot.Memory b) h k e = apart b a (cc) k h
  same_spot (spot.Own a) (spot.Own b) h k e = cc
  same_spot (spot.Own a) (spot.Local b) h k e = cc
  same_spot (spot.Own a) (spot.Cell b) h k e = cc
  same_spot (spot.Own a) (spot.View b) h k e = cc
  same_spot (spot.Local a) (spot.Memory b) h k e = cc
  same_spot (spot.Local a) (spot.Own b) h k e = cc
  same_spot (spot.Local a) (spot.Local b) h k e =
      let at : 4 * a ≡ 4 * b = cc in
      let same : a ≡ b = omega arith in
      ap (λ (x : ℕ). spot.Local x) same
  same_spot (spot.Local a) (spot.Cell b) h k e = let at : 4 * a ≡ 4 * (locals_count + b) = cc in absurd (omega arith)
  same_spot (spot.Local a) (spot.View b) h k e = let at : 4 * a ≡ b = cc in not-whole b h.0 (omega arith) k
  same_spot (spot.Cell a) (spot.Memory b) h k e = cc
  same_spot (spot.Cell a) (spot.Own b) h k e = cc
  same_spot (spot.Cell a) (spot.Local b) h k e = let at : 4 * (locals_count + a) ≡ 4 * b = cc in absurd (omega arith)
  same_spot (spot.Cell a) (spot.Cell b) h k e =
      let at : 4 * (locals_count + a) ≡ 4 * (locals_count + b) = cc in
      let same : a ≡ b = omega arith in
      ap (λ (x : ℕ). spot.Cell x) same
  same_spot (spot.Cell a) (spot.View b) h k e = let at : 4 * (locals_count + a) ≡ b = cc in not-whole b h.0 (omega arith) k
  same_spot (spot.View a) (spot.Memory b) h k e = cc
  same_spot (spot.View a) (spot.Own b) h k e = cc
  same_spot (spot.View a) (spot.Local b) h k e = let at : a ≡ 4 * b = cc in not-whole a k.0 (omega arith) h
  same_spot (spot.View a) (spot.Cell b) h k e = let at : a ≡ 4 * (locals_count + b) = cc in not-whole a k.0 (omega arith) h
  same_spot (spot.View a) (spot.View b) h k e = cc

  same-reached : (a b : Result Spot Refusal) → ToldApart reach w a → ToldApart reach w b → says_reached a ≡ says_reached b → a ≡ b
  same-reached (Ok a) (Ok b) h k e = ap (λ (s : Spot). Ok s) (same_spot a b h k (cc))
  same-reached (Ok a) (Err n) h k e = cc
  same-reached (Err n) (Ok b) h k e = cc
  same-reached (Err n) (Err m) h k e = ap (λ (why : Refusal). Err why) (same-refusal n m (cc))

pub only-spot : (reach : Reach) (code address : ℕ) (a b : Result Spot Refusal) → (says_reached a ≡ spot_of reach (width_of code) address) × ToldApart reach (width_of code) a
    → (says_reached b ≡ spot_of reach (width_of code) address) × ToldApart reach (width_of code) b → a ≡ b
only-spot reach code address a b h k = same-reached reach (width_of code) a b h.1 k.1 (h.0 ∙ sym k.0)
