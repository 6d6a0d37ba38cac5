-- The number of which one bit is set, and a number to which it is added.
use mathlib.Core.Path.{◌≡◌, ap, ◌∙◌}
use Prim.Native.Nat.{ℕ, ◌+◌, ◌-◌, ◌/◌, ◌%◌, ◌^◌, ◌≤◌, ◌<◌}
use native.Mathlib.Nat.{pow-le-pow_right}
use native.Mathlib.Omega.{arith}
use lib.Pow.{pow_pos}
use Rattle.requests.specs.Laws.Room.{has_room}

-- from bit 32 on it is above every number of 32 bits
pub above : (n w : ℕ) → 31 < n → w < 2 ^ 32 → 0 ≡ w - 2 ^ n
above n w h fits =
    let least : 2 ^ 32 ≤ 2 ^ n = pow-le-pow_right (omega arith) h in
    omega arith

-- by its own name
module _ {p : ℕ} (n : ℕ) (e : p ≡ 2 ^ n) where
  pub some : 0 < p
  some = let least : 0 < 2 ^ n = pow_pos n in omega arith

  pub room : (w : ℕ) → n < 32 → w < 2 ^ 32 → (w / p % 2 ≡ 1 → ⊥) → w + p < 2 ^ 32
  room w h fits clear =
      let sum : w + 2 ^ n < 2 ^ 32 = has_room 32 n w h fits (λ set. clear (ap (λ (x : ℕ). w / x % 2) e ∙ set)) in
      omega arith
