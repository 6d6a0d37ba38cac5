-- Sign extension by wrapping: half a field's range is added, wrapped at the range and taken off again.
use Rattle.std.proofs.Common.{◌≡◌, ℕ, zero, suc, ◌+◌, ◌-◌, ◌*◌, ◌/◌, ◌%◌, ◌^◌, ◌<◌, ◌≤◌, ap, ◌∙◌, add-zero, mod-lt, mod-eq_of_lt, zero-add, zero-mul, arith, pow_pos}
use native.Mathlib.Nat.{add-mod_right, add_right_cancel}
use lib.Pow.{mod-pow-add}

-- a sum that stays at h or above after the wrap did not wrap
unwrapped : (r h t : ℕ) → r < 2 ^ 32 → h ≤ t → h < 2 ^ 32 → (r + h) % 2 ^ 32 ≡ t → r + h ≡ t
unwrapped r h t room above fits e = omega arith

-- and one that falls below h wrapped
overran : (r h t : ℕ) → r < 2 ^ 32 → t < h → h < 2 ^ 32 → (r + h) % 2 ^ 32 ≡ t → r + h ≡ t + 2 ^ 32
overran r h t room under fits e = omega arith

settled : (r h l : ℕ) → h + h ≤ 2 ^ 32 → r + h ≡ l + 2 ^ 32 → r ≡ 1 * h + l + 1 * (2 ^ 32 - (h + h))
settled r h l fits e = omega arith

-- a field of half range h with the low part l and the sign bit
turned : (h l bit r : ℕ) → l < h → bit < 2 → h + h ≤ 2 ^ 32 → r < 2 ^ 32 → (r + h) % 2 ^ 32 ≡ (bit * h + l + h) % (h + h) → r ≡ bit * h + l + bit * (2 ^ 32 - (h + h))
turned h l zero r low one fits room e =
    let t : (0 * h + l + h) % (h + h) ≡ 0 * h + l + h = mod-eq_of_lt (omega arith) in
    let u : r + h ≡ l + h = unwrapped r h (l + h) room (omega arith) (omega arith) (e ∙ t ∙ ap (λ (n : ℕ). n + l + h) (zero-mul h) ∙ ap (λ (n : ℕ). n + h) (zero-add l)) in
    simp (zero-mul, zero-add, add-zero) (add_right_cancel h u)
turned h l (suc zero) r low one fits room e =
    let t : (l + (h + h)) % (h + h) ≡ l = add-mod_right l (h + h) ∙ mod-eq_of_lt (omega arith) in
    let s : 1 * h + l + h ≡ l + (h + h) = omega arith in
    settled r h l fits (overran r h l room low (omega arith) (e ∙ (rw s t)))
turned h l (suc (suc n)) r low one fits room e = absurd (omega arith)

-- the low k + 1 bits of x, bit k of them copied into each bit above
pub extended : (k x r : ℕ) → 2 ^ k + 2 ^ k ≤ 2 ^ 32 → r < 2 ^ 32 → (r + 2 ^ k) % 2 ^ 32 ≡ (x % 2 ^ (1 + k) + 2 ^ k) % (2 ^ k + 2 ^ k) → r ≡ x % 2 ^ (1 + k) + x / 2 ^ k % 2 * (2 ^ 32 - (2 ^ k + 2 ^ k))
extended k x r fits room e =
    rw (mod-pow-add x 1 k) (turned (2 ^ k) (x % 2 ^ k) (x / 2 ^ k % 2) r (mod-lt x (pow_pos k)) (mod-lt (x / 2 ^ k) (omega arith)) fits room (rw (mod-pow-add x 1 k) at e))
