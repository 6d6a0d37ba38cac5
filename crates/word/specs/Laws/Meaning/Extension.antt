-- 2/ is the floor of half the integer; XBYTE and XWORD keep the integer that the low bits hold.
use Rattle.std.specs.Prelude.{◌≡◌, ℕ, ◌+◌, ◌-◌, ◌*◌, ◌/◌, ◌%◌, ◌^◌, ◌<◌, ◌≤◌, true, false, ℤ, pos, ◌+ℤ◌, ◌*ℤ◌, neg_ℤ}
use Rattle.std.proofs.Common.{sym, ap, ◌∙◌, arith}
use Rattle.word.specs.Shifts.{halve_of, extend_byte_of, extend_word_of}
use Rattle.word.specs.Laws.Tests.{either_order}
use Rattle.word.specs.Integers.{signed, signed_at}
use Rattle.word.specs.Laws.Integers.{signed_low, signed_high, times, less-size}

-- twice the half, and the bit that was dropped, are the whole
pub halve-means : (x flag : ℕ) → x < 2 ^ 32 → signed x ≡ pos 2 *ℤ signed (halve_of x flag).value +ℤ pos (x % 2)
halve-means x flag hx = either_order (2 ^ 31) x below above
  where
    half : ℕ
    half = x / 2 + x / 2 ^ 31 * 2 ^ 31

    above : x < 2 ^ 31 → signed x ≡ pos 2 *ℤ signed half +ℤ pos (x % 2)
    above p =
        let e : x ≡ 2 * half + x % 2 = omega arith in
        signed_low (2 ^ 31) x p ∙ ap pos e ∙ sym (ap (λ (z : ℤ). pos 2 *ℤ z +ℤ pos (x % 2)) (signed_low (2 ^ 31) half (omega arith)))

    below : 2 ^ 31 ≤ x → signed x ≡ pos 2 *ℤ signed half +ℤ pos (x % 2)
    below p =
        let e : 2 ^ 32 - x ≡ 2 * (2 ^ 32 - half) - x % 2 = omega arith in
        signed_high (2 ^ 31) x p (omega arith)
        ∙ ap (λ (n : ℕ). neg_ℤ (pos n)) e
        ∙ sym (ap (λ (z : ℤ). pos 2 *ℤ z +ℤ pos (x % 2)) (signed_high (2 ^ 31) half (omega arith) (omega arith))
        ∙ ap (λ (z : ℤ). z +ℤ pos (x % 2)) (times false true 2 (2 ^ 32 - half))
        ∙ less-size (2 * (2 ^ 32 - half)) (x % 2) (omega arith))

-- a field of the given half range, with what lies above it filled by its top bit
filled : (half low value : ℕ) → half ≤ 2 ^ 31 → low < half + half → (low < half → value ≡ low) → (half ≤ low → value + (half + half) ≡ low + 2 ^ 32) → signed value ≡ signed_at half low
filled half low value fits room plain turned = either_order half low below above
  where
    above : low < half → signed value ≡ signed_at half low
    above p = ap signed (plain p) ∙ signed_low (2 ^ 31) low (omega arith) ∙ sym (signed_low half low p)

    below : half ≤ low → signed value ≡ signed_at half low
    below p =
        let e = turned p in
        let f : 2 ^ 32 - value ≡ half + half - low = omega arith in
        signed_high (2 ^ 31) value (omega arith) (omega arith) ∙ ap (λ (n : ℕ). neg_ℤ (pos n)) f ∙ sym (signed_high half low p (omega arith))

pub extend-byte-means : (x flag : ℕ) → signed (extend_byte_of x flag).value ≡ signed_at (2 ^ 7) (x % 2 ^ 8)
extend-byte-means x flag = filled (2 ^ 7) (x % 2 ^ 8) (extend_byte_of x flag).value (omega arith) (omega arith) (λ p. omega arith) (λ p. omega arith)

pub extend-word-means : (x flag : ℕ) → signed (extend_word_of x flag).value ≡ signed_at (2 ^ 15) (x % 2 ^ 16)
extend-word-means x flag = filled (2 ^ 15) (x % 2 ^ 16) (extend_word_of x flag).value (omega arith) (omega arith) (λ p. omega arith) (λ p. omega arith)
