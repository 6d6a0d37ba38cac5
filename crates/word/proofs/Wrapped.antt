-- Wrapped sums and differences: what a comparison after the wrap says of the number before it.
use Rattle.std.proofs.Common.{◌≡◌, ℕ, suc, ◌+◌, ◌-◌, ◌%◌, ◌^◌, ◌<◌, ◌≤◌, Bool, true, false, ltb, leb, sym, refl, ap, arith, ltb-false, ltb-true, le-leb, leb-false, leb-true}
use lib.Bits.{bit_or}
use borrow.Author.Tests.{lt-leb}
use Rattle.word.specs.Laws.Tests.{same_test}
use Rattle.word.specs.Outcomes.{says_outcome}
use Rattle.word.specs.Sums.{carry_of, borrow_of, sum_of, difference_of, add_extended_of, subtract_extended_of}
use Rattle.word.specs.Truth.{bit_of}
use Rattle.word.specs.declared.Changed.{Changed}
use Rattle.word.specs.declared.Outcome.TheVariants.{Single}
use Rattle.word.proofs.Parts.{single}

-- one test or another, as bits, where an order follows from each and fails without both
either-bit : (s t : Bool) (m n : ℕ) → (s ≡ true → m ≤ n) → (t ≡ true → m ≤ n) → (s ≡ false → t ≡ false → n < m) → bit_or (bit_of s) (bit_of t) ≡ bit_of (leb m n)
either-bit true true m n one two none = ap bit_of (sym (le-leb m n (one refl)))
either-bit true false m n one two none = ap bit_of (sym (le-leb m n (one refl)))
either-bit false true m n one two none = ap bit_of (sym (le-leb m n (two refl)))
either-bit false false m n one two none = ap bit_of (sym (lt-leb m n (none refl refl)))

-- a wrapped sum is below a part of it just when it carried
pub carried : (x y sum : ℕ) → x < 2 ^ 32 → y < 2 ^ 32 → sum ≡ (x + y) % 2 ^ 32 → bit_of (ltb sum x) ≡ bit_of (leb (2 ^ 32) (x + y))
carried x y sum hx hy e = ap bit_of (same_test (suc sum) x (2 ^ 32) (x + y) (λ h. omega arith) (λ h. omega arith))

-- of two sums in a row one carried just when the whole did
carried-twice : (n f : ℕ) → bit_or (carry_of n) (carry_of (n % 2 ^ 32 + f)) ≡ carry_of (n + f)
carried-twice n f =
    let m = n % 2 ^ 32 + f in
    either-bit (leb (2 ^ 32) n) (leb (2 ^ 32) m) (2 ^ 32) (n + f) (λ p. omega (arith, leb-true (2 ^ 32) n p)) (λ q. omega (arith, leb-true (2 ^ 32) m q))
    (λ p q. omega (arith, leb-false (2 ^ 32) n p, leb-false (2 ^ 32) m q))

pub sum-of-sum : (x y f : ℕ) (cells whole : Changed) → cells ≡ sum_of (x + y) → whole ≡ sum_of (cells.value + f) →
    says_outcome (Single whole.value (bit_or cells.flag whole.flag)) ≡ says_outcome (add_extended_of x y f)
sum-of-sum x y f cells whole e e' = rw (e', e) (single (omega arith) (carried-twice (x + y) f))

-- of two differences in a row one borrowed just when the whole did
borrowed-twice : (x y f : ℕ) → x < 2 ^ 32 → y < 2 ^ 32 → bit_or (borrow_of x y) (borrow_of ((x + 2 ^ 33 - y) % 2 ^ 32) f) ≡ borrow_of x (y + f)
borrowed-twice x y f hx hy =
    let m = (x + 2 ^ 33 - y) % 2 ^ 32 in
    either-bit (ltb x y) (ltb m f) (suc x) (y + f) (λ p. omega (arith, ltb-true x y p)) (λ q. omega (arith, ltb-true m f q))
    (λ p q. omega (arith, ltb-false x y p, ltb-false m f q))

pub difference-of-difference : (x y f : ℕ) (cells whole : Changed) → x < 2 ^ 32 → y < 2 ^ 32 → f < 2 ^ 32 → cells ≡ difference_of x y → whole ≡ difference_of cells.value f →
    says_outcome (Single whole.value (bit_or cells.flag whole.flag)) ≡ says_outcome (subtract_extended_of x y f)
difference-of-difference x y f cells whole hx hy hf e e' = rw (e', e) (single (omega arith) (borrowed-twice x y f hx hy))
