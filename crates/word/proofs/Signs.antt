-- The signed product, from the unsigned one.
use Rattle.std.proofs.Common.{◌≡◌, ℕ, ◌+◌, ◌-◌, ◌*◌, ◌/◌, ◌%◌, ◌^◌, ◌<◌, ◌≤◌, sym, ap, ◌∙◌, ap₂, mul_assoc, mul_comm, add-mul, mul-add, arith}
use Rattle.word.specs.Products.{wide}

spread : (a b c d : ℕ) → (a + b) * (c + d) ≡ a * c + a * d + (b * c + b * d)
spread a b c d = add-mul a b (c + d) ∙ ap₂ (λ (m n : ℕ). m + n) (mul-add a c d) (mul-add b c d)

-- the bits above the low cell
abbrev fill : ℕ
fill = 2 ^ 64 - 2 ^ 32

-- their square, in multiples of 2 ^ 64
abbrev square : ℕ
square = 2 ^ 64 - 2 ^ 33 + 1

unwrapped : (w n k : ℕ) → n < 2 ^ 64 → w ≡ n + k * 2 ^ 64 → w % 2 ^ 64 ≡ n
unwrapped w n k h e = omega arith

-- what the wrap of a difference adds is at most what was taken off
quotient_le : (l u : ℕ) → l < 2 ^ 32 → (l + u) / 2 ^ 32 ≤ u
quotient_le l u h = omega arith

linear : (p h lo u v d l r q t k : ℕ) → p ≡ h * 2 ^ 32 + lo → l + u ≡ h + q * 2 ^ 32 → r + v ≡ l + t * 2 ^ 32 → k + q + t ≡ u + v + d → p + v * fill + (u * fill + d * 2 ^ 64) ≡ lo + r * 2 ^ 32 + k * 2 ^ 64
linear p h lo u v d l r q t k one two three four = omega arith

-- the high cell loses u, then v
lowered : (p u v d l r : ℕ) → l < 2 ^ 32 → r < 2 ^ 32 → (l + u) % 2 ^ 32 ≡ p / 2 ^ 32 → (r + v) % 2 ^ 32 ≡ l → (p + v * fill + (u * fill + d * 2 ^ 64)) % 2 ^ 64 ≡ p % 2 ^ 32 + r * 2 ^ 32
lowered p u v d l r hl hr e f =
    let q = (l + u) / 2 ^ 32 in
    let t = (r + v) / 2 ^ 32 in
    let k = u + v + d - (q + t) in
    let hq : q ≤ u = quotient_le l u hl in
    let ht : t ≤ v = quotient_le r v hr in
    unwrapped (p + v * fill + (u * fill + d * 2 ^ 64)) (p % 2 ^ 32 + r * 2 ^ 32) k (omega arith)
    (linear p (p / 2 ^ 32) (p % 2 ^ 32) u v d l r q t k (omega arith) (omega arith) (omega arith) (omega arith))

moved : (a c y : ℕ) → a * c * y ≡ a * y * c
moved a c y = mul_assoc a c y ∙ ap (λ (n : ℕ). a * n) (mul_comm c y) ∙ sym (mul_assoc a y c)

widened : (a b x y c : ℕ) → (x + a * c) * (y + b * c) ≡ x * y + b * x * c + (a * y * c + a * b * (c * c))
widened a b x y c =
    spread x (a * c) y (b * c)
    ∙ ap₂ (λ (m n : ℕ). x * y + m + n) (mul_comm x (b * c) ∙ moved b c x) (ap₂ (λ (m n : ℕ). m + n) (moved a c y) (sym (mul_assoc (a * c) b c) ∙ ap (λ (n : ℕ). n * c) (moved a c b) ∙ mul_assoc (a * b) c c))

-- the signed product, from the unsigned one
pub signed_product : (x y l r : ℕ) → l < 2 ^ 32 → r < 2 ^ 32 → (l + x / 2 ^ 31 * y) % 2 ^ 32 ≡ x * y / 2 ^ 32 → (r + y / 2 ^ 31 * x) % 2 ^ 32 ≡ l → wide x * wide y % 2 ^ 64 ≡ x * y % 2 ^ 32 + r * 2 ^ 32
signed_product x y l r hl hr e f =
    ap (λ (n : ℕ). n % 2 ^ 64) (widened (x / 2 ^ 31) (y / 2 ^ 31) x y fill
    ∙ ap (λ (n : ℕ). x * y + y / 2 ^ 31 * x * fill + (x / 2 ^ 31 * y * fill + n)) (sym (mul_assoc (x / 2 ^ 31 * (y / 2 ^ 31)) square (2 ^ 64))))
    ∙ lowered (x * y) (x / 2 ^ 31 * y) (y / 2 ^ 31 * x) (x / 2 ^ 31 * (y / 2 ^ 31) * square) l r hl hr e f
