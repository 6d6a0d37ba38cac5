-- Powers of 256 and remainders of them.
use Rattle.std.specs.Prelude.{◌≡◌, ℕ, suc, ◌+◌, ◌*◌, ◌/◌, ◌%◌, ◌^◌, ◌≤◌, ◌<◌}
use Rattle.std.proofs.Common.{sym, ap, ◌∙◌, mul-suc, mul_assoc, add-mul, one-mul, mul-le-mul_right, div-add-mod', mod-lt, mod-eq_of_lt, arith, pow_pos, pow-add}
use Rattle.std.proofs.Math.Nat.{mul-add-mod_self_right, div-div-eq-div-mul}

pub power-suc : (n : ℕ) → 2 ^ (8 * suc n) ≡ 2 ^ (8 * n) * 2 ^ 8
power-suc n = ap (λ (k : ℕ). 2 ^ k) (mul-suc 8 n) ∙ pow-add 2 (8 * n) 8

pub power-add : (m n : ℕ) → 2 ^ (8 * (m + n)) ≡ 2 ^ (8 * n) * 2 ^ (8 * m)
power-add m n =
    let e : 8 * (m + n) ≡ 8 * n + 8 * m = omega arith in
    ap (λ (k : ℕ). 2 ^ k) e ∙ pow-add 2 (8 * n) (8 * m)

-- a quotient by one power of 256, then by another
pub div_power : (m n v : ℕ) → v / 2 ^ (8 * n) / 2 ^ (8 * m) ≡ v / 2 ^ (8 * (m + n))
div_power m n v = div-div-eq-div-mul v (2 ^ (8 * n)) (2 ^ (8 * m)) ∙ ap (λ (k : ℕ). v / k) (sym (power-add m n))

-- a remainder by a product: that of the quotient, then that of the number
pub mod_parts : (k b v : ℕ) → 0 < k → 0 < b → v % (k * b) ≡ v / b % k * b + v % b
mod_parts k b v some-k some-b =
    let q : ℕ = v / b in
    let low : ℕ = q % k * b + v % b in
    let below : q % k < k = mod-lt q some-k in
    let small : q % k + 1 ≤ k = omega arith in
    let smaller : v % b < b = mod-lt v some-b in
    let within : (q % k + 1) * b ≤ k * b = mul-le-mul_right b small in
    let next : (q % k + 1) * b ≡ q % k * b + 1 * b = add-mul (q % k) 1 b in
    let outer : v / b * b + v % b ≡ v = div-add-mod' v b in
    let inner : q / k * k + q % k ≡ q = div-add-mod' q k in
    let spread : (q / k * k + q % k) * b ≡ q / k * k * b + q % k * b = add-mul (q / k * k) (q % k) b in
    let same : (q / k * k + q % k) * b ≡ q * b = ap (λ (x : ℕ). x * b) inner in
    let joined : q / k * k * b ≡ q / k * (k * b) = mul_assoc (q / k) k b in
    let one : 1 * b ≡ b = one-mul b in
    let whole : v ≡ q / k * (k * b) + low = omega arith in
    ap (λ (x : ℕ). x % (k * b)) whole ∙ mul-add-mod_self_right (q / k) (k * b) low ∙ mod-eq_of_lt (omega arith)

-- the low bytes of a number: those of its 256th, then its last byte
pub mod-last : (n v : ℕ) → v % 2 ^ (8 * suc n) ≡ v / 2 ^ 8 % 2 ^ (8 * n) * 2 ^ 8 + v % 2 ^ 8
mod-last n v = ap (λ (m : ℕ). v % m) (power-suc n) ∙ mod_parts (2 ^ (8 * n)) (2 ^ 8) v (pow_pos (8 * n)) (pow_pos 8)
