-- Outside the four bytes of the number that is changed every byte stays.
use Rattle.std.specs.Prelude.{List, ◌≡◌, ℕ, suc, ◌+◌, ◌/◌, ◌%◌, ◌^◌, ◌≤◌, ◌<◌, set}
use Rattle.std.proofs.Common.{◌∙◌, arith, get_or-set_other}
use Rattle.numbers.specs.Bytes.{byte_at}
use Rattle.lines.specs.Bytes.{changed}

pub others-stay : (place v : ℕ) (state : List ℕ) (i : ℕ) → ((place ≤ i) × (i < place + 4) → ⊥) → byte_at (changed place v state).state i ≡ byte_at state i
others-stay place v state i outside =
    let b : ℕ → ℕ = λ k. v / 2 ^ k % 2 ^ 8 in
    let one : List ℕ = set state place (b 24) in
    let two : List ℕ = set one (suc place) (b 16) in
    let three : List ℕ = set two (suc (suc place)) (b 8) in
    get_or-set_other three (suc (suc (suc place))) i (v % 2 ^ 8) 0 (λ e. outside (omega arith, omega arith))
    ∙ get_or-set_other two (suc (suc place)) i (b 8) 0 (λ e. outside (omega arith, omega arith))
    ∙ get_or-set_other one (suc place) i (b 16) 0 (λ e. outside (omega arith, omega arith))
    ∙ get_or-set_other state place i (b 24) 0 (λ e. outside (omega arith, omega arith))
