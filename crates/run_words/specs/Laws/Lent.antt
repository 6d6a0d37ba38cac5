-- A part of memory that is lent on from the middle: what is stored in it is stored in the whole.
use Rattle.std.specs.Prelude.{◌≡◌, List, [], ◌∷◌, ◌++◌, ℕ, suc, ◌+◌, ◌-◌, ◌≤◌, length, set, take, drop}
use Rattle.std.proofs.Common.{ap, ◌∙◌, arith, take-append-drop, drop-set-lt}
use Rattle.std.proofs.lemmas.List.Edits.{sets}
use Rattle.std.proofs.lemmas.List.{take-set-le, drop-set-add}
use Rattle.std.proofs.Math.Seq.{take-set-lt}
use Rattle.numbers.specs.Bytes.{bytes_of}
use Rattle.numbers.specs.Laws.Bytes.{length-bytes}

-- the whole, with other bytes in the place of the part
abbrev pub with_part : List ℕ → ℕ → ℕ → List ℕ → List ℕ
with_part whole start end part = take start whole ++ (part ++ drop (end - start) (drop start whole))

stores : (values whole : List ℕ) (start size i : ℕ) → i + length values ≤ size →
    take start whole ++ (sets (take size (drop start whole)) i values ++ drop size (drop start whole)) ≡ sets whole (start + i) values
stores [] whole start size i h = ap (λ (rest : List ℕ). take start whole ++ rest) (take-append-drop size (drop start whole)) ∙ take-append-drop start whole
stores (v ∷ values) whole start size i h =
    let here : suc i ≤ size = omega (arith, h) in
    rw (
      ← take-set-le start whole (start + i) v (omega arith),
      ← take-set-lt size (drop start whole) i v here,
      ← drop-set-lt size (drop start whole) i v here,
      ← drop-set-add start whole i v,
    )
    (stores values (set whole (start + i) v) start size (suc i) (omega (arith, h)) ∙ ap (λ (n : ℕ). sets (set whole (start + i) v) n values) (omega arith))

-- a number of n bytes at an address of the whole that lies in the part
pub stored-in-part : (n v : ℕ) (whole part : List ℕ) (start end at : ℕ) → start ≤ at → at + n ≤ end →
    part ≡ sets (take (end - start) (drop start whole)) (at - start) (bytes_of n v) → with_part whole start end part ≡ sets whole at (bytes_of n v)
stored-in-part n v whole part start end at low high e =
    ap (with_part whole start end) e ∙
    (stores (bytes_of n v) whole start (end - start) (at - start) (omega (arith, length-bytes n v, low, high)) ∙
    ap (λ (k : ℕ). sets whole k (bytes_of n v)) (omega (arith, low)))
