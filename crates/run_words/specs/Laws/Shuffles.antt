-- NOP, DROP, SWAP, NIP and ROT are carried out by the stores that their rows put.
use Rattle.std.specs.Prelude.{◌≡◌, List, [], ◌∷◌, ℕ, suc, ◌-◌, ◌≤◌, ◌<◌}
use Rattle.std.proofs.Math.Path.{refl}
use Rattle.std.proofs.Common.{ap, ◌∙◌, arith}
use Rattle.std.proofs.Math.ListN.{get_or, set}
use Rattle.std.proofs.lemmas.List.Edits.{sets}
use Rattle.plain.specs.Answer.{refuses, gives}
use Rattle.links.specs.Depths.{cells_depth}
use Rattle.machine.specs.Rows.{row_of}
use Rattle.machine.specs.Codes.{SHUFFLE, NOP, DROP, SWAP, NIP, ROT}
use Rattle.run_words.specs.Promises.{Meets}
use Rattle.run_words.specs.Laws.OnCells.{few, went}

module _ (operand next : ℕ) (cells : List ℕ) (p flag : ℕ) where
  pub nothing-went : p ≤ cells_depth →
      Meets (SHUFFLE NOP) 0 operand next cells p flag (cells) (gives (record { p = p; flag = flag; counter = next }))
  unfolding row_of
  nothing-went top =
      went (SHUFFLE NOP) 0 operand next cells p flag (p - 0) ([]) (next) (flag) (λ code e reach mem rest. rw e.asks)
      (cells) (p) (omega arith) (omega arith) refl (omega arith)

  pub discard-few : p < 1 → Meets (SHUFFLE DROP) 1 operand next cells p flag cells (refuses 5)
  unfolding row_of
  discard-few = few (SHUFFLE DROP) 1 operand next cells p flag (p - 1) ([]) (next) (flag) (λ code e reach mem rest. rw e.asks)

  pub discard-went : 1 ≤ p → p ≤ cells_depth →
      Meets (SHUFFLE DROP) 1 operand next cells p flag (cells) (gives (record { p = p - 1; flag = flag; counter = next }))
  unfolding row_of
  discard-went h top =
      went (SHUFFLE DROP) 1 operand next cells p flag (p - 1) ([]) (next) (flag) (λ code e reach mem rest. rw e.asks)
      (cells) (p - 1) h (omega arith) refl (omega arith)

  pub swap-few : p < 2 → Meets (SHUFFLE SWAP) 2 operand next cells p flag cells (refuses 5)
  unfolding row_of
  swap-few = few (SHUFFLE SWAP) 2 operand next cells p flag (p - 2) (get_or cells (p - 1) 0 ∷ get_or cells (p - 2) 0 ∷ []) (next) (flag) (λ code e reach mem rest. rw e.asks)

  pub swap-went : 2 ≤ p → p ≤ cells_depth →
      Meets (SHUFFLE SWAP) 2 operand next cells p flag (set (set cells (p - 2) (get_or cells (p - 1) 0)) (p - 1) (get_or cells (p - 2) 0)) (gives (record { p = p; flag = flag; counter = next }))
  unfolding row_of
  swap-went h top =
      went (SHUFFLE SWAP) 2 operand next cells p flag (p - 2) (get_or cells (p - 1) 0 ∷ get_or cells (p - 2) 0 ∷ []) (next) (flag) (λ code e reach mem rest. rw e.asks)
      (set (set cells (p - 2) (get_or cells (p - 1) 0)) (p - 1) (get_or cells (p - 2) 0)) (p) h (omega arith)
      (ap (λ (n : ℕ). set (set cells (p - 2) (get_or cells (p - 1) 0)) n (get_or cells (p - 2) 0)) (omega arith)) (omega arith)

  pub nip-few : p < 2 → Meets (SHUFFLE NIP) 2 operand next cells p flag cells (refuses 5)
  unfolding row_of
  nip-few = few (SHUFFLE NIP) 2 operand next cells p flag (p - 2) (get_or cells (p - 1) 0 ∷ []) (next) (flag) (λ code e reach mem rest. rw e.asks)

  pub nip-went : 2 ≤ p → p ≤ cells_depth →
      Meets (SHUFFLE NIP) 2 operand next cells p flag (set cells (p - 2) (get_or cells (p - 1) 0)) (gives (record { p = p - 1; flag = flag; counter = next }))
  unfolding row_of
  nip-went h top =
      went (SHUFFLE NIP) 2 operand next cells p flag (p - 2) (get_or cells (p - 1) 0 ∷ []) (next) (flag) (λ code e reach mem rest. rw e.asks)
      (set cells (p - 2) (get_or cells (p - 1) 0)) (p - 1) h (omega arith) refl (omega arith)

  pub rot-few : p < 3 → Meets (SHUFFLE ROT) 3 operand next cells p flag cells (refuses 5)
  unfolding row_of
  rot-few = few (SHUFFLE ROT) 3 operand next cells p flag (p - 3) (get_or cells (p - 2) 0 ∷ get_or cells (p - 1) 0 ∷ get_or cells (p - 3) 0 ∷ []) (next) (flag) (λ code e reach mem rest. rw e.asks)

  rot-stores : 3 ≤ p → sets cells (p - 3) (get_or cells (p - 2) 0 ∷ get_or cells (p - 1) 0 ∷ get_or cells (p - 3) 0 ∷ []) ≡ set (set (set cells (p - 3) (get_or cells (p - 2) 0)) (p - 2) (get_or cells (p - 1) 0)) (p - 1) (get_or cells (p - 3) 0)
  rot-stores h =
      let two : suc (p - 3) ≡ p - 2 = omega arith in
      let one : suc (suc (p - 3)) ≡ p - 1 = omega arith in
      ap (λ (n : ℕ). set (set (set cells (p - 3) (get_or cells (p - 2) 0)) n (get_or cells (p - 1) 0)) (suc (suc (p - 3))) (get_or cells (p - 3) 0)) two ∙
      ap (λ (n : ℕ). set (set (set cells (p - 3) (get_or cells (p - 2) 0)) (p - 2) (get_or cells (p - 1) 0)) n (get_or cells (p - 3) 0)) one

  pub rot-went : 3 ≤ p → p ≤ cells_depth →
      Meets (SHUFFLE ROT) 3 operand next cells p flag (set (set (set cells (p - 3) (get_or cells (p - 2) 0)) (p - 2) (get_or cells (p - 1) 0)) (p - 1) (get_or cells (p - 3) 0)) (gives (record { p = p; flag = flag; counter = next }))
  unfolding row_of
  rot-went h top =
      went (SHUFFLE ROT) 3 operand next cells p flag (p - 3) (get_or cells (p - 2) 0 ∷ get_or cells (p - 1) 0 ∷ get_or cells (p - 3) 0 ∷ []) (next) (flag) (λ code e reach mem rest. rw e.asks)
      (set (set (set cells (p - 3) (get_or cells (p - 2) 0)) (p - 2) (get_or cells (p - 1) 0)) (p - 1) (get_or cells (p - 3) 0)) (p) h (omega arith) (rot-stores h) (omega arith)
