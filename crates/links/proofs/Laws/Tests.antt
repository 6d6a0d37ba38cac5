-- The test by which a level is dropped: there is one, and a number is not greater than its copy.
use Rattle.std.specs.Prelude.{true, false, ◌≡◌, ℕ, ◌<◌, ◌≤◌, ltb, leb}
use Rattle.std.proofs.Common.{ltb-true, leb-true, leb-false, lt-ltb}
use Rattle.plain.specs.Choice.{both}
use Rattle.plain.specs.Laws.Choice.{both_true, both_false}

module _ (n m copy : ℕ) where
  pub drops : both (ltb 0 n) (leb m copy) ≡ true → (0 < n) × (m ≤ copy)
  drops e =
      let h = both_true (ltb 0 n) (leb m copy) e in
      (ltb-true 0 n h.0, leb-true m copy h.1)

  pub stays : both (ltb 0 n) (leb m copy) ≡ false → 0 < n → copy < m
  stays e h = leb-false m copy (both_false (ltb 0 n) (leb m copy) e (lt-ltb 0 n h))
