-- What a line that enters leaves: request P4.
use Rattle.std.specs.Prelude.{false, ◌≡◌, ℕ, ◌*◌}
use Rattle.links.specs.Called.{Called}
use Rattle.machine.specs.Lines.{has_bit}
use Rattle.machine.specs.declared.Machine.{Machine}

-- line n leads from m to m'
pub record AfterEntry (n : ℕ) (m m' : Machine) : Type 0 where
  -- on at 4n, called from the instruction that was about to be done
  pub goes : m'.counter ≡ 4 * n
  pub called : Called m.counter m.links m'.links
  pub same-e : m'.links.e ≡ m.links.e
  -- no routine was in progress, and now one is; of the requests this one is cleared and no other
  pub was_free : m.lines.block ≡ 0
  pub blocked : m'.lines.block ≡ 1
  pub cleared : has_bit n m'.lines.waiting ≡ false
  pub others-wait : (k : ℕ) → (k ≡ n → ⊥) → has_bit k m'.lines.waiting ≡ has_bit k m.lines.waiting
  -- all else is as it was
  pub same-mask : m'.lines.mask ≡ m.lines.mask
  pub same-cells : m'.cells ≡ m.cells
  pub same-p : m'.p ≡ m.p
  pub same_flag : m'.flag ≡ m.flag
  pub same-thrown : m'.thrown ≡ m.thrown
