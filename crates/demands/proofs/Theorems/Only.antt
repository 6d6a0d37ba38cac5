-- No second answer: two results that meet the promise of a public function are equal, lent memory included.
-- Each other crate with public functions says the same of its own, in its Laws/Only.
use Rattle.std.specs.Prelude.{◌≡◌, List, ℕ}
use Rattle.std.proofs.Common.{ap, sym, ◌∙◌}
use Rattle.machine.specs.State.{fresh_machine, fresh_with}
use Rattle.machine.specs.Run.{After, after_of, run_of}
use Rattle.machine.specs.Sum.{Summed, summed_of, run_summed}
use Rattle.machine.specs.declared.Machine.{Machine}
use Rattle.machine.specs.declared.Ran.{Ran}

-- Machine::fresh
pub only-fresh : (a b : Machine) → a ≡ fresh_machine → b ≡ fresh_machine → a ≡ b
only-fresh a b h k = h ∙ sym k

-- run: the memory at exit, what it hands back, and the sum
pub only-run : (mem : List ℕ) (m : Machine) (budget sum : ℕ) (mem_a mem_b : List ℕ) (a b : Ran) (sum_a sum_b : ℕ) →
    summed_of (after_of mem_a a) sum_a ≡ run_summed mem m budget sum → summed_of (after_of mem_b b) sum_b ≡ run_summed mem m budget sum →
    (mem_a ≡ mem_b) × (a ≡ b) × (sum_a ≡ sum_b)
only-run mem m budget sum mem_a mem_b a b sum_a sum_b h k = (
  ap (λ (x : Summed). x.after.memory) (h ∙ sym k),
  ap (λ (x : Summed). x.after.ran) (h ∙ sym k),
  ap (λ (x : Summed). x.sum) (h ∙ sym k),
)

-- run_fresh: the memory at exit and what it hands back
pub only-run-fresh : (mem cells : List ℕ) (p budget : ℕ) (mem_a mem_b : List ℕ) (a b : Ran) →
    after_of mem_a a ≡ run_of mem (fresh_with cells p) budget → after_of mem_b b ≡ run_of mem (fresh_with cells p) budget → (mem_a ≡ mem_b) × (a ≡ b)
only-run-fresh mem cells p budget mem_a mem_b a b h k =
    (ap (λ (x : After). x.memory) (h ∙ sym k), ap (λ (x : After). x.ran) (h ∙ sym k))
