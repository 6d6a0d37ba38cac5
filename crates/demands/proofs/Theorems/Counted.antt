-- The theorems about double length are about something: a sample with a 1+ between the two codes, and what they say of it.
use Rattle.std.specs.Prelude.{true, ◌≡◌, refl, ℕ, ◌+◌, ◌-◌, ◌^◌, ◌%◌, T, leb, ltb, eqb}
use Rattle.std.proofs.Common.{◌∙◌, eqb→eq, lit≤}
use Rattle.plain.specs.Zeros.{padded}
use Rattle.word.specs.Truth.{bit_of}
use Rattle.machine.specs.Reach.{alone}
use Rattle.machine.specs.State.{well_formed, machine_with}
use Rattle.machine.specs.Fits.{Exist}
use Rattle.machine.proofs.Laws.Kept.{formed, steady, formed-true}
use Rattle.machine.proofs.Laws.Started.{start-exists}
use Rattle.demands.specs.History.{code_at}
use Rattle.demands.specs.Walk.{ahead, walk}
use Rattle.demands.specs.Double.{LowThenHigh, on_top, deeper}
use Rattle.demands.specs.Counted.{code, cells, start, at_low, at_high}
use Rattle.demands.proofs.Laws.Every.{every, all-below}
use Rattle.demands.proofs.Laws.Histories.{still_formed, history-carries}
use Rattle.demands.proofs.Laws.Walks.{step_at, is_done, ahead_step}
use Rattle.demands.proofs.Laws.Resting.{resting, rested}
use Rattle.demands.proofs.Theorems.Double.{double-sum, double-difference}

-- what is computed of it: its steps are carried out, with the two codes where they should be, and its operands are these
abbrev Holds : ℕ → ℕ → Type 0
Holds low high =
    T (every (λ x. ltb x (2 ^ 8)) (code low high)) × T (resting 4 (start low high)) ×
    T (eqb (code_at (at_low low high)) low) × T (is_done (step_at (at_low low high))) × T (resting 5 (ahead (at_low low high))) ×
    T (eqb (code_at (at_high low high)) high) × T (is_done (step_at (at_high low high))) ×
    T (eqb (deeper (at_low low high) (at_high low high)) 0x1FFFFFFFF) × T (eqb (on_top (at_low low high) (at_high low high)) 0x200000001)

-- so it meets what the theorems ask for
record Meets (low high : ℕ) : Type 0 where
  exist : Exist (at_low low high).memory (at_low low high).machine
  accepted : well_formed (at_low low high).machine ≡ true
  codes : LowThenHigh low high (at_low low high) (ahead (at_low low high)) (at_high low high) (ahead (at_high low high))
  first : deeper (at_low low high) (at_high low high) ≡ 0x1FFFFFFFF
  second : on_top (at_low low high) (at_high low high) ≡ 0x200000001

start-formed : well_formed (machine_with cells) ≡ true
unfolding machine_with padded well_formed
    Rattle.links.specs.Linked.linked Rattle.links.specs.Fresh.fresh_links
start-formed = refl

meets : (low high : ℕ) → Holds low high → Meets low high
meets low high h =
    let (bytes, steps-before, low-code, low-done, steps-between, high-code, high-done, first, second) = h in
    let before = rested 4 (start low high) steps-before in
    let between = rested 5 (ahead (at_low low high)) steps-between in
    let starts = start-exists (code low high) cells (all-below (2 ^ 8) (code low high) bytes) (all-below (2 ^ 32) cells tt) (lit≤ tt) in
    let is-formed = formed (machine_with cells) start-formed in
    record {
      exist = history-carries before.history before.leaves-bytes (steady (machine_with cells) is-formed) starts;
      accepted = formed-true (at_low low high).machine (still_formed before.history before.unbroken starts.whole is-formed);
      codes =
          record {
            low-code = eqb→eq (code_at (at_low low high)) low low-code;
            low-reach = alone;
            low-cost = _;
            low-done = ahead_step (at_low low high) low-done;
            between = between.history;
            none_moves = between.none_moves;
            leaves-bytes = between.leaves-bytes;
            high-code = eqb→eq (code_at (at_high low high)) high high-code;
            high-reach = alone;
            high-cost = _;
            high-done = ahead_step (at_high low high) high-done;
          };
      first = eqb→eq (deeper (at_low low high) (at_high low high)) 0x1FFFFFFFF first;
      second = eqb→eq (on_top (at_low low high) (at_high low high)) 0x200000001 second;
    }

record Both : Type 0 where
  sum : Holds 0x0E 0x14
  difference : Holds 0x0F 0x15

holds : Both
unfolding padded machine_with walk resting
    Rattle.links.specs.Fresh.fresh_links Rattle.links.specs.Fresh.fresh_frame Rattle.links.specs.Fresh.fresh_level Rattle.links.specs.Actions.no_locals
    Rattle.machine.specs.Step.step_of Rattle.machine.specs.Step.carried Rattle.machine.specs.Fetch.instruction_at Rattle.machine.specs.Reach.bar_of
    Rattle.machine.specs.Rows.row_of Rattle.machine.specs.Codes.entry_at Rattle.machine.specs.Codes.table
    Rattle.word.specs.Dispatch.one_cell_of Rattle.word.specs.Dispatch.two_cells_of
holds = record { sum = (tt, tt, tt, tt, tt, tt, tt, tt, tt); difference = (tt, tt, tt, tt, tt, tt, tt, tt, tt) }

-- The sample's sum, with no carry out of 64 bits.
pub counted-sum : (on_top (ahead (at_low 0x0E 0x14)) (ahead (at_high 0x0E 0x14)) ≡ 0x400000000) × ((ahead (at_high 0x0E 0x14)).machine.flag ≡ 0)
counted-sum =
    let m = meets 0x0E 0x14 holds.sum in
    let (number, flag) = double-sum m.exist m.accepted m.codes in
    (number ∙ (λ i. (m.first i + m.second i) % 2 ^ 64), flag ∙ (λ i. bit_of (leb (2 ^ 64) (m.first i + m.second i))))

-- And its difference, which is 2 below zero and borrows.
pub counted-difference : (on_top (ahead (at_low 0x0F 0x15)) (ahead (at_high 0x0F 0x15)) ≡ 2 ^ 64 - 2) × ((ahead (at_high 0x0F 0x15)).machine.flag ≡ 1)
counted-difference =
    let m = meets 0x0F 0x15 holds.difference in
    let (number, flag) = double-difference m.exist m.accepted m.codes in
    (number ∙ (λ i. (m.first i + 2 ^ 64 - m.second i) % 2 ^ 64), flag ∙ (λ i. bit_of (ltb (m.first i) (m.second i))))
