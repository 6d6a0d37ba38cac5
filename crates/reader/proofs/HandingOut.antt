-- The promise to a host that hands an image in, from what the parts ensure.
use Rattle.std.specs.Prelude.{Ok, Err}
use mathlib.Core.List.{List, [], ◌++◌, append_assoc}
use mathlib.Core.Path.{◌≡◌, sym, ap, subst, ◌∙◌}
use Prim.Native.Nat.{ℕ, ◌^◌, ◌≤◌, ◌<◌}
use native.Mathlib.Omega.{arith}
use lib.ListN.{length, drop, length-append}
use lib.Seq.{sets, sets-eq, length-sets, drop-length}
use Rattle.plain.specs.Answer.{Answer, refuses}
use Rattle.numbers.specs.Bytes.{bytes_of}
use Rattle.numbers.specs.Slices.{Wrote, write_at}
use Rattle.numbers.specs.Laws.Bytes.{length-bytes}
use Rattle.numbers.specs.Laws.Slices.{write-inside}
use Rattle.numbers.specs.Laws.Writing.{sets-append}
use Rattle.machine.specs.Limits.{most_budget, most_sum}
use Rattle.machine.specs.Refusals.{number_of, says}
use Rattle.machine.specs.declared.refusal.Refusal.{Refusal}
use Rattle.image.specs.Loading.{returned, Read, wrong-memory, not-spelled, read, refused_with, loaded_from}
use Rattle.image.specs.Loading as loading
use Rattle.image.specs.Laws.Sum.{sum_low}
use Rattle.image.specs.declared.Loaded.{Loaded}
use Rattle.state.specs.Parts.{field_bytes}
use Rattle.state.specs.Layout as layout
use Rattle.state.specs.Lent.{Lent}
use Rattle.state.specs.Promise.{Gives, wrong_size, filled}
use Rattle.reader.specs.Reads.{Reads, beside}
use Rattle.reader.specs.Reads as reads

-- what the reader refuses it returns fresh, and leaves the memory as it was
refused-untouched : (file before after : List ℕ) (h : loading.Returned) (number : ℕ) → Read file before after h → h.says ≡ refuses number
    → Read file before before (refused_with number) × (after ≡ before)
unfolding refused_with loaded_from
refused-untouched file before after h number (wrong-memory other) e =
    let same : loading.other_memory ≡ number = cc in
    (subst (λ (n : ℕ). Read file before before (refused_with n)) same (wrong-memory other), λ i. before)
refused-untouched file before after h number (not-spelled long none) e =
    let same : 14 ≡ number = cc in
    (subst (λ (n : ℕ). Read file before before (refused_with n)) same (not-spelled long none), λ i. before)
refused-untouched file before after h number (read i long spellable spells) e = absurd (let z : ◌≡◌ {A = ℕ} 0 1 = cc in omega arith)

budget-low : (file before after : List ℕ) (h : loading.Returned) → Read file before after h → h.budget ≤ most_budget
unfolding refused_with loaded_from
budget-low file before after h (wrong-memory other) = omega arith
budget-low file before after h (not-spelled long none) = omega arith
budget-low file before after h (read i long spellable spells) = spellable.budget-low

-- the budget and the sum behind it fill the result
beside-written : (budget sum : ℕ) (before : List ℕ) (w v : Wrote) → length before ≡ beside.width → w ≡ write_at 8 budget before 0 → v ≡ write_at 8 sum w.bytes 8
    → v.bytes ≡ beside.bytes (record { budget = budget; sum = sum })
unfolding field_bytes
beside-written budget sum before w v long e f =
    let first : List ℕ = bytes_of 8 budget in
    let second : List ℕ = bytes_of 8 sum in
    let eight : length first ≡ 8 = length-bytes 8 budget in
    let also : length second ≡ 8 = length-bytes 8 sum in
    let sixteen : length (first ++ second) ≡ length before = length-append first second ∙ omega arith in
    let one : w.bytes ≡ sets before 0 first = ap (λ (x : Wrote). x.bytes) (e ∙ write-inside 8 before 0 budget (omega arith)) in
    let same : length w.bytes ≡ length before = ap length one ∙ length-sets before 0 first in
    ap (λ (x : Wrote). x.bytes) (f ∙ write-inside 8 w.bytes 8 sum (omega arith))
    ∙ ap (λ (l : List ℕ). sets l 8 second) one
    ∙ ap (λ (k : ℕ). sets (sets before 0 first) k second) (sym eight)
    ∙ sym (sets-append first second before 0)
    ∙ sets-eq (first ++ second) before 0 (omega arith)
    ∙ ap (λ (rest : List ℕ). (first ++ second) ++ rest) (ap (λ (k : ℕ). drop k before) sixteen ∙ drop-length before)
    ∙ append_assoc first second []

module _ (image memory state result : List ℕ) where
  abbrev untouched : ℕ → Lent
  untouched number = record { number = number; state = state; memory = memory; result = result }

  pub other-state : (length state ≡ (layout.state).width → ⊥) → Reads image memory state result (untouched 2)
  other-state h = reads.wrong-length (λ both. h both.0)

  pub other_result : (length result ≡ beside.width → ⊥) → Reads image memory state result (untouched 2)
  other_result h = reads.wrong-length (λ both. h both.1)

  module _ (mid : List ℕ) (loaded : Loaded) (all : length state ≡ (layout.state).width) (long : length result ≡ beside.width)
      (is_read : Read image memory mid (returned loaded)) where
    pub not-read : (why : Refusal) → loaded.verdict ≡ Err why
        → Reads image memory state result (record { number = number_of why; state = state; memory = mid; result = result })
    not-read why e =
        let kept = refused-untouched image memory mid (returned loaded) (number_of why) is_read (ap says e) in
        subst (λ (m : List ℕ). Reads image memory state result (record { number = number_of why; state = state; memory = m; result = result }))
        (sym kept.1)
        (reads.refused (number_of why) all long kept.0)

    pub handed_out_lem : {done : Unit {0}} (a : Answer (Unit {0})) (given : List ℕ) (w v : Wrote) → loaded.verdict ≡ Ok done
        → Gives layout.state loaded.machine state a given → w ≡ write_at 8 loaded.budget result 0 → v ≡ write_at 8 loaded.sum w.bytes 8
        → Reads image memory state result (record { number = 0; state = given; memory = mid; result = v.bytes })
    handed_out_lem a given w v e (wrong_size h) wrote behind = absurd (h all)
    handed_out_lem a given w v e (filled also fits) wrote behind =
        let low : loaded.budget ≤ most_budget = budget-low image memory mid (returned loaded) is_read in
        let small : loaded.budget < 2 ^ 64 = omega arith in
        let most : loaded.sum ≤ most_sum = sum_low image memory mid (returned loaded) is_read in
        let tiny : loaded.sum < 2 ^ 64 = omega arith in
        subst (λ (r : List ℕ). Reads image memory state result (record { number = 0; state = given; memory = mid; result = r }))
        (sym (beside-written loaded.budget loaded.sum result w v long wrote behind))
        (reads.read (record { memory = mid; returned = returned loaded }) all long is_read (ap says e) fits (small, (tiny, tt)))
