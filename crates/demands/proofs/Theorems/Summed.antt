-- The memory sum: what a run hands back for it, and that the full addition stays so, from the reader on through any number of runs and
-- refusals. Of a sum that is not the full addition nothing is claimed but the equation.
use Rattle.std.specs.Prelude.{◌≡◌, refl, Bool, true, false, List, [], ◌++◌, ℕ, ◌^◌, ◌≤◌, ◌<◌, leb, length}
use Rattle.std.proofs.Common.{sym, ap, ◌∙◌, subst, arith, leb-true, leb-false}
use Rattle.plain.specs.Answer.{not_as_asked, gives}
use Rattle.numbers.specs.Bytes.{bytes_of}
use Rattle.numbers.specs.Laws.Bytes.{number_fits}
use Rattle.machine.specs.Limits.{memory_length, most_sum}
use Rattle.machine.specs.Fits.{AllBytes}
use Rattle.machine.specs.Run.{After, ended, run_of}
use Rattle.machine.specs.Sum.{sum_of, sum_after, Summed, run_summed}
use Rattle.machine.proofs.Laws.StillBytes.{Still, run-still, tasks-still}
use Rattle.machine.proofs.Laws.Sum.{memory-sum, sum-stays}
use Rattle.machine.proofs.Laws.Summed.{with-taken, with-refused, sum_fits, true-run, true-tasks, bare-tasks}
use Rattle.machine.specs.declared.Machine.{Machine}
use Rattle.image.specs.Loading.{Returned, Read}
use Rattle.host.specs.Handed.{Hands, wrong-length, run, handed_back, sum_handed}
use Rattle.host.specs.Laws.Taken.{read-adds}
use Rattle.state.specs.Lent.{Lent}
use Rattle.demands.specs.Summed.{Runs, over, run-tasks, TrueThroughout}
use Rattle.demands.specs.Summed as chain
use Rattle.demands.proofs.Laws.Filled.{read-fills}
use Rattle.demands.proofs.Theorems.One.{one}

module _ (mem : List ℕ) (m : Machine) (budget sum : ℕ) where
  -- A sum that is taken alters nothing: the run is the run without one, so that the theorems of runs hold of it.
  pub sum-alters-nothing : sum ≤ most_sum → (run_summed mem m budget sum).after ≡ run_of mem m budget
  sum-alters-nothing h = ap (λ (s : Summed). s.after) (with-taken mem m budget sum h)

  -- It is handed back plus what the bytes add up to afterwards, less what they added up to before, modulo 2^32.
  pub sum-equation : sum ≤ most_sum → (run_summed mem m budget sum).sum ≡ sum_after sum mem (run_summed mem m budget sum).after.memory
  sum-equation h = rw (with-taken mem m budget sum h)

  -- A sum above the most is answered 2, with no step and no cycle, and memory, machine and sum are as they were handed in.
  pub sum-refused : most_sum < sum → run_summed mem m budget sum ≡ record { after = ended not_as_asked mem m 0 0; sum = sum }
  sum-refused h = with-refused mem m budget sum h

  -- So it is with every answer 2, whatever it is for.
  pub two-keeps-sum : (run_summed mem m budget sum).after.ran.answer ≡ not_as_asked →
      run_summed mem m budget sum ≡ record { after = ended not_as_asked mem m 0 0; sum = sum }
  two-keeps-sum two = go (leb sum most_sum) refl
    where
      go : (b : Bool) → leb sum most_sum ≡ b → run_summed mem m budget sum ≡ record { after = ended not_as_asked mem m 0 0; sum = sum }
      go true e =
          let low = leb-true sum most_sum e in
          let is = ap (λ (a : After). a.ran.answer) (sum-alters-nothing low) in
          let same = ((one mem m budget).untouched (sym is ∙ two)).1 in
          let stays = ap (λ (a : After). sum_after sum mem a.memory) same ∙ sum-stays sum mem (omega arith) in
          with-taken mem m budget sum low ∙ (λ i. record { after = same i; sum = stays i })
      go false e = sum-refused (leb-false sum most_sum e)

-- A sum that is the full addition before a run is so after it, whatever its answer.
pub true-after-run : (mem : List ℕ) (m : Machine) (budget sum : ℕ) → AllBytes mem → sum ≡ sum_of mem →
    (run_summed mem m budget sum).sum ≡ sum_of (run_summed mem m budget sum).after.memory
true-after-run = true-run

-- So it is through any number of runs and refusals. It never passes the most, and no run is refused for it.
pub true-throughout : {mem : List ℕ} {sum : ℕ} → AllBytes mem → length mem ≡ memory_length → sum ≡ sum_of mem → (runs : Runs mem sum) → TrueThroughout runs
true-throughout {mem} {sum} bytes long is over =
    let most = memory-sum mem bytes long in
    record { added = is; within = omega arith }
true-throughout {mem} {sum} bytes long is (chain.run m budget later) =
    let most = memory-sum mem bytes long in
    let low : sum ≤ most_sum = omega arith in
    let same = sum-alters-nothing mem m budget sum low in
    let still = subst (λ (a : After). Still mem a.memory) (sym same) (run-still mem m budget bytes) in (
      record { added = is; within = low },
      same,
      true-throughout still.bytes (still.same_length ∙ long) (true-after-run mem m budget sum bytes is) later,
    )
true-throughout {mem} {sum} bytes long is (run-tasks tasks quantum budget runs later) =
    let most = memory-sum mem bytes long in
    let low : sum ≤ most_sum = omega arith in
    let bare = bare-tasks runs low in
    let still = tasks-still bytes bare in (
      record { added = is; within = low },
      bare,
      true-throughout still.bytes (still.same_length ∙ long) (true-tasks bytes is runs) later,
    )

-- And from the reader on: what a good image fills, with the sum that the reader hands out.
pub true-from-reader : {file before after : List ℕ} {returned : Returned} → Read file before after returned → returned.says ≡ gives tt →
    (runs : Runs after returned.sum) → TrueThroughout runs
true-from-reader is good runs = let fills = read-fills is good in true-throughout fills.0 fills.1 (read-adds is good) runs

-- what a result tells is the sum that was handed back
told : (s : Summed) → s.sum < 2 ^ 64 → sum_handed (handed_back s) ≡ s.sum
unfolding Rattle.state.specs.Parts.field_bytes
told s small =
    let ran = s.after.ran in
    number_fits 8 s.sum (bytes_of 8 ran.answer ++ (bytes_of 8 ran.steps.0 ++ bytes_of 8 ran.cycles.0)) [] 24 refl small

-- For hosts that hold the machine as bytes: where the sum that a call was given is the full addition of its memory, the sum in its
-- result's bytes is the full addition of the memory that it hands back.
pub true-after-call : (state memory : List ℕ) (budget sum : ℕ) (result : List ℕ) (handed : Lent) → AllBytes memory → sum < 2 ^ 64 → sum ≡ sum_of memory →
    Hands state memory budget sum result handed → handed.number ≡ 0 → sum_handed handed ≡ sum_of handed.memory
true-after-call state memory budget sum result handed bytes small is (wrong-length h) zero = absurd (omega arith)
true-after-call state memory budget sum result handed bytes small is (run m all long fits spells kept) zero =
    told (run_summed memory m budget sum) (sum_fits memory m budget sum small) ∙ true-after-run memory m budget sum bytes is
