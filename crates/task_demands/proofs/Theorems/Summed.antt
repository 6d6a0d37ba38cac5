-- The memory sum of four tasks: one serves all of them, and stands by the same theorems as the sum of a single run.
use Rattle.std.specs.Prelude.{◌≡◌, refl, List, ℕ, ◌≤◌, ◌<◌, length}
use Rattle.std.proofs.Common.{arith, leb-true, leb-false}
use Rattle.plain.specs.Answer.{not_as_asked}
use Rattle.machine.specs.Limits.{memory_length, most_sum}
use Rattle.machine.specs.Fits.{AllBytes}
use Rattle.machine.specs.Sum.{sum_of, sum_after, RunsTasksSummed, sum-declined, sum-taken}
use Rattle.machine.specs.Tasks.{Task, Between, TasksAfter, ended_at, start_of, TurnsFrom, spent, idle, turn, RunsTasks, declined, ran}
use Rattle.machine.proofs.Laws.Sum.{sum-stays}
use Rattle.machine.proofs.Laws.Summed.{true-tasks, bare-tasks}
use Rattle.demands.specs.Summed.{TrueSum, over, run-tasks}
use Rattle.demands.proofs.Theorems.Summed.{true-throughout}

-- turns never end with 2
turns-answer : {quantum : ℕ} {b : Between} {end : TasksAfter} → TurnsFrom quantum b end → end.answer ≤ 1
turns-answer (spent e) = omega arith
turns-answer (idle some none) = omega arith
turns-answer (turn t some is rest) = turns-answer rest

module _ {mem : List ℕ} {tasks : List Task} {quantum budget sum : ℕ} where
  -- A sum that is taken alters nothing: the run is the run without one.
  pub sum-alters-nothing : {end : TasksAfter} {left : ℕ} → RunsTasksSummed mem tasks quantum budget sum end left → sum ≤ most_sum → RunsTasks mem tasks quantum budget end
  sum-alters-nothing run low = bare-tasks run low

  -- It is handed back by the same equation, over the turns of all tasks.
  pub sum-equation : {end : TasksAfter} {left : ℕ} → RunsTasksSummed mem tasks quantum budget sum end left → sum ≤ most_sum → left ≡ sum_after sum mem end.memory
  sum-equation (sum-declined above) low = let high = leb-false sum most_sum above in absurd (omega arith)
  sum-equation (sum-taken within runs) low = refl

  -- A sum above the most is answered 2, with no step and no cycle, and memory, tasks and sum are as they were handed in.
  pub sum-refused : {end : TasksAfter} {left : ℕ} → RunsTasksSummed mem tasks quantum budget sum end left → most_sum < sum →
      (end ≡ ended_at not_as_asked (start_of mem tasks budget)) × (left ≡ sum)
  sum-refused (sum-declined above) high = (refl, refl)
  sum-refused (sum-taken within runs) high = let low = leb-true sum most_sum within in absurd (omega arith)

  -- So it is with every answer 2, whatever it is for.
  pub two-keeps-sum : {end : TasksAfter} {left : ℕ} → RunsTasksSummed mem tasks quantum budget sum end left → end.answer ≡ not_as_asked →
      (end ≡ ended_at not_as_asked (start_of mem tasks budget)) × (left ≡ sum)
  two-keeps-sum (sum-declined above) two = (refl, refl)
  two-keeps-sum (sum-taken within (declined bad)) two = let low = leb-true sum most_sum within in (refl, sum-stays sum mem (omega arith))
  two-keeps-sum (sum-taken within (ran good turns)) two = absurd (omega (arith, turns-answer turns))

  -- A sum that is the full addition before a run of tasks is so after it, whatever its answer.
  pub true-after-tasks : {end : TasksAfter} {left : ℕ} → RunsTasksSummed mem tasks quantum budget sum end left → AllBytes mem → sum ≡ sum_of mem → left ≡ sum_of end.memory
  true-after-tasks run bytes is = true-tasks bytes is run

  -- And it does not pass the most, so that no run that follows is refused for it, of tasks or of one machine.
  pub within-most : {end : TasksAfter} {left : ℕ} → RunsTasksSummed mem tasks quantum budget sum end left → AllBytes mem → length mem ≡ memory_length → sum ≡ sum_of mem →
      TrueSum end.memory left
  within-most run bytes long is = (true-throughout bytes long is (run-tasks tasks quantum budget run over)).2
