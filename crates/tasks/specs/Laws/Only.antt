-- No second answer: two answers, with every buffer, that meet the promise are equal.
use Rattle.std.specs.Prelude.{List, ◌≡◌, refl, ℕ}
use Rattle.std.proofs.Common.{sym, subst, ◌∙◌}
use Rattle.machine.specs.Tasks.{Task}
use Rattle.machine.specs.Sum.{RunsTasksSummed}
use Rattle.machine.proofs.Laws.Summed.{only-summed}
use Rattle.state.specs.Laws.Spelling.{tasks-sound}
use Rattle.state.specs.Lent.{Lent}
use Rattle.tasks.specs.Handed.{HandsTasks, wrong-length, run, handed_back}

pub only-handed : (tasks memory : List ℕ) (quantum budget sum : ℕ) (result : List ℕ) (a b : Lent)
    → HandsTasks tasks memory quantum budget sum result a → HandsTasks tasks memory quantum budget sum result b → a ≡ b
only-handed tasks memory quantum budget sum result a b (wrong-length h) (wrong-length k) = refl
only-handed tasks memory quantum budget sum result a b (wrong-length h) (run four end left all long fits is runs kept) = absurd (h (all, long))
only-handed tasks memory quantum budget sum result a b (run four end left all long fits is runs kept) (wrong-length k) = absurd (k (all, long))
only-handed tasks memory quantum budget sum result a b (run four end left all long fits is runs kept) (run other last remains also too fit same ran carried) =
    let one : four ≡ other = tasks-sound.only four other fits fit (is ∙ sym same) in
    let alike = only-summed (subst (λ (x : List Task). RunsTasksSummed memory x quantum budget sum end left) one runs) ran in
    λ i. handed_back (alike.0 i) (alike.1 i)
