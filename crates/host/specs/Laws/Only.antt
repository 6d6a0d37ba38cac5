-- No second answer: two answers, with every buffer, that meet the promise are equal.
use Rattle.std.specs.Prelude.{List, ◌≡◌, refl, ℕ}
use Rattle.std.proofs.Common.{sym, ap, ◌∙◌}
use Rattle.machine.specs.Sum.{run_summed}
use Rattle.machine.specs.declared.Machine.{Machine}
use Rattle.state.specs.Laws.Spelling.{state-sound}
use Rattle.host.specs.Handed.{Hands, wrong-length, run, handed_back}
use Rattle.state.specs.Lent.{Lent}

pub only-handed : (state memory : List ℕ) (budget sum : ℕ) (result : List ℕ) (a b : Lent)
    → Hands state memory budget sum result a → Hands state memory budget sum result b → a ≡ b
only-handed state memory budget sum result a b (wrong-length h) (wrong-length k) = refl
only-handed state memory budget sum result a b (wrong-length h) (run n all long fits is left) = absurd (h (all, long))
only-handed state memory budget sum result a b (run m all long fits is left) (wrong-length k) = absurd (k (all, long))
only-handed state memory budget sum result a b (run m all long fits is left) (run n also too fit same remains) =
    ap (λ (x : Machine). handed_back (run_summed memory x budget sum)) (state-sound.only m n fits fit (is ∙ sym same))
