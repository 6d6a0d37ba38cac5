-- No second answer: what two runs of the same tasks leave is equal, every byte, every task and every count.
use Rattle.std.specs.Prelude.{◌≡◌, refl, List, ℕ}
use Rattle.std.proofs.Common.{subst, arith}
use Rattle.machine.proofs.Laws.Clash.{never, clash}
use Rattle.machine.specs.Tasks.{Task, Between, TasksAfter, after_turn, turn_of, TurnsFrom, spent, idle, turn, tasks_acceptable, RunsTasks, declined, ran}

-- the turns from one place on
pub only-turns : {quantum : ℕ} {b : Between} {x y : TasksAfter} → TurnsFrom quantum b x → TurnsFrom quantum b y → x ≡ y
only-turns (spent e) (spent e') = refl
only-turns (spent e) (idle some none) = absurd (omega arith)
only-turns (spent e) (turn t some is rest) = absurd (omega arith)
only-turns (idle some none) (spent e) = absurd (omega arith)
only-turns (idle some none) (idle some' none') = refl
only-turns (idle some none) (turn t some' is rest) = never (cc)
only-turns (turn t some is rest) (spent e) = absurd (omega arith)
only-turns (turn t some is rest) (idle some' none) = never (cc)
only-turns {quantum} {b} {x} {y} (turn t some is rest) (turn u some' is' rest') =
    let same : u ≡ t = cc in
    only-turns rest (subst (λ (v : ℕ). TurnsFrom quantum (after_turn b v (turn_of quantum b v)) y) same rest')

pub only-run : (mem : List ℕ) (tasks : List Task) (quantum budget : ℕ) (x y : TasksAfter) → RunsTasks mem tasks quantum budget x →
    RunsTasks mem tasks quantum budget y → x ≡ y
only-run mem tasks quantum budget x y (declined bad) (declined bad') = refl
only-run mem tasks quantum budget x y (declined bad) (ran good rest) = clash (tasks_acceptable mem tasks quantum budget) good bad
only-run mem tasks quantum budget x y (ran good rest) (declined bad) = clash (tasks_acceptable mem tasks quantum budget) good bad
only-run mem tasks quantum budget x y (ran good rest) (ran good' rest') = only-turns rest rest'
