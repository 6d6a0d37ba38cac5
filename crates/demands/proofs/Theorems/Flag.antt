-- The extend flag: moved by the codes that are named, and by no other.
use Rattle.std.specs.Prelude.{◌≡◌, refl, ℕ, T}
use Rattle.std.proofs.Common.{ap, ◌∙◌}
use Rattle.machine.specs.Codes.{entry_at}
use Rattle.machine.specs.Fetch.{instruction_at}
use Rattle.machine.specs.Step.{done, step_of}
use Rattle.machine.proofs.Laws.Passed.{step-done}
use Rattle.machine.proofs.Laws.Told.{fair}
use Rattle.machine.specs.declared.Machine.{Machine}
use Rattle.machine.specs.declared.Reach.{Reach}
use Rattle.demands.specs.History.{World, code_at, step, enters, host, others, History, here, then}
use Rattle.demands.specs.Flag.{movers, moves, NoneMoves, all_move}
use Rattle.demands.proofs.Laws.Flag.{listed}

-- A step of any other code leaves the flag as it was.
pub flag-kept : (reach : Reach) (w v : World) (k : ℕ) → step_of reach w.memory w.machine ≡ done v.memory v.machine k →
    (T (moves (code_at w) movers) → ⊥) → v.machine.flag ≡ w.machine.flag
unfolding instruction_at
flag-kept reach w v k e other =
    ap (λ (m : Machine). m.flag) (step-done reach w.memory w.machine v.memory v.machine k e).machine ∙
    (fair (instruction_at reach w.memory w.machine.counter) w.memory w.machine (entry_at (code_at w)).op
    ).flag-kept (λ m. other (listed (code_at w) (entry_at (code_at w)).op refl m))

-- So over any history without them it stays as it was.
pub flag-stays : {w v : World} (h : History w v) → NoneMoves h → v.machine.flag ≡ w.machine.flag
flag-stays here none = refl
flag-stays {w} (then {u = u} (step reach k e) rest) none = flag-stays rest none.1 ∙ flag-kept reach w u k e none.0
flag-stays (then (enters n e kept is) rest) none = flag-stays rest none ∙ ap (λ (m : Machine). m.flag) is
flag-stays (then (host mask waiting e) rest) none = flag-stays rest none ∙ ap (λ (m : Machine). m.flag) e
flag-stays (then (others e) rest) none = flag-stays rest none ∙ ap (λ (m : Machine). m.flag) e

-- And each of them moves it in some state.
pub flag-moves : T (all_move movers)
unfolding Rattle.plain.specs.Zeros.padded Rattle.machine.specs.State.machine_with
    Rattle.links.specs.Fresh.fresh_links Rattle.links.specs.Fresh.fresh_frame Rattle.links.specs.Fresh.fresh_level Rattle.links.specs.Actions.no_locals
    Rattle.machine.specs.Step.step_of Rattle.machine.specs.Step.carried Rattle.machine.specs.Fetch.instruction_at Rattle.machine.specs.Reach.bar_of
    Rattle.machine.specs.Rows.row_of Rattle.machine.specs.Codes.entry_at Rattle.machine.specs.Codes.table
    Rattle.word.specs.Dispatch.two_cells_of
flag-moves = tt
