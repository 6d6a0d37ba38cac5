-- Demand 3: whatever a caught word does, when its CATCH's exception level is gone, unless by RESETSP, the machine is back where it was
-- before the CATCH. However deep the calls and however many the inner CATCHes, over any number of runs, with any entries of interrupt
-- lines, any memory, mask and requests from the host and any turns of other tasks between them.
use Rattle.std.specs.Prelude.{◌⊎◌, ℕ, ◌<◌}
use Rattle.std.proofs.Common.{⊎_elim, arith}
use Rattle.machine.specs.State.{Whole}
use Rattle.machine.proofs.Laws.Kept.{formed, Steady, steady}
use Rattle.demands.specs.History.{World, pointer_e, Resets, History, here, then, StaysAbove, Accepted}
use Rattle.demands.specs.Back.{Loses, Back}
use Rattle.demands.proofs.Laws.Histories.{history-kept}
use Rattle.demands.proofs.Laws.Stood.{Stood, catch-stood, moment-next, reset-down}

first_above : (n : ℕ) {w v : World} (h : History w v) → StaysAbove n h → n < pointer_e w
first_above n here a = a
first_above n (then moment rest) a = a.0

-- what the CATCH pushed stands as long as E is above the old E; so no RESETSP is among those moments
stood-through : (o : World) {w v : World} → Stood o w → (h : History w v) → StaysAbove (pointer_e o) h → Stood o v
stood-through o s here above = s
stood-through o {w} s (then {u = x} moment rest) above =
    let up = first_above (pointer_e o) rest above.1 in
    stood-through o
    (⊎_elim (λ stood. stood)
    (⊎_elim (λ (resets : Resets moment). absurd (omega (arith, reset-down o w x s moment resets, up)))
    (λ (back : Back o w x). absurd (omega (arith, back.restored.same-e, up))))
    (moment-next o w x s moment)) rest above.1

-- mask and waiting requests may be what they like
pub three-from : {a o w v z : World} → Whole a.machine → Steady a.machine → (l : Loses a o w v z) → Resets l.last ⊎ Back o v z
three-from {a} {o} {w} {v} {z} whole well l =
    let h = history-kept l.before whole well in
    let caught = catch-stood l.reach o w l.cost h.0 h.1 l.catches l.carried in
    ⊎_elim (λ (stood : Stood o z). absurd (omega (arith, stood.stands.e-above, l.down))) (λ ends. ends)
    (moment-next o v z (stood-through o caught l.between l.above) l.last)

-- From any state a that a run accepts, through any history, to any CATCH at o that is carried out and leads to w; from there through
-- any history with E above the old E; then the moment that brings E down was a RESETSP, or the machine is back: by EXIT, RTI, THROW of
-- non-zero or R>. This rules out a throw that keeps P too high, a level dropped too early or too late, an inner word that could
-- reach below the CATCH, and a loss of the level by anything else.
pub three : {a o w v z : World} → Accepted a.machine → (l : Loses a o w v z) → Resets l.last ⊎ Back o v z
three {a} start l = three-from start.whole (steady a.machine (formed a.machine start.formed)) l
