-- Histories by computation: so many steps from a world, where a test says that all of them are carried out.
use Rattle.std.specs.Prelude.{◌≡◌, refl, List, Bool, true, false, ℕ, zero, suc, T, ltb, eqb}
use Rattle.std.proofs.Common.{ap, ◌∙◌, subst, ltb→lt}
use Rattle.plain.specs.Choice.{both, not}
use Rattle.plain.specs.Laws.Choice.{both-parts}
use Rattle.machine.specs.Reach.{alone}
use Rattle.machine.specs.Step.{Stepped, refused, done, step_of}
use Rattle.machine.specs.Lines.{none, lowest_due, let_in}
use Rattle.machine.specs.Run.{Manner, manner_of, run_from, run_of, acceptable}
use Rattle.demands.specs.History.{World, world, world_after, code_at, pointer_e, Moment, Resets, step, host, History, here, then, StaysAbove}
use Rattle.demands.specs.Walk.{reached, ahead, walk}
use Rattle.demands.proofs.Theorems.Two.{starts, spends, goes_on}
use Rattle.demands.proofs.Laws.Unentered.{without-lines}

-- the step at a world, and whether it is carried out
abbrev pub step_at : World → Stepped
step_at w = step_of alone w.memory w.machine

abbrev pub is_done : Stepped → Bool
is_done (refused number) = false
is_done (done memory machine k) = true

abbrev pub cost_of_step : Stepped → ℕ
cost_of_step (refused number) = 0
cost_of_step (done memory machine k) = k

is-step : (w : World) (s : Stepped) → T (is_done s) → s ≡ done (reached w s).memory (reached w s).machine (cost_of_step s)
is-step w (refused number) t = absurd t
is-step w (done memory machine k) t = refl

pub ahead_step : (w : World) → T (is_done (step_at w)) → step_at w ≡ done (ahead w).memory (ahead w).machine (cost_of_step (step_at w))
ahead_step w t = is-step w (step_at w) t

-- n steps are carried out
unfoldable pub goes : ℕ → World → Bool
goes zero w = true
goes (suc n) w = both (is_done (step_at w)) (goes n (ahead w))

-- so a run of n that no line may enter leaves what a walk of n steps does
abbrev unlined : Manner
unlined = manner_of false false

walk-rest : (n : ℕ) (w : World) (steps cycles : ℕ) → T (goes n w) → world_after (run_from alone unlined n w.memory w.machine steps cycles) ≡ walk n w
unfolding goes walk let_in
walk-rest zero w steps cycles t = ap world_after (spends alone unlined w.memory w.machine steps cycles)
walk-rest (suc n) w steps cycles t =
    let p = both-parts (is_done (step_at w)) (goes n (ahead w)) t in
    ap world_after (goes_on alone unlined w.memory w.machine steps cycles n (ahead w).memory (ahead w).machine _ refl (ahead_step w p.0)) ∙
    walk-rest n (ahead w) (suc steps) _ p.1

pub run-walks : (n : ℕ) (w : World) → acceptable w.memory w.machine n ≡ true → lowest_due w.machine.lines ≡ none → T (goes n w) →
    world_after (run_of w.memory w.machine n) ≡ walk n w
run-walks n w ok quiet t =
    ap world_after (starts w.memory w.machine n ok ∙ without-lines alone false n w.memory w.machine 0 0 quiet) ∙ walk-rest n w 0 0 t

-- n steps with E above the limit from the first to the last
unfoldable pub calm : ℕ → ℕ → World → Bool
calm limit zero w = ltb limit (pointer_e w)
calm limit (suc n) w = both (ltb limit (pointer_e w)) (both (is_done (step_at w)) (calm limit n (ahead w)))

pub record Walked (limit : ℕ) (w v : World) : Type 0 where
  pub history : History w v
  pub above : StaysAbove limit history

abbrev pub ahead-moment : (w : World) → T (is_done (step_at w)) → Moment w (ahead w)
ahead-moment w t = step alone _ (ahead_step w t)

-- it is no RESETSP
pub not-reset : (w : World) (t : T (is_done (step_at w))) → T (not (eqb (code_at w) 0x0C)) → Resets (ahead-moment w t) → ⊥
not-reset w t other resets = subst (λ (n : ℕ). T (not (eqb n 0x0C))) resets other

pub walked : (limit n : ℕ) (w : World) → T (calm limit n w) → Walked limit w (walk n w)
unfolding calm walk
walked limit zero w t = record { history = here; above = ltb→lt limit (pointer_e w) t }
walked limit (suc n) w t =
    let p = both-parts (ltb limit (pointer_e w)) _ t in
    let q = both-parts (is_done (step_at w)) _ p.1 in
    let rest = walked limit n (ahead w) q.1 in
    record {
      history = then (ahead-moment w q.0) rest.history;
      above = (ltb→lt limit (pointer_e w) p.0, rest.above);
    }

-- one walk, the host's change of memory, and one more walk
pub host-between : (limit : ℕ) {w u v : World} (memory : List ℕ) (h : History w u) → StaysAbove limit h →
    Walked limit (world memory u.machine) v → Walked limit w v
host-between limit memory here above rest =
    record { history = then (host _ _ refl) rest.history; above = (above, rest.above) }
host-between limit memory (then m h) above rest =
    let more = host-between limit memory h above.1 rest in
    record { history = then m more.history; above = (above.0, more.above) }
