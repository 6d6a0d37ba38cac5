-- Where it was thrown: over any history a machine notes the last THROW of non-zero that was carried out, and nothing else.
use Rattle.std.specs.Prelude.{◌≡◌, refl, Bool, true, false, ℕ, eqb}
use Rattle.std.proofs.Common.{ap, ◌∙◌, eqb-true}
use Rattle.std.proofs.lemmas.Bool.{eqb-false}
use Rattle.plain.specs.Choice.{pick, both, not}
use Rattle.machine.specs.Rows.{top}
use Rattle.machine.specs.Step.{done, step_of}
use Rattle.machine.proofs.Laws.Noted.{noted-kept}
use Rattle.machine.proofs.Laws.Readings.{throw-leaves}
use Rattle.machine.specs.declared.LastThrow.{LastThrow}
use Rattle.machine.specs.declared.Machine.{Machine}
use Rattle.machine.specs.declared.Reach.{Reach}
use Rattle.demands.specs.History.{World, code_at, step, enters, host, others, History, here, then}
use Rattle.demands.specs.Thrown.{throws_at, throw_at, last_throw, NoneThrows}

-- A step notes its own address and the number thrown where it is a THROW of non-zero, and else keeps what was noted.
pub step-noted : (reach : Reach) (w v : World) (k : ℕ) → step_of reach w.memory w.machine ≡ done v.memory v.machine k →
    v.machine.thrown ≡ pick (throws_at w) (throw_at w) w.machine.thrown
step-noted reach w v k e = go (eqb (code_at w) 0x0D) (eqb (top w.machine) 0) refl refl
  where
    kept : (code_at w ≡ 0x0D → top w.machine ≡ 0) → v.machine.thrown ≡ w.machine.thrown
    kept = noted-kept reach w.memory w.machine v.memory v.machine k e

    go : (throws zero : Bool) → eqb (code_at w) 0x0D ≡ throws → eqb (top w.machine) 0 ≡ zero →
        v.machine.thrown ≡ pick (both throws (not zero)) (throw_at w) w.machine.thrown
    go true false is other =
        let left = throw-leaves reach w.memory w.machine v.memory v.machine k e (eqb-true (code_at w) 0x0D is) (eqb-false (top w.machine) 0 other) in
        λ i. record { address = left.address-noted i; code = left.code-noted i }
    go true true is zero = kept (λ h. eqb-true (top w.machine) 0 zero)
    go false zero another is = kept (λ h. absurd (eqb-false (code_at w) 0x0D another h))

-- So after any history it is the last THROW of non-zero in it, or the one before where there was none.
pub last-noted : {w v : World} (h : History w v) → v.machine.thrown ≡ last_throw h w.machine.thrown
last-noted here = refl
last-noted {w} (then {u = u} (step reach k e) rest) = last-noted rest ∙ ap (last_throw rest) (step-noted reach w u k e)
last-noted (then (enters n e kept is) rest) = last-noted rest ∙ ap (λ (m : Machine). last_throw rest m.thrown) is
last-noted (then (host mask waiting e) rest) = last-noted rest ∙ ap (λ (m : Machine). last_throw rest m.thrown) e
last-noted (then (others e) rest) = last-noted rest ∙ ap (λ (m : Machine). last_throw rest m.thrown) e

none_last : {w v : World} (h : History w v) → NoneThrows h → (before : LastThrow) → last_throw h before ≡ before
none_last here none before = refl
none_last {w} (then (step reach k e) rest) none before =
    ap (λ (b : Bool). last_throw rest (pick b (throw_at w) before)) none.0 ∙ none_last rest none.1 before
none_last (then (enters n e kept is) rest) none before = none_last rest none before
none_last (then (host mask waiting e) rest) none before = none_last rest none before
none_last (then (others e) rest) none before = none_last rest none before

-- A history without one leaves what was noted, whatever it calls, catches, exits, resets or is refused.
pub noted-stays : {w v : World} (h : History w v) → NoneThrows h → v.machine.thrown ≡ w.machine.thrown
noted-stays {w} h none = last-noted h ∙ none_last h none w.machine.thrown

-- And a THROW of non-zero at o that is carried out is what is noted, however much happens after it without another.
pub noted-last : {v : World} (reach : Reach) (o u : World) (k : ℕ) → step_of reach o.memory o.machine ≡ done u.memory u.machine k →
    throws_at o ≡ true → (after : History u v) → NoneThrows after → v.machine.thrown ≡ throw_at o
noted-last reach o u k e throws after none =
    noted-stays after none ∙ (step-noted reach o u k e ∙ ap (λ (b : Bool). pick b (throw_at o) o.machine.thrown) throws)
