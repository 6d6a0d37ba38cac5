-- While the exception level of a CATCH stands: one more moment leaves it standing, is a RESETSP, or brings the machine back.
use Rattle.std.specs.Prelude.{◌⊎◌, ◌≡◌, refl, true, List, ℕ, suc, ◌+◌, ◌-◌, ◌%◌, ◌^◌, ◌≤◌, length}
use Rattle.std.proofs.Common.{inl, inr, ⊎_elim, sym, ◌∙◌, arith, ltb-false}
use Rattle.std.proofs.Math.Path.{ap, subst}
use Rattle.std.proofs.lemmas.Bool.{eqb-false}
use Rattle.links.specs.Actions.{Act, call, catch, exit, throw, reset, act}
use Rattle.links.specs.Allowed.{Allowed}
use Rattle.links.specs.Restored.{Restored}
use Rattle.links.proofs.Laws.Stands.{Stands, thrown_p, Gone, by-reset, by-exit as links-exit, by-pop as links-pop, by-throw as links-throw}
use Rattle.links.proofs.Laws.Standing.{caught, next}
use Rattle.links.specs.declared.Links.{Links}
use Rattle.machine.specs.Codes.{Link, R>, RESETSP, THROW, EXIT, RTI, Op, LINK, entry_at, table}
use Rattle.machine.specs.Lines.{line, entering, entered_by}
use Rattle.machine.specs.State.{Whole}
use Rattle.machine.specs.Fetch.{instruction, instruction_at}
use Rattle.machine.specs.Rows.{Row, row_of, top}
use Rattle.machine.specs.Step.{done, step_of, put, row_at, tests_at}
use Rattle.machine.proofs.Laws.Clash.{never}
use Rattle.machine.proofs.Laws.Lines.{enters as line-enters}
use Rattle.machine.proofs.Laws.Passed.{step-done, passed-at}
use Rattle.machine.proofs.Laws.Marks.{code_of, marked}
use Rattle.machine.proofs.Laws.Told.{Tells}
use Rattle.machine.proofs.Laws.Kept.{Steady, Fine, step-steady, let-in-steady, fair-at}
use Rattle.machine.proofs.Laws.Acts.{step-acts}
use Rattle.machine.specs.declared.Machine.{Machine}
use Rattle.machine.specs.declared.Reach.{Reach}
use Rattle.demands.specs.History.{World, code_at, Moment, step, enters, host, others, Resets}
use Rattle.demands.specs.Back.{Way, by-exit, by-return, by-throw, by-pop, Back}
use Rattle.demands.proofs.Laws.Histories.{entered, host-kept}
use Rattle.demands.proofs.Laws.Views.{frame-in-view, level-in-view}
use Rattle.demands.proofs.Laws.Tops.{top-after}

-- the machine is whole, and well formed but for mask and requests, and what the CATCH at o pushed stands; there P counted the address
pub record Stood (o w : World) : Type 0 where
  pub whole : Whole w.machine
  pub steady : Steady w.machine
  pub counted : 1 ≤ o.machine.p
  pub stands : Stands o.machine.links (o.machine.p - 1) w.machine.links

-- an instruction under a reach
module _ (reach : Reach) where
  -- the instruction at the counter, its row, its action, and what that tells
  abbrev op_at : World → Op
  op_at w = (entry_at (instruction_at reach w.memory w.machine.counter).code).op

  abbrev row_here : World → Row
  row_here w = row_at reach w.memory w.machine

  abbrev link_at : World → Act
  link_at w = (row_here w).link

  abbrev TellsAt : World → Act → Type 0
  TellsAt w a = Tells (instruction_at reach w.memory w.machine.counter) w.machine (op_at w) (row_here w) a

  code-at : (w : World) (o : Link) → op_at w ≡ LINK o → code_at w ≡ code_of o
  unfolding instruction_at
  code-at w o is = marked (code_at w) o is

  -- CATCH's action, and that its address is there to take
  catch-link : (w : World) → code_at w ≡ 0x0B → link_at w ≡ catch ((w.machine.counter + 1) % 2 ^ 32) (w.machine.p - 1)
  unfolding instruction_at entry_at table row_of
  catch-link w e =
      ap
      (λ (c : ℕ). (row_of (instruction c (entry_at c) reach w.memory w.machine.counter) w.memory w.machine (entry_at c).op).link)
      e

  catch-counted : (w v : World) (k : ℕ) → code_at w ≡ 0x0B → step_of reach w.memory w.machine ≡ done v.memory v.machine k → 1 ≤ w.machine.p
  unfolding instruction_at entry_at table
  catch-counted w v k is e =
      let d = step-done reach w.memory w.machine v.memory v.machine k e in
      let five = passed-at 5 (tests_at reach w.memory w.machine) d.passed in
      subst (λ (c : ℕ). (entry_at c).takes ≤ w.machine.p) is (ltb-false w.machine.p (entry_at (code_at w)).takes five)

  -- a CATCH that is carried out makes it stand
  pub catch-stood : (o w : World) (k : ℕ) → Whole o.machine → Steady o.machine → code_at o ≡ 0x0B →
      step_of reach o.memory o.machine ≡ done w.memory w.machine k → Stood o w
  catch-stood o w k whole steady is e =
      let g = step-steady reach o.memory o.machine w.memory w.machine k whole steady e in
      let a = step-acts reach o.memory o.machine w.memory w.machine k steady e in
      let link = catch-link o is in
      let l = o.machine.links in
      let p = o.machine.p - 1 in
      let ok = subst (λ (b : Act). Allowed b l) link a.allowed in
      record {
        whole = g.whole;
        steady = g.steady;
        counted = catch-counted o w k is e;
        stands =
            subst (λ (x : Links). Stands l p x) (sym a.acted)
            (subst (λ (b : Act). Stands l p (act b l)) (sym link) (caught l _ p whole.shaped steady.sound ok));
      }

  -- one more instruction
  module _ (o w v : World) (k : ℕ) (s : Stood o w) (e : step_of reach w.memory w.machine ≡ done v.memory v.machine k) where
    fine : Fine w.memory v.memory v.machine
    fine = step-steady reach w.memory w.machine v.memory v.machine k s.whole s.steady e

    is-put : v.machine ≡ put (row_here w) w.machine
    is-put = (step-done reach w.memory w.machine v.memory v.machine k e).machine

    -- after a throw
    thrown : TellsAt w throw → thrown_p w.machine.links ≡ suc (o.machine.p - 1) → Way o w v
    thrown t same =
        let r = row_here w in
        let p-is : v.machine.p ≡ r.keeps + length r.puts = ap (λ (m : Machine). m.p) is-put in
        let one : length r.puts ≡ 1 = ap (λ (xs : List ℕ). length xs) t.1.code_put in
        by-throw (code-at w THROW t.0) (eqb-false (top w.machine) 0 t.1.non_zero) (omega (arith, t.1.to-copy, s.counted))
        (top-after reach w v k s.whole s.steady e (top w.machine) t.1.code_put)

    back : Restored o.machine.links v.machine.links → Way o w v → Back o w v
    back restored way =
        record {
          restored = restored;
          locals-back = frame-in-view o.machine.links v.machine.links restored;
          cells-back = level-in-view o.machine.links v.machine.links restored;
          way = way;
        }

    left : TellsAt w exit → Way o w v
    left (inl is) = by-exit (code-at w EXIT is)
    left (inr (is, some)) = by-return (code-at w RTI is)

    gone : (a : Act) → v.machine.links ≡ act a w.machine.links → TellsAt w a →
        Gone o.machine.links (o.machine.p - 1) w.machine.links a → (code_at w ≡ 0x0C) ⊎ Back o w v
    gone a is t by-reset = inl (code-at w RESETSP t)
    gone a is t (links-exit r) = inr (back (subst (λ (x : Links). Restored o.machine.links x) (sym is) r) (left t))
    gone a is t (links-pop r) = inr (back (subst (λ (x : Links). Restored o.machine.links x) (sym is) r) (by-pop (code-at w R> t.0)))
    gone a is t (links-throw r same) = inr (back (subst (λ (x : Links). Restored o.machine.links x) (sym is) r) (thrown t same))

    step-next : Stood o v ⊎ ((code_at w ≡ 0x0C) ⊎ Back o w v)
    step-next =
        let acts = step-acts reach w.memory w.machine v.memory v.machine k s.steady e in
        ⊎_elim
        (λ (h : Stands o.machine.links (o.machine.p - 1) (act (link_at w) w.machine.links)).
        inl (record {
          whole = fine.whole;
          steady = fine.steady;
          counted = s.counted;
          stands = subst (λ (x : Links). Stands o.machine.links (o.machine.p - 1) x) (sym acts.acted) h;
        }))
        (λ h. inr (gone (link_at w) acts.acted (fair-at reach w.memory w.machine).tells h))
        (next o.machine.links (o.machine.p - 1) w.machine.links s.stands (link_at w) acts.allowed)

  -- after a RESETSP E is 0
  reset-link : (w : World) → code_at w ≡ 0x0C → link_at w ≡ reset
  unfolding instruction_at entry_at table row_of
  reset-link w e =
      ap
      (λ (c : ℕ). (row_of (instruction c (entry_at c) reach w.memory w.machine.counter) w.memory w.machine (entry_at c).op).link)
      e

  reset-done : (o w v : World) (k : ℕ) → Stood o w → step_of reach w.memory w.machine ≡ done v.memory v.machine k → code_at w ≡ 0x0C →
      v.machine.links.e ≡ 0
  reset-done o w v k s e is =
      let acts = step-acts reach w.memory w.machine v.memory v.machine k s.steady e in
      ap (λ (l : Links). l.e) acts.acted ∙ ap (λ (a : Act). (act a w.machine.links).e) (reset-link w is)

-- a moment that leaves the links as they were
unaltered : (o w v : World) → Stood o w → Whole v.machine × Steady v.machine → v.machine.links ≡ w.machine.links → Stood o v
unaltered o w v s fine e =
    record {
      whole = fine.0;
      steady = fine.1;
      counted = s.counted;
      stands = subst (λ (l : Links). Stands o.machine.links (o.machine.p - 1) l) (sym e) s.stands;
    }

-- a call drops nothing
not-called : (o : Links) (p : ℕ) (l : Links) (a : Act) → Gone o p l a → (address : ℕ) → a ≡ call address → ⊥
not-called o p l a by-reset address is = never (cc)
not-called o p l a (links-exit r) address is = never (cc)
not-called o p l a (links-pop r) address is = never (cc)
not-called o p l a (links-throw r same) address is = never (cc)

-- and an entry is a call
entry-stands : (o w v : World) (n : ℕ) → Stood o w → entering w.machine ≡ line n → v.machine ≡ entered_by n w.machine → Stood o v
entry-stands o w v n s e is =
    let found = line-enters w.machine n e in
    let from = call w.machine.counter in
    let l = w.machine.links in
    let fine = let-in-steady true w.memory w.machine s.whole s.steady in
    record {
      whole = entered Whole w v n e is fine.whole;
      steady = entered Steady w v n e is fine.steady;
      counted = s.counted;
      stands =
          subst (λ (m : Machine). Stands o.machine.links (o.machine.p - 1) m.links) (sym is)
          (⊎_elim (λ stands. stands)
          (λ gone. absurd (not-called o.machine.links (o.machine.p - 1) l from gone w.machine.counter refl))
          (next o.machine.links (o.machine.p - 1) l s.stands from (found.r-room, found.s-room)));
    }

-- one more moment
pub moment-next : (o w v : World) → Stood o w → (moment : Moment w v) → Stood o v ⊎ (Resets moment ⊎ Back o w v)
moment-next o w v s (step reach k e) = step-next reach o w v k s e
moment-next o w v s (enters n e kept is) = inl (entry-stands o w v n s e is)
moment-next o w v s (host mask waiting e) =
    inl (unaltered o w v s (host-kept w v mask waiting e s.whole s.steady) (ap (λ (m : Machine). m.links) e))
moment-next o w v s (others e) =
    inl (unaltered o w v s (subst Whole (sym e) s.whole, subst Steady (sym e) s.steady) (ap (λ (m : Machine). m.links) e))

pub reset-down : (o w v : World) → Stood o w → (moment : Moment w v) → Resets moment → v.machine.links.e ≡ 0
reset-down o w v s (step reach k e) is = reset-done reach o w v k s e is
reset-down o w v s (enters n e kept at) is = absurd is
reset-down o w v s (host mask waiting e) is = absurd is
reset-down o w v s (others e) is = absurd is
