-- Demand 3 is about something: each of the ways, three of them on a starred case, by computation.
use Rattle.std.proofs.Common.{⊎_elim, leb→le, eqb→eq}
use Rattle.std.specs.Prelude.{refl, Bool, List, ℕ, T, leb, eqb}
use Rattle.plain.specs.Choice.{not, both}
use Rattle.plain.specs.Laws.Choice.{both-parts}
use Rattle.links.proofs.Laws.Fresh.{fresh-shaped}
use Rattle.machine.specs.Reach.{alone}
use Rattle.demands.specs.History.{World, code_at, pointer_e, History, here, then, Accepted}
use Rattle.demands.specs.Back.{Loses, Seen}
use Rattle.demands.specs.Walk.{ahead, walk}
use Rattle.demands.specs.Cases.{start, ShownFrom, Shown, throws, exits, pops, returns}
use Rattle.demands.proofs.Theorems.Three.{three}
use Rattle.demands.proofs.Laws.Walks.{step_at, is_done, cost_of_step, ahead_step, ahead-moment, not-reset, calm, Walked, walked}

-- a fresh machine is accepted
pub start-accepted : (code : List ℕ) → Accepted (start code).machine
unfolding Rattle.plain.specs.Zeros.padded Rattle.machine.specs.State.fresh_machine Rattle.machine.specs.State.machine_with
    Rattle.machine.specs.State.well_formed Rattle.links.specs.Linked.linked
    Rattle.links.specs.Fresh.fresh_links Rattle.links.specs.Fresh.fresh_frame Rattle.links.specs.Fresh.fresh_level Rattle.links.specs.Actions.no_locals
start-accepted code = record { whole = record { cells-long = refl; shaped = fresh-shaped }; formed = refl }

returns-accepted : Accepted returns.machine
unfolding Rattle.plain.specs.Zeros.padded Rattle.machine.specs.State.fresh_machine Rattle.machine.specs.State.machine_with
    Rattle.machine.specs.State.well_formed Rattle.links.specs.Linked.linked
    Rattle.links.specs.Fresh.fresh_links Rattle.links.specs.Fresh.fresh_frame Rattle.links.specs.Fresh.fresh_level Rattle.links.specs.Actions.no_locals
returns-accepted = record { whole = record { cells-long = refl; shaped = fresh-shaped }; formed = refl }

-- a loss by computation
pub seen : {a o v : World} → Accepted a.machine → History a o → T (eqb (code_at o) 0x0B) → T (is_done (step_at o)) →
    Walked (pointer_e o) (ahead o) v → T (is_done (step_at v)) → T (leb (pointer_e (ahead v)) (pointer_e o)) →
    T (not (eqb (code_at v) 0x0C)) → (way : ℕ) → T (eqb (code_at v) way) → Seen a o (ahead o) v (ahead v) way
seen {a} {o} {v} accepted before catches carried between goes down other way is =
    let l : Loses a o (ahead o) v (ahead v) =
    record {
      before = before;
      catches = eqb→eq (code_at o) 0x0B catches;
      reach = alone;
      cost = cost_of_step (step_at o);
      carried = ahead_step o carried;
      between = between.history;
      above = between.above;
      last = ahead-moment v goes;
      down = leb→le (pointer_e (ahead v)) (pointer_e o) down;
    } in
    record {
      accepted = accepted;
      loses = l;
      by = eqb→eq (code_at v) way is;
      back = ⊎_elim (λ resets. absurd (not-reset v goes other resets)) (λ back. back) (three accepted l);
    }

unfoldable loses : World → ℕ → ℕ → Bool
loses a n way =
    let o = ahead a in
    let v = walk n (ahead o) in
    both (is_done (step_at a))
    (both (eqb (code_at o) 0x0B)
    (both (is_done (step_at o))
    (both (calm (pointer_e o) n (ahead o))
    (both (is_done (step_at v))
    (both (leb (pointer_e (ahead v)) (pointer_e o))
    (both (not (eqb (code_at v) 0x0C)) (eqb (code_at v) way)))))))

shown : (a : World) (n way : ℕ) → Accepted a.machine → T (loses a n way) → ShownFrom a n way
unfolding loses
shown x n way accepted t =
    let o = ahead x in
    let v = walk n (ahead o) in
    let a = both-parts (is_done (step_at x)) _ t in
    let b = both-parts (eqb (code_at o) 0x0B) _ a.1 in
    let c = both-parts (is_done (step_at o)) _ b.1 in
    let d = both-parts (calm (pointer_e o) n (ahead o)) _ c.1 in
    let e = both-parts (is_done (step_at v)) _ d.1 in
    let f = both-parts (leb (pointer_e (ahead v)) (pointer_e o)) _ e.1 in
    let g = both-parts (not (eqb (code_at v) 0x0C)) _ f.1 in
    let between = walked (pointer_e o) n (ahead o) d.0 in
    seen accepted (then (ahead-moment x a.0) here) b.0 c.0 between e.0 f.0 g.0 way g.1

ways-hold : T (loses (start throws) 1 0x0D) × T (loses (start exits) 0 0x3D) × T (loses (start pops) 0 0x09) × T (loses returns 0 0x3C)
unfolding loses calm walk Rattle.plain.specs.Zeros.padded Rattle.machine.specs.State.fresh_machine Rattle.machine.specs.State.machine_with
    Rattle.links.specs.Fresh.fresh_links Rattle.links.specs.Fresh.fresh_frame Rattle.links.specs.Fresh.fresh_level Rattle.links.specs.Actions.no_locals
    Rattle.machine.specs.Step.step_of Rattle.machine.specs.Step.carried Rattle.machine.specs.Fetch.instruction_at Rattle.machine.specs.Reach.bar_of
    Rattle.machine.specs.Rows.row_of Rattle.machine.specs.Codes.entry_at Rattle.machine.specs.Codes.table
ways-hold = (tt, tt, tt, tt)

pub lost-by-throw : Shown throws 1 0x0D
lost-by-throw = shown (start throws) 1 0x0D (start-accepted throws) ways-hold.0

pub lost-by-exit : Shown exits 0 0x3D
lost-by-exit = shown (start exits) 0 0x3D (start-accepted exits) ways-hold.1

pub lost-by-pop : Shown pops 0 0x09
lost-by-pop = shown (start pops) 0 0x09 (start-accepted pops) ways-hold.2

-- RTI does all that EXIT does
pub lost-by-rti : ShownFrom returns 0 0x3C
lost-by-rti = shown returns 0 0x3C returns-accepted ways-hold.3
