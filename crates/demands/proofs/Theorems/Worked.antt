-- Demand 3 worked through: a call and an inner CATCH between, the host's change of memory, and the level lost by a THROW of the second run.
use Rattle.std.specs.Prelude.{◌≡◌, refl, T, leb, eqb}
use Rattle.std.proofs.Common.{ap, ◌∙◌, eqb→eq, arith}
use Rattle.plain.specs.Choice.{not}
use Rattle.plain.specs.Zeros.{padded}
use Rattle.plain.specs.Laws.Choice.{is_true}
use Rattle.machine.specs.Limits.{memory_length}
use Rattle.machine.specs.State.{fresh_machine, machine_with}
use Rattle.machine.specs.Lines.{none, lowest_due}
use Rattle.machine.specs.Rows.{top}
use Rattle.machine.specs.Run.{run_of, acceptable}
use Rattle.demands.specs.History.{World, world_after, code_at, pointer_e, here, then}
use Rattle.demands.specs.Back.{Way, by-exit, by-return, by-pop, by-throw, Seen}
use Rattle.demands.specs.Walk.{ahead, walk}
use Rattle.demands.specs.Cases.{start, at_catch}
use Rattle.demands.specs.Worked.{code, changed, paused, resumed, last, end}
use Rattle.demands.proofs.Theorems.Cases.{start-accepted, seen}
use Rattle.demands.proofs.Laws.Walks.{step_at, is_done, ahead-moment, goes, run-walks, calm, walked, host-between}

record Holds : Type 0 where
  first : T (is_done (step_at (start code)))
  catches : T (eqb (code_at (at_catch code)) 0x0B)
  carried : T (is_done (step_at (at_catch code)))
  one-calm : T (calm (pointer_e (at_catch code)) 4 (ahead (at_catch code)))
  two-calm : T (calm (pointer_e (at_catch code)) 3 resumed)
  ends : T (is_done (step_at last))
  down : T (leb (pointer_e end) (pointer_e (at_catch code)))
  other : T (not (eqb (code_at last) 0x0C))
  thrown : T (eqb (code_at last) 0x0D)
  nine : T (eqb (top last.machine) 9)
  one-taken : T (acceptable (padded memory_length code) fresh_machine 6)
  two-taken : T (acceptable (padded memory_length changed) paused.machine 4)
  one-quiet : lowest_due (start code).machine.lines ≡ none
  two-quiet : lowest_due resumed.machine.lines ≡ none
  one-goes : T (goes 6 (start code))
  two-goes : T (goes 4 resumed)

holds : Holds
unfolding padded goes calm walk lowest_due fresh_machine machine_with acceptable
    Rattle.machine.specs.State.well_formed Rattle.links.specs.Linked.linked
    Rattle.links.specs.Fresh.fresh_links Rattle.links.specs.Fresh.fresh_frame Rattle.links.specs.Fresh.fresh_level Rattle.links.specs.Actions.no_locals
    Rattle.machine.specs.Step.step_of Rattle.machine.specs.Step.carried Rattle.machine.specs.Fetch.instruction_at Rattle.machine.specs.Reach.bar_of
    Rattle.machine.specs.Rows.row_of Rattle.machine.specs.Codes.entry_at Rattle.machine.specs.Codes.table
holds =
    record {
      first = tt;
      catches = tt;
      carried = tt;
      one-calm = tt;
      two-calm = tt;
      ends = tt;
      down = tt;
      other = tt;
      thrown = tt;
      nine = tt;
      one-taken = tt;
      two-taken = tt;
      one-quiet = refl;
      two-quiet = refl;
      one-goes = tt;
      two-goes = tt;
    }

-- what the outer CATCH pushed is lost by that THROW, and the machine is back
pub worked : Seen (start code) (at_catch code) (ahead (at_catch code)) last end 0x0D
unfolding walk
worked =
    let o = at_catch code in
    let one = walked (pointer_e o) 4 (ahead o) holds.one-calm in
    let two = walked (pointer_e o) 3 resumed holds.two-calm in
    let both_runs = host-between (pointer_e o) (padded memory_length changed) one.history one.above two in
    seen (start-accepted code) (then (ahead-moment (start code) holds.first) here) holds.catches holds.carried both_runs
    holds.ends holds.down holds.other 0x0D holds.thrown

thrown-on-top : (o v z : World) → Way o v z → code_at v ≡ 0x0D → top z.machine ≡ top v.machine
thrown-on-top o v z (by-exit is) e = absurd (omega (arith, is, e))
thrown-on-top o v z (by-return is) e = absurd (omega (arith, is, e))
thrown-on-top o v z (by-pop is) e = absurd (omega (arith, is, e))
thrown-on-top o v z (by-throw is other p on-top) e = on-top

-- with the code 9 on top, where the host changed it
pub worked-code : top end.machine ≡ 9
worked-code = thrown-on-top (at_catch code) last end worked.back.way worked.by ∙ eqb→eq (top last.machine) 9 holds.nine

-- and it ends a second run of 4 steps, after a first of 6
pub first_run : world_after (run_of (padded memory_length code) fresh_machine 6) ≡ paused
first_run = run-walks 6 (start code) (is_true _ holds.one-taken) holds.one-quiet holds.one-goes

pub second_run : world_after (run_of (padded memory_length changed) (world_after (run_of (padded memory_length code) fresh_machine 6)).machine 4) ≡ end
unfolding walk
second_run =
    ap (λ (w : World). world_after (run_of (padded memory_length changed) w.machine 4)) first_run ∙
    run-walks 4 resumed (is_true _ holds.two-taken) holds.two-quiet holds.two-goes
