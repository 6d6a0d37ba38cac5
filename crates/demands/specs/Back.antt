-- Demand 3, its words: the loss of what a CATCH pushed, when a machine is back where it was before the CATCH, and how it came there.
use Rattle.std.specs.Prelude.{◌≡◌, ℕ, ◌≤◌}
use Rattle.links.specs.Restored.{Restored}
use Rattle.machine.specs.Rows.{top, locals_in_view, cells_in_view}
use Rattle.machine.specs.Step.{done, step_of}
use Rattle.machine.specs.declared.Reach.{Reach}
use Rattle.demands.specs.History.{World, code_at, pointer_e, Moment, step, History, then, joined, StaysAbove, Accepted}

-- from a, through any history, to a CATCH at o that is carried out and leads to w; from there through any history to v with E above
-- the old E; and then the moment that brings E down, to z
pub record Loses (a o w v z : World) : Type 0 where
  pub before : History a o
  pub catches : code_at o ≡ 0x0B
  pub reach : Reach
  pub cost : ℕ
  pub carried : step_of reach o.memory o.machine ≡ done w.memory w.machine cost
  pub between : History w v
  pub above : StaysAbove (pointer_e o) between
  pub last : Moment v z
  pub down : pointer_e z ≤ pointer_e o

-- all of it as one history, with what comes after
abbrev pub through : {a o w v z b : World} → Loses a o w v z → History z b → History a b
through l after = joined l.before (then (step l.reach l.cost l.carried) (joined l.between (then l.last after)))

-- the instruction at the counter of v, which led to z, is EXIT, RTI (which does all that EXIT does), R> or THROW of non-zero; after a throw P is what it was at o,
-- before the CATCH, and the code thrown is on top
pub data Way (o v z : World) : Type 0 where
  by-exit : code_at v ≡ 0x3D → Way o v z
  by-return : code_at v ≡ 0x3C → Way o v z
  by-pop : code_at v ≡ 0x09 → Way o v z
  by-throw : code_at v ≡ 0x0D → (top v.machine ≡ 0 → ⊥) → z.machine.p ≡ o.machine.p → top z.machine ≡ top v.machine → Way o v z

-- z, which follows v, is back at o
pub record Back (o v z : World) : Type 0 where
  -- R, S and E are as they were; so are the return cells below R, the subroutine levels up to S with their locals, copies and
  -- addresses, and the exception levels up to E with their cells, copies and addresses
  pub restored : Restored o.machine.links z.machine.links
  -- the cells in view are as they were
  pub locals-back : locals_in_view z.machine ≡ locals_in_view o.machine
  pub cells-back : cells_in_view z.machine ≡ cells_in_view o.machine
  -- it came by one of these ways
  pub way : Way o v z

-- that there is such a loss, from a machine that a run accepts, by the instruction with this code, and the machine is back
pub record Seen (a o w v z : World) (code : ℕ) : Type 0 where
  pub accepted : Accepted a.machine
  pub loses : Loses a o w v z
  pub by : code_at v ≡ code
  pub back : Back o v z
