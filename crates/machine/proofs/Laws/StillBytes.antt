-- A memory of bytes stays one, and as long as it was, whatever the machine holds: by a step, by a run, by a run of tasks.
use Rattle.std.specs.Prelude.{◌≡◌, refl, Bool, true, false, List, [], ℕ, ◌^◌, ◌<◌, eqb, length}
use Rattle.std.proofs.Common.{sym, ap, ◌∙◌, subst}
use Rattle.plain.specs.Choice.{pick}
use Rattle.plain.specs.Laws.All.{all-sets}
use Rattle.numbers.specs.Bytes.{bytes_of}
use Rattle.numbers.specs.Laws.Rewriting.{spelled-bytes}
use Rattle.word.specs.Dispatch.{two_cells_of}
use Rattle.word.specs.declared.Outcome.{Outcome}
use Rattle.word.specs.declared.Outcome.TheVariants.{Single, Double, DivisorZero}
use Rattle.machine.specs.Codes.{Link, >R, R-AT, R>, CATCH, RESETSP, THROW, JSL, JSR, EXIT, RTI, Op, SHUFFLE, JUMP, LINK, ONE, TWO, FETCH, STORE, LITERAL, entry_at}
use Rattle.machine.specs.Reach.{alone, task}
use Rattle.machine.specs.Memory.{size, place_of}
use Rattle.machine.specs.Fetch.{Instruction, instruction_at}
use Rattle.machine.specs.Rows.{a_routine, releasing, no_return, top, second, lacking, exit_row, cells_row, throw_row, link_row, two_row, fetch_row, store_row, row_of}
use Rattle.machine.specs.Step.{done, step_of}
use Rattle.machine.specs.Run.{Manner, by_itself, run_from, acceptable, run_of}
use Rattle.machine.proofs.Laws.Steps.{run-taken, run-declined}
use Rattle.machine.specs.Tasks.{Task, task_at, Between, TasksAfter, turn_length, as_task, TurnsFrom, spent, idle, turn, RunsTasks, declined, ran}
use Rattle.machine.specs.Fits.{AllBytes}
use Rattle.machine.proofs.Laws.Along.{along}
use Rattle.machine.proofs.Laws.Passed.{step-done}
use Rattle.machine.proofs.Laws.Kept.{fair-at}
use Rattle.machine.specs.declared.Machine.{Machine}
use Rattle.machine.specs.declared.Reach.{Reach}
use Rattle.machine.specs.declared.Width.{Width}
use Rattle.machine.specs.declared.Place.{Place}
use Rattle.machine.specs.declared.Place.TheVariants.{Memory, View, Nowhere}

-- what is left of a memory
pub record Still (before after : List ℕ) : Type 0 where
  pub bytes : AllBytes after
  pub same_length : length after ≡ length before

module _ (i : Instruction) (mem : List ℕ) (m : Machine) (bytes : AllBytes mem) where
  throw-bytes : (b : Bool) → AllBytes (pick b (cells_row i mem m []) (throw_row i mem m)).memory
  throw-bytes true = bytes
  throw-bytes false = bytes

  link-bytes : (o : Link) → AllBytes (link_row i mem m o).memory
  link-bytes >R = bytes
  link-bytes R-AT = bytes
  link-bytes R> = bytes
  link-bytes CATCH = bytes
  link-bytes RESETSP = bytes
  link-bytes THROW = throw-bytes (eqb (top m) 0)
  link-bytes JSL = bytes
  link-bytes JSR = bytes
  link-bytes EXIT = bytes
  link-bytes RTI = go (no_return m)
    where
      go : (b : Bool) → AllBytes (pick b (lacking i mem m a_routine) (releasing (exit_row i mem m))).memory
      go true = bytes
      go false = bytes

  two_bytes : (o : Outcome) → AllBytes (two_row i mem m o).memory
  two_bytes (Single value flag) = bytes
  two_bytes (Double lower upper flag) = bytes
  two_bytes DivisorZero = bytes

  fetch-bytes : (w : Width) (place : Place) → AllBytes (fetch_row i mem m w place).memory
  fetch-bytes w (Memory a) = bytes
  fetch-bytes w (View a) = bytes
  fetch-bytes w Nowhere = bytes

  -- a store alone alters the memory, and what it stores is bytes
  store_bytes : (w : Width) (place : Place) → AllBytes (store_row i mem m w place).memory
  store_bytes w (Memory a) = all-sets (λ b. b < 2 ^ 8) mem bytes a (bytes_of (size w) (second m)) (spelled-bytes (size w) (second m))
  store_bytes w (View a) = bytes
  store_bytes w Nowhere = bytes

  row-bytes : (op : Op) → AllBytes (row_of i mem m op).memory
  unfolding row_of
  row-bytes (SHUFFLE o) = bytes
  row-bytes (JUMP o) = bytes
  row-bytes (LINK o) = link-bytes o
  row-bytes (ONE o) = bytes
  row-bytes (TWO o) = two_bytes (two_cells_of o (second m) (top m) m.flag)
  row-bytes (FETCH w) = fetch-bytes w (place_of w (top m))
  row-bytes (STORE w) = store_bytes w (place_of w (top m))
  row-bytes LITERAL = bytes

step-still : (reach : Reach) (mem : List ℕ) (m : Machine) (mem' : List ℕ) (m' : Machine) (k : ℕ) → AllBytes mem → step_of reach mem m ≡ done mem' m' k →
    Still mem mem'
step-still reach mem m mem' m' k bytes e =
    let i = instruction_at reach mem m.counter in
    let is = (step-done reach mem m mem' m' k e).memory in
    record {
      bytes = subst AllBytes (sym is) (row-bytes i mem m bytes (entry_at i.code).op);
      same_length = ap length is ∙ (fair-at reach mem m).same_length;
    }

rest-still : (reach : Reach) (manner : Manner) (left : ℕ) (mem : List ℕ) (m : Machine) → AllBytes mem → Still mem (run_from reach manner left mem m 0 0).memory
rest-still reach manner left mem m bytes =
    along reach manner (λ now m n c. Still mem now)
    (λ now m n c mem' m' k so_far e.
    let next = step-still reach now m mem' m' k so_far.bytes e in
    record { bytes = next.bytes; same_length = next.same_length ∙ so_far.same_length })
    (λ now m n c so_far. so_far) left mem m 0 0 (record { bytes = bytes; same_length = refl })

pub run-still : (mem : List ℕ) (m : Machine) (budget : ℕ) → AllBytes mem → Still mem (run_of mem m budget).memory
run-still mem m budget bytes = go (acceptable mem m budget) refl
  where
    go : (b : Bool) → acceptable mem m budget ≡ b → Still mem (run_of mem m budget).memory
    go true e = rw (run-taken mem m budget e) (rest-still alone by_itself budget mem m bytes)
    go false e = rw (run-declined mem m budget e) (record { bytes = bytes; same_length = refl })

turns-still : {quantum : ℕ} {b : Between} {end : TasksAfter} → AllBytes b.memory → TurnsFrom quantum b end → Still b.memory end.memory
turns-still bytes (spent e) = record { bytes = bytes; same_length = refl }
turns-still bytes (idle some none) = record { bytes = bytes; same_length = refl }
turns-still {quantum} {b} bytes (turn t some is rest) =
    let now = rest-still (task t) (as_task t) (turn_length quantum b.left) b.memory (task_at b.tasks t).machine bytes in
    let later = turns-still now.bytes rest in
    record { bytes = later.bytes; same_length = later.same_length ∙ now.same_length }

pub tasks-still : {mem : List ℕ} {tasks : List Task} {quantum budget : ℕ} {end : TasksAfter} → AllBytes mem → RunsTasks mem tasks quantum budget end →
    Still mem end.memory
tasks-still bytes (declined bad) = record { bytes = bytes; same_length = refl }
tasks-still bytes (ran good turns) = turns-still bytes turns
