-- A step that is carried out keeps what a machine that exists can hold, where every byte of the memory is one; and leaves such a memory.
use Rattle.std.proofs.Common.{⊎_elim, sym, subst, ◌∙◌, lt_of_lt_of_le, arith, leb→le, length-append, length-drop, length-take-le}
use Rattle.std.specs.Prelude.{◌≡◌, refl, Bool, true, false, List, [], ◌∷◌, ℕ, suc, ◌+◌, ◌-◌, ◌*◌, ◌^◌, ◌<◌, ◌≤◌, T, eqb, leb, get_or, length}
use Rattle.std.proofs.Math.Nat.{pow-le-pow_right}
use Rattle.plain.specs.Choice.{pick}
use Rattle.plain.specs.All.{All}
use Rattle.plain.specs.Laws.All.{all_read, all-sets, all_take, all_drop}
use Rattle.numbers.specs.Bytes.{bytes_of}
use Rattle.numbers.specs.Laws.Bytes.{Bytes, number-below}
use Rattle.numbers.specs.Laws.Rewriting.{spelled-bytes, list-bytes, bytes-at}
use Rattle.links.specs.Depths.{locals_count, level_cells}
use Rattle.links.specs.Actions.{Act, call, throw}
use Rattle.links.specs.Linked.{frame_at, level_at}
use Rattle.links.specs.Fits.{CellFits, LinksFit}
use Rattle.links.proofs.Laws.Carries.{ActFits, frame-in-view, level-in-view, act-fits}
use Rattle.word.specs.Dispatch.{two_cells_of}
use Rattle.word.proofs.Laws.Fits.{CellsFit, one-fits, two-fit}
use Rattle.word.specs.declared.Outcome.{Outcome}
use Rattle.word.specs.declared.Outcome.TheVariants.{Single, Double, DivisorZero}
use Rattle.machine.specs.Codes.{Shuffle, NOP, DROP, DUP, SWAP, OVER, NIP, ROT, PSP-AT, ZERO, DUP-NONZERO, PAUSE, Jump, JMP, BEQ, BRA, Link, >R, R-AT, R>, CATCH, RESETSP, THROW, JSL, JSR, EXIT, RTI, Op, SHUFFLE, JUMP, LINK, ONE, TWO, FETCH, STORE, LITERAL, Operand, none, number, offset, table, entry_at}
use Rattle.machine.specs.Reach.{alone}
use Rattle.machine.specs.State.{Whole}
use Rattle.machine.specs.Memory.{size, place_of}
use Rattle.machine.specs.View.{bytes_of_cells, overwritten}
use Rattle.machine.specs.Fetch.{Instruction, operand_at, instruction_at}
use Rattle.machine.specs.Rows.{Row, a_routine, releasing, no_return, lacking, exit_row, top, second, top_return, locals_in_view, cells_in_view, in_view, cells_row, throw_row, row_of, link_row, shuffled, target, two_row, fetch_row, store_row}
use Rattle.machine.specs.Step.{done, noted, step_of, row_at}
use Rattle.machine.specs.Run.{After, Manner, by_itself, run_from, acceptable, run_of}
use Rattle.machine.proofs.Laws.Steps.{run-taken, run-declined}
use Rattle.machine.specs.Lines.{entered_by, let_in, released}
use Rattle.machine.specs.Fits.{ThrowFits, LinesFit, Fits, AllBytes, Exist}
use Rattle.machine.proofs.Laws.Tables.{Everywhere, at-code}
use Rattle.machine.proofs.Laws.Along.{along}
use Rattle.machine.proofs.Laws.Passed.{step-done}
use Rattle.machine.proofs.Laws.CellBytes.{overwritten-long, overwritten-fits}
use Rattle.machine.proofs.Laws.Kept.{Formed, Steady, steady, allowed_at, step-steady, let-in-steady}
use Rattle.machine.proofs.Laws.Lines.{Enters, let-in}
use Rattle.machine.proofs.Laws.Noted.{throws-or-keeps}
use Rattle.machine.proofs.Laws.Accepted.{taken}
use Rattle.machine.specs.declared.Lines.{Lines}
use Rattle.machine.specs.declared.Machine.{Machine}
use Rattle.machine.specs.declared.Reach.{Reach}
use Rattle.machine.specs.declared.Width.{Width}
use Rattle.machine.specs.declared.Width.TheVariants.{Byte, Word, Long}
use Rattle.machine.specs.declared.Place.{Place}
use Rattle.machine.specs.declared.Place.TheVariants.{Memory, View, Nowhere}

-- what a row brings
pub record RowFits (row : Row) : Type 0 where
  pub puts-fit : All CellFits row.puts
  pub goes-fits : CellFits row.goes
  pub link_fits : ActFits row.link
  pub memory-fits : AllBytes row.memory

pub cell-fits : (m : Machine) → Fits m → (n : ℕ) → CellFits (get_or m.cells n 0)
cell-fits m h n = all_read CellFits m.cells h.cells_fit n 0 (omega arith)

-- an address noted is a counter, and a code thrown a cell
noted-fits : (m : Machine) → Fits m → (a : Act) → ThrowFits (noted a m)
noted-fits m h a =
    ⊎_elim
    (λ (is : a ≡ throw).
    subst (λ (x : Act). ThrowFits (noted x m)) (sym is) (record { address-fits = h.counter-fits; code_fits = cell-fits m h (m.p - 1) }))
    (λ (same : noted a m ≡ m.thrown). subst ThrowFits (sym same) h.thrown-fits) (throws-or-keeps m a)

width-below : (w : Width) (n : ℕ) → n < 2 ^ (8 * size w) → CellFits n
width-below Byte n h = omega arith
width-below Word n h = omega arith
width-below Long n h = omega arith

module _ (i : Instruction) (mem : List ℕ) (m : Machine) (operand-fits : CellFits i.operand) (next_fits : CellFits i.next)
    (bytes : AllBytes mem) (whole : Whole m) (steady : Steady m) (h : Fits m) where
  cell_at : (n : ℕ) → CellFits (get_or m.cells n 0)
  cell_at n = cell-fits m h n

  picked : (b : Bool) (x y : ℕ) → CellFits x → CellFits y → CellFits (pick b x y)
  picked true x y hx hy = hx
  picked false x y hx hy = hy

  picked_all : (b : Bool) (xs ys : List ℕ) → All CellFits xs → All CellFits ys → All CellFits (pick b xs ys)
  picked_all true xs ys hx hy = hx
  picked_all false xs ys hx hy = hy

  shuffled-fit : (o : Shuffle) → All CellFits (shuffled i mem m o)
  shuffled-fit NOP = tt
  shuffled-fit DROP = tt
  shuffled-fit DUP = (cell_at _, (cell_at _, tt))
  shuffled-fit SWAP = (cell_at _, (cell_at _, tt))
  shuffled-fit OVER = (cell_at _, (cell_at _, (cell_at _, tt)))
  shuffled-fit NIP = (cell_at _, tt)
  shuffled-fit ROT = (cell_at _, (cell_at _, (cell_at _, tt)))
  shuffled-fit PSP-AT = (omega (arith, steady.p-within), tt)
  shuffled-fit ZERO = (omega arith, tt)
  shuffled-fit DUP-NONZERO = picked_all (eqb (top m) 0) (top m ∷ []) (top m ∷ top m ∷ []) (cell_at _, tt) (cell_at _, (cell_at _, tt))
  shuffled-fit PAUSE = tt

  target_fits : (o : Jump) → CellFits (target i mem m o)
  target_fits JMP = cell_at _
  target_fits BEQ = picked (eqb (top m) 0) i.operand i.next operand-fits next_fits
  target_fits BRA = operand-fits

  stays_fit : (puts : List ℕ) → All CellFits puts → RowFits (cells_row i mem m puts)
  stays_fit puts p = record { puts-fit = p; goes-fits = next_fits; link_fits = tt; memory-fits = bytes }

  return_fits : CellFits (top_return m)
  return_fits = all_read CellFits m.links.returns h.links-fit.returns-fit (m.links.r - 1) 0 (omega arith)

  -- the addresses in the levels in view
  return-address : CellFits (frame_at m.links m.links.s).address
  return-address = (frame-in-view m.links whole.shaped steady.sound h.links-fit).address-fits

  throw-address : CellFits (level_at m.links m.links.e).address
  throw-address = (level-in-view m.links whole.shaped steady.sound h.links-fit).address-fits

  throw-fits : (b : Bool) → RowFits (pick b (cells_row i mem m []) (throw_row i mem m))
  throw-fits true = stays_fit [] tt
  throw-fits false =
      record { puts-fit = (cell_at _, tt); goes-fits = throw-address; link_fits = tt; memory-fits = bytes }

  link-row-fits : (o : Link) → RowFits (link_row i mem m o)
  link-row-fits >R = record { puts-fit = tt; goes-fits = next_fits; link_fits = cell_at _; memory-fits = bytes }
  link-row-fits R-AT = record { puts-fit = (return_fits, tt); goes-fits = next_fits; link_fits = tt; memory-fits = bytes }
  link-row-fits R> = record { puts-fit = (return_fits, tt); goes-fits = next_fits; link_fits = tt; memory-fits = bytes }
  link-row-fits CATCH = record { puts-fit = tt; goes-fits = cell_at _; link_fits = next_fits; memory-fits = bytes }
  link-row-fits RESETSP = record { puts-fit = tt; goes-fits = next_fits; link_fits = tt; memory-fits = bytes }
  link-row-fits THROW = throw-fits (eqb (top m) 0)
  link-row-fits JSL = record { puts-fit = tt; goes-fits = operand-fits; link_fits = next_fits; memory-fits = bytes }
  link-row-fits JSR = record { puts-fit = tt; goes-fits = cell_at _; link_fits = next_fits; memory-fits = bytes }
  link-row-fits EXIT = record { puts-fit = tt; goes-fits = return-address; link_fits = tt; memory-fits = bytes }
  link-row-fits RTI = go (no_return m)
    where
      go : (b : Bool) → RowFits (pick b (lacking i mem m a_routine) (releasing (exit_row i mem m)))
      go true = record { puts-fit = tt; goes-fits = next_fits; link_fits = tt; memory-fits = bytes }
      go false = record { puts-fit = tt; goes-fits = return-address; link_fits = tt; memory-fits = bytes }

  two-row-fits : (o : Outcome) → CellsFit o → RowFits (two_row i mem m o)
  two-row-fits (Single value flag) f = record { puts-fit = (f, tt); goes-fits = next_fits; link_fits = tt; memory-fits = bytes }
  two-row-fits (Double lower upper flag) f =
      record { puts-fit = (f.0, (f.1, tt)); goes-fits = next_fits; link_fits = tt; memory-fits = bytes }
  two-row-fits DivisorZero f = record { puts-fit = tt; goes-fits = next_fits; link_fits = tt; memory-fits = bytes }

  fetch-row-fits : (w : Width) (place : Place) → RowFits (fetch_row i mem m w place)
  fetch-row-fits w (Memory a) =
      record {
        puts-fit = (width-below w _ (number-below (size w) mem a (bytes-at mem bytes)), tt);
        goes-fits = next_fits;
        link_fits = tt;
        memory-fits = bytes;
      }
  fetch-row-fits w (View a) =
      stays_fit _ (width-below w _ (number-below (size w) (bytes_of_cells (in_view m)) a (bytes-at (bytes_of_cells (in_view m)) (list-bytes 4 (in_view m)))), tt)
  fetch-row-fits w Nowhere = record { puts-fit = tt; goes-fits = next_fits; link_fits = tt; memory-fits = bytes }

  store-row-fits : (w : Width) (place : Place) → RowFits (store_row i mem m w place)
  store-row-fits w (Memory a) =
      record {
        puts-fit = tt;
        goes-fits = next_fits;
        link_fits = tt;
        memory-fits = all-sets (λ b. b < 2 ^ 8) mem bytes a (bytes_of (size w) (second m)) (spelled-bytes (size w) (second m));
      }
  store-row-fits w (View a) =
      let bytes-stored = bytes_of (size w) (second m) in
      let after = overwritten (in_view m) a bytes-stored in
      let held : All CellFits after = overwritten-fits (in_view m) a bytes-stored (spelled-bytes (size w) (second m)) in
      let locals = (frame-in-view m.links whole.shaped steady.sound h.links-fit).locals-long in
      let cells = (level-in-view m.links whole.shaped steady.sound h.links-fit).cells-long in
      let long : length after ≡ locals_count + level_cells =
      overwritten-long (in_view m) a bytes-stored ∙ (length-append (locals_in_view m) (cells_in_view m) ∙ omega arith) in
      record {
        puts-fit = tt;
        goes-fits = next_fits;
        link_fits = (
          length-take-le locals_count after (omega arith),
          all_take CellFits locals_count after held,
          length-drop locals_count after ∙ omega arith,
          all_drop CellFits locals_count after held,
        );
        memory-fits = bytes;
      }
  store-row-fits w Nowhere = record { puts-fit = tt; goes-fits = next_fits; link_fits = tt; memory-fits = bytes }

  row_fits : (op : Op) → RowFits (row_of i mem m op)
  unfolding row_of
  row_fits (SHUFFLE o) = stays_fit _ (shuffled-fit o)
  row_fits (JUMP o) = record { puts-fit = tt; goes-fits = target_fits o; link_fits = tt; memory-fits = bytes }
  row_fits (LINK o) = link-row-fits o
  row_fits (ONE o) =
      record { puts-fit = (one-fits o (top m) m.flag (cell_at _), tt); goes-fits = next_fits; link_fits = tt; memory-fits = bytes }
  row_fits (TWO o) = two-row-fits (two_cells_of o (second m) (top m) m.flag) (two-fit o (second m) (top m) m.flag (cell_at _) (cell_at _))
  row_fits (FETCH w) = fetch-row-fits w (place_of w (top m))
  row_fits (STORE w) = store-row-fits w (place_of w (top m))
  row_fits LITERAL = stays_fit _ (operand-fits, tt)

-- an operand has at most 4 bytes
abbrev small_operand : Operand → Bool
small_operand none = true
small_operand (number n) = leb n 4
small_operand offset = true

operands-small : Everywhere (λ code e. small_operand e.operand)
unfolding table
operands-small = record { in_table = tt; past = λ code. tt; branches = λ code. (tt, tt) }

operand_below : (o : Operand) (mem : List ℕ) (a : ℕ) → T (small_operand o) → Bytes mem → CellFits (operand_at o mem a)
operand_below none mem a t bytes = omega arith
operand_below (number n) mem a t bytes =
    let short : n ≤ 4 = leb→le n 4 t in
    let within : 8 * n ≤ 32 = omega arith in
    let some : 0 < 2 = omega arith in
    lt_of_lt_of_le (number-below n mem (a + 1) bytes) (pow-le-pow_right some within)
operand_below offset mem a t bytes = omega arith

-- lines fit, released or not
lines-still-fit : (b : Bool) (l : Lines) → LinesFit l → LinesFit (pick b (released l) l)
lines-still-fit true l h = record { mask_fits = h.mask_fits; waiting-fits = h.waiting-fits; block-fits = omega arith }
lines-still-fit false l h = h

-- what a step leaves exists
pub step-carries : (reach : Reach) (mem : List ℕ) (m : Machine) (mem' : List ℕ) (m' : Machine) (k : ℕ) → Steady m → Exist mem m →
    step_of reach mem m ≡ done mem' m' k → Exist mem' m'
unfolding instruction_at
step-carries reach mem m mem' m' k steady x e =
    let d = step-done reach mem m mem' m' k e in
    let g = step-steady reach mem m mem' m' k x.whole steady e in
    let h = x.fits in
    let i = instruction_at reach mem m.counter in
    let operand =
    operand_below (entry_at i.code).operand mem m.counter
    (at-code (λ code e. small_operand e.operand) operands-small i.code) (bytes-at mem x.bytes) in
    let next : CellFits i.next = omega arith in
    let row = row_fits i mem m operand next x.bytes x.whole steady h (entry_at i.code).op in
    let links-fit =
    act-fits m.links x.whole.shaped steady.sound h.links-fit (row_at reach mem m).link row.link_fits (allowed_at reach mem m mem' m' k steady d) in
    record {
      whole = g.whole;
      fits =
          record {
            cells_fit =
                subst (λ (y : Machine). All CellFits y.cells) (sym d.machine)
                (all-sets CellFits m.cells h.cells_fit (row_at reach mem m).keeps (row_at reach mem m).puts row.puts-fit);
            p-fits = omega (arith, g.steady.p-within);
            links-fit = subst (λ (y : Machine). LinksFit y.links) (sym d.machine) links-fit;
            counter-fits = subst (λ (y : Machine). CellFits y.counter) (sym d.machine) row.goes-fits;
            flag-fits = omega (arith, g.steady.flag-within);
            thrown-fits = subst (λ (y : Machine). ThrowFits y.thrown) (sym d.machine) (noted-fits m h (row_at reach mem m).link);
            lines_fit = subst (λ (y : Machine). LinesFit y.lines) (sym d.machine) (lines-still-fit (row_at reach mem m).releases m.lines h.lines_fit);
          };
      bytes = subst AllBytes (sym d.memory) row.memory-fits;
    }

-- and so does a machine that a line has entered
pub let-in-carries : (lined : Bool) (mem : List ℕ) (m : Machine) → Steady m → Exist mem m → Steady (let_in lined m) × Exist mem (let_in lined m)
let-in-carries lined mem m steady x =
    let fine = let-in-steady lined mem m x.whole steady in
    (fine.steady, record { whole = fine.whole; fits = fit; bytes = x.bytes })
  where
    h : Fits m
    h = x.fits

    entered-fits : (n : ℕ) → Enters m n → Fits (entered_by n m)
    entered-fits n e =
        record {
          cells_fit = h.cells_fit;
          p-fits = h.p-fits;
          links-fit = act-fits m.links x.whole.shaped steady.sound h.links-fit (call m.counter) h.counter-fits (e.r-room, e.s-room);
          counter-fits = omega (arith, e.within);
          flag-fits = h.flag-fits;
          thrown-fits = h.thrown-fits;
          lines_fit =
              record {
                mask_fits = h.lines_fit.mask_fits;
                waiting-fits = omega (arith, h.lines_fit.waiting-fits);
                block-fits = omega arith;
              };
        }

    fit : Fits (let_in lined m)
    fit = let-in Fits lined m h entered-fits

-- so does what a run leaves, whatever its answer
abbrev ExistAfter : After → Type 0
ExistAfter a = Exist a.memory a.ran.machine

-- well formed but for mask and requests, and existing, whatever the counts
abbrev Carried : List ℕ → Machine → ℕ → ℕ → Type 0
Carried mem m n c = Steady m × Exist mem m

pub rest-carries : (reach : Reach) (manner : Manner) (left : ℕ) (mem : List ℕ) (m : Machine) (n c : ℕ) → Formed m → Exist mem m →
    ExistAfter (run_from reach manner left mem m n c)
rest-carries reach manner left mem m n c formed x = (along reach manner Carried carried entered left mem m n c (steady m formed, x)).1
  where
    entered : (mem : List ℕ) (m : Machine) (n c : ℕ) → Carried mem m n c → Carried mem (let_in manner.lined m) n c
    entered mem m n c now = let-in-carries manner.lined mem m now.0 now.1

    carried : (mem : List ℕ) (m : Machine) (n c : ℕ) (mem' : List ℕ) (m' : Machine) (k : ℕ) → Carried mem m n c → step_of reach mem m ≡ done mem' m' k →
        Carried mem' m' (suc n) (c + k)
    carried mem m n c mem' m' k now e =
        ((step-steady reach mem m mem' m' k now.1.whole now.0 e).steady, step-carries reach mem m mem' m' k now.0 now.1 e)

pub run-carries : (mem : List ℕ) (m : Machine) (budget : ℕ) → Exist mem m →
    Exist (run_of mem m budget).memory (run_of mem m budget).ran.machine
run-carries mem m budget x = go (acceptable mem m budget) refl
  where
    go : (b : Bool) → acceptable mem m budget ≡ b → ExistAfter (run_of mem m budget)
    go true e =
        subst ExistAfter (sym (run-taken mem m budget e))
        (rest-carries alone by_itself budget mem m 0 0 (taken mem m budget e).formed x)
    go false e = subst ExistAfter (sym (run-declined mem m budget e)) x
