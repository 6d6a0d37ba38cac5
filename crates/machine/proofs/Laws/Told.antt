-- What every row keeps, kind by kind.
use Rattle.std.specs.Prelude.{◌⊎◌, ◌≡◌, Bool, true, false, ℕ, ◌-◌, ◌≤◌, T, eqb, length}
use Rattle.std.proofs.Common.{inl, inr, sym, subst, ◌∙◌, arith}
use Rattle.std.proofs.Math.Path.{refl}
use mathlib.Core.List.{List, [], ◌∷◌, Memᴰ}
use Rattle.std.proofs.lemmas.Bool.{eqb-false}
use Rattle.std.proofs.Math.Seq.{length-sets}
use Rattle.plain.specs.Choice.{pick}
use Rattle.numbers.specs.Bytes.{bytes_of}
use Rattle.links.specs.Linked.{copy_of_p}
use Rattle.links.specs.Actions.{Act, still, push, call, catch, exit, pop, throw, keep, reset}
use Rattle.word.specs.Dispatch.{two_cells_of}
use Rattle.word.proofs.Laws.Flag.{two_movers, OfFlag, FlagFits, two-flag, one-leaves, two-leaves}
use Rattle.word.specs.declared.Outcome.{Outcome}
use Rattle.word.specs.declared.Outcome.TheVariants.{Single, Double, DivisorZero}
use Rattle.machine.specs.Codes.{Link, >R, R-AT, R>, CATCH, RESETSP, THROW, JSL, JSR, EXIT, RTI, Op, SHUFFLE, JUMP, LINK, ONE, TWO, FETCH, STORE, LITERAL, entry_at}
use Rattle.machine.specs.Memory.{size, place_of}
use Rattle.machine.specs.Fetch.{Instruction}
use Rattle.machine.specs.Rows.{Row, nothing, a_return_cell, a_routine, releasing, no_return, top, second, lacking, exit_row, row_of, link_row, cells_row, two_row, fetch_row, store_row, throw_row}
use Rattle.machine.specs.declared.Machine.{Machine}
use Rattle.machine.specs.declared.Width.{Width}
use Rattle.machine.specs.declared.Place.{Place}
use Rattle.machine.specs.declared.Place.TheVariants.{Memory, View, Nowhere}

-- a THROW that is thrown: the top cell is not 0, and it is put on the copy of P
pub record Throwing (m : Machine) (row : Row) : Type 0 where
  pub non_zero : eqb (top m) 0 ≡ false
  pub to-copy : row.keeps ≡ copy_of_p m.links.levels m.links.e
  pub code_put : row.puts ≡ top m ∷ []

-- the instructions that move the flag
abbrev pub MovesFlag : Op → Type 0
MovesFlag (SHUFFLE o) = ⊥
MovesFlag (JUMP o) = ⊥
MovesFlag (LINK o) = ⊥
MovesFlag (ONE o) = ⊥
MovesFlag (TWO o) = Memᴰ o two_movers
MovesFlag (FETCH w) = ⊥
MovesFlag (STORE w) = ⊥
MovesFlag LITERAL = ⊥

-- an instruction, its machine and its row
module _ (i : Instruction) (m : Machine) where
  -- what an action tells of its instruction: which one it is, and what it takes or lacks
  abbrev pub Tells : Op → Row → Act → Type 0
  Tells op row still = Unit {0}
  Tells op row (push x) = Unit {0}
  Tells op row (call address) = Unit {0}
  Tells op row (catch address p) = (op ≡ LINK CATCH) × (p ≡ m.p - (entry_at i.code).takes)
  Tells op row exit = (op ≡ LINK EXIT) ⊎ ((op ≡ LINK RTI) × (m.links.s ≡ 0 → ⊥))
  Tells op row pop = (op ≡ LINK R>) × (row.lack ≡ pick (eqb m.links.r 0) a_return_cell nothing)
  Tells op row throw = (op ≡ LINK THROW) × Throwing m row
  Tells op row (keep locals cells) = Unit {0}
  Tells op row reset = op ≡ LINK RESETSP

  -- the flag stays 0 or 1, and is as it was where the instruction does not move it; the memory is as long as it was; the action is its
  -- instruction's, and RTI alone releases the block
  pub record Fair (mem : List ℕ) (op : Op) (row : Row) : Type 0 where
    pub flag-within : m.flag ≤ 1 → row.flag ≤ 1
    pub flag-kept : (MovesFlag op → ⊥) → row.flag ≡ m.flag
    pub same_length : length row.memory ≡ length mem
    pub tells : Tells op row row.link
    pub releases-only : row.releases ≡ true → op ≡ LINK RTI

unreleased : {A : Type 0} {b : Bool} → b ≡ true → b ≡ false → A
unreleased is not = absurd (subst T (sym is ∙ not) tt)

module _ (i : Instruction) (mem : List ℕ) (m : Machine) where
  -- a row that leaves the flag as it was
  kept-fair : (op : Op) (row : Row) → row.flag ≡ m.flag → length row.memory ≡ length mem → row.releases ≡ false → Tells i m op row row.link → Fair i m mem op row
  kept-fair op row flag long held t =
      record { flag-within = λ h. omega arith; flag-kept = λ other. flag; same_length = long; tells = t; releases-only = λ is. unreleased is held }

  throw-fair : (b : Bool) → eqb (top m) 0 ≡ b → Fair i m mem (LINK THROW) (pick b (cells_row i mem m []) (throw_row i mem m))
  throw-fair true e = kept-fair _ _ refl refl refl tt
  throw-fair false e = kept-fair _ _ refl refl refl (refl, record { non_zero = e; to-copy = refl; code_put = refl })

  leaving : no_return m ≡ false → m.links.s ≡ 0 → ⊥
  leaving e = go (eqb m.lines.block 0) e
    where
      go : (b : Bool) → pick b true (eqb m.links.s 0) ≡ false → m.links.s ≡ 0 → ⊥
      go true e = absurd (subst T e tt)
      go false e = eqb-false m.links.s 0 e

  rti-fair : (b : Bool) → no_return m ≡ b → Fair i m mem (LINK RTI) (pick b (lacking i mem m a_routine) (releasing (exit_row i mem m)))
  rti-fair true e = kept-fair _ _ refl refl refl tt
  rti-fair false e =
      record {
        flag-within = λ h. h;
        flag-kept = λ other. refl;
        same_length = refl;
        tells = inr (refl, leaving e);
        releases-only = λ is. refl;
      }

  link-fair : (o : Link) → Fair i m mem (LINK o) (link_row i mem m o)
  link-fair >R = kept-fair _ _ refl refl refl tt
  link-fair R-AT = kept-fair _ _ refl refl refl tt
  link-fair R> = kept-fair _ _ refl refl refl (refl, refl)
  link-fair CATCH = kept-fair _ _ refl refl refl (refl, refl)
  link-fair RESETSP = kept-fair _ _ refl refl refl refl
  link-fair THROW = throw-fair (eqb (top m) 0) refl
  link-fair JSL = kept-fair _ _ refl refl refl tt
  link-fair JSR = kept-fair _ _ refl refl refl tt
  link-fair EXIT = kept-fair _ _ refl refl refl (inl refl)
  link-fair RTI = rti-fair (no_return m) refl

  two-fair : (op : Op) (o : Outcome) → (m.flag ≤ 1 → FlagFits o) → ((MovesFlag op → ⊥) → OfFlag (λ f. f ≡ m.flag) o) → Fair i m mem op (two_row i mem m o)
  two-fair op (Single value flag) f kept = record { flag-within = f; flag-kept = kept; same_length = refl; tells = tt; releases-only = λ is. unreleased is refl }
  two-fair op (Double lower upper flag) f kept = record { flag-within = f; flag-kept = kept; same_length = refl; tells = tt; releases-only = λ is. unreleased is refl }
  two-fair op DivisorZero f kept = kept-fair _ _ refl refl refl tt

  fetch-fair : (op : Op) (w : Width) (place : Place) → Fair i m mem op (fetch_row i mem m w place)
  fetch-fair op w (Memory a) = kept-fair _ _ refl refl refl tt
  fetch-fair op w (View a) = kept-fair _ _ refl refl refl tt
  fetch-fair op w Nowhere = kept-fair _ _ refl refl refl tt

  store-fair : (op : Op) (w : Width) (place : Place) → Fair i m mem op (store_row i mem m w place)
  store-fair op w (Memory a) = kept-fair _ _ refl (length-sets mem a (bytes_of (size w) (second m))) refl tt
  store-fair op w (View a) = kept-fair _ _ refl refl refl tt
  store-fair op w Nowhere = kept-fair _ _ refl refl refl tt

  -- every row is fair
  pub fair : (op : Op) → Fair i m mem op (row_of i mem m op)
  unfolding row_of
  fair (SHUFFLE o) = kept-fair _ _ refl refl refl tt
  fair (JUMP o) = kept-fair _ _ refl refl refl tt
  fair (LINK o) = link-fair o
  fair (ONE o) = kept-fair _ _ (one-leaves o (top m) m.flag) refl refl tt
  fair (TWO o) =
      two-fair (TWO o) (two_cells_of o (second m) (top m) m.flag) (two-flag o (second m) (top m) m.flag)
      (two-leaves o (second m) (top m) m.flag)
  fair (FETCH w) = fetch-fair _ w (place_of w (top m))
  fair (STORE w) = store-fair _ w (place_of w (top m))
  fair LITERAL = kept-fair _ _ refl refl refl tt
