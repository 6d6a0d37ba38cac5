-- What a row puts is what the table says: at most so many cells, and just so many on the depth that is left, where P is not set otherwise.
use Rattle.std.specs.Prelude.{◌≡◌, Bool, true, false, List, [], ◌∷◌, ℕ, ◌-◌, ◌≤◌, T, eqb, ltb, length}
use Rattle.std.proofs.Math.Path.{refl}
use Rattle.std.proofs.Common.{ap, subst, arith, eqb→eq}
use Rattle.plain.specs.Choice.{pick}
use Rattle.word.specs.Quotients.{unless_zero}
use Rattle.word.specs.Dispatch.{two_cells_of}
use Rattle.word.specs.declared.Outcome.{Outcome}
use Rattle.word.specs.declared.Outcome.TheVariants.{Single, Double, DivisorZero}
use Rattle.word.specs.declared.TwoCells.{TwoCells}
use Rattle.word.specs.declared.TwoCells.TheVariants.{Plus, Minus, AddExtended, SubtractExtended, Equal, Unequal, Less, Greater, Below, Above, AndBits, OrBits, XorBits, MultiplySigned, MultiplyUnsigned, DivideSigned, DivideUnsigned}
use Rattle.machine.specs.Codes.{Shuffle, NOP, DROP, DUP, SWAP, OVER, NIP, ROT, PSP-AT, ZERO, DUP-NONZERO, PAUSE, Link, >R, R-AT, R>, CATCH, RESETSP, THROW, JSL, JSR, EXIT, RTI, Op, SHUFFLE, JUMP, LINK, ONE, TWO, FETCH, STORE, LITERAL, table, entry_at}
use Rattle.machine.specs.Memory.{place_of}
use Rattle.machine.specs.Fetch.{Instruction}
use Rattle.machine.specs.Rows.{Row, a_place, a_divisor, a_routine, releasing, no_return, lacking, exit_row, top, second, cells_row, throw_row, row_of, link_row, shuffled, two_row, fetch_row, store_row}
use Rattle.machine.specs.Checks.{lacks}
use Rattle.machine.proofs.Laws.Tables.{Everywhere, at-code}
use Rattle.machine.proofs.Laws.Marks.{code_of_two}
use Rattle.machine.specs.declared.Machine.{Machine}
use Rattle.machine.specs.declared.Width.{Width}
use Rattle.machine.specs.declared.Place.{Place}
use Rattle.machine.specs.declared.Place.TheVariants.{Memory, View, Nowhere}

-- the cells that an instruction puts, the most for ?DUP and THROW
abbrev puts_of_shuffle : Shuffle → ℕ
puts_of_shuffle NOP = 0
puts_of_shuffle DROP = 0
puts_of_shuffle DUP = 2
puts_of_shuffle SWAP = 2
puts_of_shuffle OVER = 3
puts_of_shuffle NIP = 1
puts_of_shuffle ROT = 3
puts_of_shuffle PSP-AT = 1
puts_of_shuffle ZERO = 1
puts_of_shuffle DUP-NONZERO = 2
puts_of_shuffle PAUSE = 0

abbrev puts_of_link : Link → ℕ
puts_of_link >R = 0
puts_of_link R-AT = 1
puts_of_link R> = 1
puts_of_link CATCH = 0
puts_of_link RESETSP = 0
puts_of_link THROW = 1
puts_of_link JSL = 0
puts_of_link JSR = 0
puts_of_link EXIT = 0
puts_of_link RTI = 0

-- products and quotients put two
abbrev puts_of_two : TwoCells → ℕ
puts_of_two o = pick (ltb (code_of_two o) 0x29) 1 2

abbrev pub puts_of : Op → ℕ
puts_of (SHUFFLE o) = puts_of_shuffle o
puts_of (JUMP o) = 0
puts_of (LINK o) = puts_of_link o
puts_of (ONE o) = 1
puts_of (TWO o) = puts_of_two o
puts_of (FETCH w) = 1
puts_of (STORE w) = 0
puts_of LITERAL = 1

columns : Everywhere (λ code e. eqb (puts_of e.op) e.puts)
unfolding table
columns = record { in_table = tt; past = λ code. tt; branches = λ code. (tt, tt) }

-- the table's column
pub column : (code : ℕ) → puts_of (entry_at code).op ≡ (entry_at code).puts
column code = eqb→eq (puts_of (entry_at code).op) (entry_at code).puts (at-code (λ code e. eqb (puts_of e.op) e.puts) columns code)

-- neither ?DUP nor THROW nor RESETSP
abbrev pub Plain : Op → Type 0
Plain op = (op ≡ SHUFFLE DUP-NONZERO → ⊥) × (op ≡ LINK THROW → ⊥) × (op ≡ LINK RESETSP → ⊥)

module _ (i : Instruction) (mem : List ℕ) (m : Machine) where
  pub record Puts (op : Op) (row : Row) : Type 0 where
    pub most : length row.puts ≤ puts_of op
    pub just : Plain op → lacks row a_place ≡ false → lacks row a_divisor ≡ false →
        (row.keeps ≡ m.p - (entry_at i.code).takes) × (length row.puts ≡ puts_of op)

  exactly : (op : Op) (row : Row) → row.keeps ≡ m.p - (entry_at i.code).takes → length row.puts ≡ puts_of op → Puts op row
  exactly op row keeps puts = record { most = omega (arith, puts); just = λ plain place divisor. (keeps, puts) }

  shuffle-puts : (o : Shuffle) → Puts (SHUFFLE o) (cells_row i mem m (shuffled i mem m o))
  shuffle-puts NOP = exactly _ _ refl refl
  shuffle-puts DROP = exactly _ _ refl refl
  shuffle-puts DUP = exactly _ _ refl refl
  shuffle-puts SWAP = exactly _ _ refl refl
  shuffle-puts OVER = exactly _ _ refl refl
  shuffle-puts NIP = exactly _ _ refl refl
  shuffle-puts ROT = exactly _ _ refl refl
  shuffle-puts PSP-AT = exactly _ _ refl refl
  shuffle-puts ZERO = exactly _ _ refl refl
  shuffle-puts DUP-NONZERO = record { most = go (eqb (top m) 0); just = λ plain place divisor. absurd (plain.0 refl) }
    where
      go : (b : Bool) → length (pick b (top m ∷ []) (top m ∷ top m ∷ [])) ≤ 2
      go true = omega arith
      go false = omega arith
  shuffle-puts PAUSE = exactly _ _ refl refl

  link-puts : (o : Link) → Puts (LINK o) (link_row i mem m o)
  link-puts >R = exactly _ _ refl refl
  link-puts R-AT = exactly _ _ refl refl
  link-puts R> = exactly _ _ refl refl
  link-puts CATCH = exactly _ _ refl refl
  link-puts RESETSP = record { most = omega arith; just = λ plain place divisor. absurd (plain.2 refl) }
  link-puts THROW = record { most = go (eqb (top m) 0); just = λ plain place divisor. absurd (plain.1 refl) }
    where
      go : (b : Bool) → length (pick b (cells_row i mem m []) (throw_row i mem m)).puts ≤ 1
      go true = omega arith
      go false = omega arith
  link-puts JSL = exactly _ _ refl refl
  link-puts JSR = exactly _ _ refl refl
  link-puts EXIT = exactly _ _ refl refl
  link-puts RTI = go (no_return m)
    where
      go : (b : Bool) → Puts (LINK RTI) (pick b (lacking i mem m a_routine) (releasing (exit_row i mem m)))
      go true = exactly _ _ refl refl
      go false = exactly _ _ refl refl

  -- an outcome has so many cells, if it has any
  abbrev Has : ℕ → Outcome → Type 0
  Has n (Single value flag) = 1 ≡ n
  Has n (Double lower upper flag) = 2 ≡ n
  Has n DivisorZero = Unit {0}

  unless-has : (zero : Bool) (n : ℕ) (divided : Outcome) → Has n divided → Has n (unless_zero zero divided)
  unless-has true n divided h = tt
  unless-has false n divided h = h

  two-has : (o : TwoCells) (x y flag : ℕ) → Has (puts_of_two o) (two_cells_of o x y flag)
  unfolding two_cells_of
  two-has Plus x y flag = refl
  two-has Minus x y flag = refl
  two-has AddExtended x y flag = refl
  two-has SubtractExtended x y flag = refl
  two-has Equal x y flag = refl
  two-has Unequal x y flag = refl
  two-has Less x y flag = refl
  two-has Greater x y flag = refl
  two-has Below x y flag = refl
  two-has Above x y flag = refl
  two-has AndBits x y flag = refl
  two-has OrBits x y flag = refl
  two-has XorBits x y flag = refl
  two-has MultiplySigned x y flag = refl
  two-has MultiplyUnsigned x y flag = refl
  two-has DivideSigned x y flag = unless-has (eqb y 0) 2 _ refl
  two-has DivideUnsigned x y flag = unless-has (eqb y 0) 2 _ refl

  lacking-puts : (op : Op) (row : Row) → row.puts ≡ [] → (lacks row a_place ≡ false → lacks row a_divisor ≡ false → ⊥) → Puts op row
  lacking-puts op row none lack =
      let short : length row.puts ≡ 0 = ap length none in
      record { most = omega arith; just = λ plain place divisor. absurd (lack place divisor) }

  clash : true ≡ false → ⊥
  clash e = subst T e tt

  two-puts : (op : Op) (o : Outcome) → Has (puts_of op) o → Puts op (two_row i mem m o)
  two-puts op (Single value flag) h = exactly op _ refl h
  two-puts op (Double lower upper flag) h = exactly op _ refl h
  two-puts op DivisorZero h = lacking-puts op _ refl (λ place divisor. clash divisor)

  fetch-puts : (w : Width) (place : Place) → Puts (FETCH w) (fetch_row i mem m w place)
  fetch-puts w (Memory a) = exactly _ _ refl refl
  fetch-puts w (View a) = exactly _ _ refl refl
  fetch-puts w Nowhere = lacking-puts _ _ refl (λ place divisor. clash place)

  store-puts : (w : Width) (place : Place) → Puts (STORE w) (store_row i mem m w place)
  store-puts w (Memory a) = exactly _ _ refl refl
  store-puts w (View a) = exactly _ _ refl refl
  store-puts w Nowhere = exactly _ _ refl refl

  pub row-puts : (op : Op) → Puts op (row_of i mem m op)
  unfolding row_of
  row-puts (SHUFFLE o) = shuffle-puts o
  row-puts (JUMP o) = exactly _ _ refl refl
  row-puts (LINK o) = link-puts o
  row-puts (ONE o) = exactly _ _ refl refl
  row-puts (TWO o) = two-puts (TWO o) (two_cells_of o (second m) (top m) m.flag) (two-has o (second m) (top m) m.flag)
  row-puts (FETCH w) = fetch-puts w (place_of w (top m))
  row-puts (STORE w) = store-puts w (place_of w (top m))
  row-puts LITERAL = exactly _ _ refl refl
