-- An instruction under a reach: its row touches no byte out of reach, and is the same on memories that are alike within reach.
use Rattle.std.specs.Prelude.{◌≡◌, Bool, true, false, List, [], ◌∷◌, ℕ, ◌+◌, ◌<◌, eqb}
use Rattle.std.proofs.Math.Path.{refl}
use Rattle.std.proofs.Common.{sym, ap, ◌∙◌, subst, arith}
use Rattle.std.proofs.Math.Seq.{length-sets}
use Rattle.plain.specs.Choice.{pick}
use Rattle.numbers.specs.Bytes.{byte_at, bytes_of}
use Rattle.numbers.specs.Laws.Bytes.{same_number, length-bytes}
use Rattle.word.specs.Dispatch.{two_cells_of}
use Rattle.word.specs.declared.Outcome.{Outcome}
use Rattle.word.specs.declared.Outcome.TheVariants.{Single, Double, DivisorZero}
use Rattle.machine.specs.Codes.{Link, >R, R-AT, R>, CATCH, RESETSP, THROW, JSL, JSR, EXIT, RTI, Op, SHUFFLE, JUMP, LINK, ONE, TWO, FETCH, STORE, LITERAL}
use Rattle.machine.specs.Reach.{may_touch, bar_of}
use Rattle.machine.specs.Memory.{size, place_of}
use Rattle.machine.specs.Fetch.{Instruction}
use Rattle.machine.specs.Rows.{Row, a_routine, releasing, no_return, top, second, cells_row, lacking, exit_row, throw_row, row_of, link_row, two_row, fetch_row, store_row}
use Rattle.machine.specs.Checks.{tests}
use Rattle.machine.specs.Step.{put}
use Rattle.machine.proofs.Laws.Clash.{clash}
use Rattle.machine.proofs.Laws.Passed.{AllPass}
use Rattle.machine.proofs.Laws.Unbarred.{unbarred, place_inside, access-unbarred}
use Rattle.machine.specs.declared.Machine.{Machine}
use Rattle.machine.specs.declared.Width.{Width}
use Rattle.machine.specs.declared.Place.{Place}
use Rattle.machine.specs.declared.Place.TheVariants.{Memory, View, Nowhere}
use Rattle.task_demands.specs.Isolation.{Spares, Alike}
use Rattle.task_demands.proofs.Laws.Stores.{elsewhere, all-stored-alike}

-- one instruction, its rows on two memories that are alike
module _ (i : Instruction) (mem twin : List ℕ) (m : Machine) (alike : Alike i.reach mem twin) where
  -- what its rows leave, where no test holds
  pub record SameEffect (row other : Row) : Type 0 where
    pub same-machine : put row m ≡ put other m
    pub alike-after : Alike i.reach row.memory other.memory
    pub spared : Spares i.reach mem row.memory

  pub record SameRow (row other : Row) : Type 0 where
    pub same_tests : tests i m row ≡ tests i m other
    pub same_effect : AllPass (tests i m row) → SameEffect row other

  -- rows that store nothing
  stores-nothing : (row other : Row) → tests i m row ≡ tests i m other → (AllPass (tests i m row) → put row m ≡ put other m) →
      row.memory ≡ mem → other.memory ≡ twin → SameRow row other
  stores-nothing row other tested machine mem-kept twin-kept =
      record {
        same_tests = tested;
        same_effect = λ h. record {
          same-machine = machine h;
          alike-after =
              subst (λ (x : List ℕ). Alike i.reach x other.memory) (sym mem-kept)
              (subst (λ (x : List ℕ). Alike i.reach mem x) (sym twin-kept) alike);
          spared = λ a out. ap (λ (x : List ℕ). byte_at x a) mem-kept;
        };
      }

  throw-same : (b : Bool) → SameRow (pick b (cells_row i mem m []) (throw_row i mem m)) (pick b (cells_row i twin m []) (throw_row i twin m))
  throw-same true = stores-nothing _ _ refl (λ h. refl) refl refl
  throw-same false = stores-nothing _ _ refl (λ h. refl) refl refl

  rti-same : (b : Bool) →
      SameRow (pick b (lacking i mem m a_routine) (releasing (exit_row i mem m))) (pick b (lacking i twin m a_routine) (releasing (exit_row i twin m)))
  rti-same true = stores-nothing _ _ refl (λ h. refl) refl refl
  rti-same false = stores-nothing _ _ refl (λ h. refl) refl refl

  link-same : (o : Link) → SameRow (link_row i mem m o) (link_row i twin m o)
  link-same >R = stores-nothing _ _ refl (λ h. refl) refl refl
  link-same R-AT = stores-nothing _ _ refl (λ h. refl) refl refl
  link-same R> = stores-nothing _ _ refl (λ h. refl) refl refl
  link-same CATCH = stores-nothing _ _ refl (λ h. refl) refl refl
  link-same RESETSP = stores-nothing _ _ refl (λ h. refl) refl refl
  link-same THROW = throw-same (eqb (top m) 0)
  link-same JSL = stores-nothing _ _ refl (λ h. refl) refl refl
  link-same JSR = stores-nothing _ _ refl (λ h. refl) refl refl
  link-same EXIT = stores-nothing _ _ refl (λ h. refl) refl refl
  link-same RTI = rti-same (no_return m)

  two-same : (o : Outcome) → SameRow (two_row i mem m o) (two_row i twin m o)
  two-same (Single value flag) = stores-nothing _ _ refl (λ h. refl) refl refl
  two-same (Double lower upper flag) = stores-nothing _ _ refl (λ h. refl) refl refl
  two-same DivisorZero = stores-nothing _ _ refl (λ h. refl) refl refl

  -- an access to memory whose tests all pass stays within reach
  reached : (w : Width) (a : ℕ) (row : Row) → place_of w (top m) ≡ Memory a → row.from ≡ a → row.touches ≡ size w → AllPass (tests i m row) →
      (k : ℕ) → k < size w → may_touch i.reach (a + k) ≡ true
  reached w a row is from touches h =
      let fit = place_inside w (top m) a is in
      let clear = access-unbarred i m row h (omega (arith, fit)) in
      unbarred i.reach a (size w) (ap (λ (x : ℕ). bar_of i.reach a x) (sym touches) ∙ (ap (λ (x : ℕ). bar_of i.reach x row.touches) (sym from) ∙ clear))

  fetch-same : (w : Width) (place : Place) → place_of w (top m) ≡ place → SameRow (fetch_row i mem m w place) (fetch_row i twin m w place)
  fetch-same w (Memory a) is =
      stores-nothing _ _ refl
      (λ h.
      ap (λ (x : ℕ). put (cells_row i mem m (x ∷ [])) m)
      (same_number (size w) mem twin a a (λ k below. alike.same_bytes (a + k) (reached w a (fetch_row i mem m w (Memory a)) is refl refl h k below))))
      refl refl
  fetch-same w (View a) is = stores-nothing _ _ refl (λ h. refl) refl refl
  fetch-same w Nowhere is = stores-nothing _ _ refl (λ h. refl) refl refl

  store_same : (w : Width) (place : Place) → place_of w (top m) ≡ place → SameRow (store_row i mem m w place) (store_row i twin m w place)
  store_same w (Memory a) is =
      let bytes = bytes_of (size w) (second m) in
      record {
        same_tests = refl;
        same_effect = λ h. record {
          same-machine = refl;
          alike-after =
              record {
                same_length = length-sets mem a bytes ∙ (alike.same_length ∙ sym (length-sets twin a bytes));
                same_bytes = λ b may. all-stored-alike mem twin alike.same_length a bytes b (alike.same_bytes b may);
              };
          spared = λ b out. elsewhere mem a bytes b (λ k below at.
              let may = reached w a (store_row i mem m w (Memory a)) is refl refl h k (omega (arith, length-bytes (size w) (second m))) in
              clash (may_touch i.reach (a + k)) may (ap (may_touch i.reach) (sym at) ∙ out));
        };
      }
  store_same w (View a) is = stores-nothing _ _ refl (λ h. refl) refl refl
  store_same w Nowhere is = stores-nothing _ _ refl (λ h. refl) refl refl

  pub same_row : (op : Op) → SameRow (row_of i mem m op) (row_of i twin m op)
  unfolding row_of
  same_row (SHUFFLE o) = stores-nothing _ _ refl (λ h. refl) refl refl
  same_row (JUMP o) = stores-nothing _ _ refl (λ h. refl) refl refl
  same_row (LINK o) = link-same o
  same_row (ONE o) = stores-nothing _ _ refl (λ h. refl) refl refl
  same_row (TWO o) = two-same (two_cells_of o (second m) (top m) m.flag)
  same_row (FETCH w) = fetch-same w (place_of w (top m)) refl
  same_row (STORE w) = store_same w (place_of w (top m)) refl
  same_row LITERAL = stores-nothing _ _ refl (λ h. refl) refl refl
