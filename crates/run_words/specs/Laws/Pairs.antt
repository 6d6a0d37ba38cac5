-- Machines and kept numbers, as tasks.
use Rattle.std.specs.Prelude.{◌≡◌, refl, Bool, true, false, List, [], ◌∷◌, ℕ, zero, suc, eqb, length, get_or}
use Rattle.std.proofs.Common.{ap, sym, ◌∙◌, arith}
use Rattle.std.proofs.Math.Path.{subst⁻¹}
use Rattle.plain.specs.Choice.{pick, both}
use Rattle.machine.specs.State.{Whole}
use Rattle.machine.specs.Tasks.{Task, task_of, paired, no_machine, ready, is_ready, Whose, of_task, first_ready, task_good, all_good, AllWhole}
use Rattle.machine.proofs.Laws.Pairs.{paired_at}
use Rattle.machine.specs.declared.Machine.{Machine}
use Rattle.order.specs.Order.{first_kept}

-- the next ready task is the next by the kept numbers
pub first-kept : (ms : List Machine) (ks : List ℕ) → length ms ≡ length ks → (ts : List ℕ) → first_kept ks ts ≡ first_ready (paired ms ks) ts
first-kept ms ks e [] = refl
first-kept ms ks e (t ∷ ts) =
    ap (λ (rest : Whose). pick (eqb (get_or ks t 0) ready) (of_task t) rest) (first-kept ms ks e ts) ∙
    ap (λ (x : Task). pick (is_ready x) (of_task t) (first_ready (paired ms ks) ts)) (sym (paired_at ms ks t e))

-- so many of each are their elements, one after another
abbrev pub listed : ℕ → ℕ → List Machine → List ℕ → List Task
listed zero i ms ks = []
listed (suc n) i ms ks = task_of (get_or ms i no_machine) (get_or ks i 0) ∷ listed n (suc i) ms ks

shifted : (n i : ℕ) (x : Machine) (y : ℕ) (ms : List Machine) (ks : List ℕ) → listed n (suc i) (x ∷ ms) (y ∷ ks) ≡ listed n i ms ks
shifted zero i x y ms ks = refl
shifted (suc n) i x y ms ks = ap (λ (l : List Task). task_of (get_or ms i no_machine) (get_or ks i 0) ∷ l) (shifted n (suc i) x y ms ks)

pub all_of : (n : ℕ) (ms : List Machine) (ks : List ℕ) → length ms ≡ n → length ks ≡ n → paired ms ks ≡ listed n 0 ms ks
all_of zero [] ks em ek = refl
all_of zero (x ∷ ms) ks em ek = absurd (omega arith)
all_of (suc n) [] ks em ek = absurd (omega arith)
all_of (suc n) (x ∷ ms) [] em ek = absurd (omega arith)
all_of (suc n) (x ∷ ms) (y ∷ ks) em ek =
    ap (λ (l : List Task). task_of x y ∷ l) (all_of n ms ks (omega arith) (omega arith) ∙ sym (shifted n 0 x y ms ks))

-- four tasks are good where each is, and judged in turn
module _ (ms : List Machine) (ks : List ℕ) (em : length ms ≡ 4) (ek : length ks ≡ 4) where
  abbrev at : ℕ → Task
  at i = task_of (get_or ms i no_machine) (get_or ks i 0)

  four-good : all_good (paired ms ks) ≡ both (task_good (at 0)) (both (task_good (at 1)) (both (task_good (at 2)) (both (task_good (at 3)) true)))
  four-good = ap all_good (all_of 4 ms ks em ek)

  module _ {a : Bool} (ea : a ≡ task_good (at 0)) where
    pub first-bad : a ≡ false → false ≡ all_good (paired ms ks)
    first-bad h = rw (four-good, sym ea, h)

    module _ {b : Bool} (eb : b ≡ task_good (at 1)) (ha : a ≡ true) where
      pub second-bad : b ≡ false → false ≡ all_good (paired ms ks)
      second-bad h = rw (four-good, sym ea, ha, sym eb, h)

      module _ {c : Bool} (ec : c ≡ task_good (at 2)) (hb : b ≡ true) where
        pub third-bad : c ≡ false → false ≡ all_good (paired ms ks)
        third-bad h = rw (four-good, sym ea, ha, sym eb, hb, sym ec, h)

        pub fourth-decides : {d : Bool} → d ≡ task_good (at 3) → c ≡ true → d ≡ all_good (paired ms ks)
        fourth-decides {d} ed h = rw (four-good, sym ea, ha, sym eb, hb, sym ec, h, sym ed) (go d)
          where
            go : (x : Bool) → x ≡ both x true
            go true = refl
            go false = refl

  pub four-whole : Whole (get_or ms 0 no_machine) → Whole (get_or ms 1 no_machine) → Whole (get_or ms 2 no_machine) → Whole (get_or ms 3 no_machine) → AllWhole (paired ms ks)
  four-whole a b c d = subst⁻¹ AllWhole (all_of 4 ms ks em ek) (a, (b, (c, (d, tt))))
