-- The tasks in circular order, as the code counts them, and what it answers where some are not ready.
use mathlib.Core.Path.{◌≡◌, sym}
use mathlib.Core.List.{List, [], ◌∷◌}
use Prim.Native.Nat.{ℕ, ◌%◌}
use native.Mathlib.Omega.{arith}
use borrow.Author.Tests.{eq-eqb, ne_eqb}
use lib.ListN.{get_or}
use Rattle.machine.specs.Limits.{tasks_count}
use Rattle.machine.specs.Tasks.{ready, nobodys, of_task, following, in_order}
use Rattle.order.specs.Order.{first_kept}

-- what is counted on from a task
counted : (t : ℕ) {n : ℕ} → n ≡ following (t % tasks_count) → n ≡ following t
counted t e = omega (arith, e)

module _ (kept : List ℕ) (from : ℕ) where
  abbrev a : ℕ
  a = from % tasks_count

  abbrev Asked : ℕ → ℕ → ℕ → Type 0
  Asked b c d = first_kept kept (a ∷ b ∷ c ∷ d ∷ []) ≡ first_kept kept (in_order tasks_count a)

  abbrev NotReady : ℕ → Type 0
  NotReady t = get_or kept t 0 ≡ ready → ⊥

  pub at_first : get_or kept a 0 ≡ ready → of_task a ≡ first_kept kept (in_order tasks_count a)
  at_first h = rw (eq-eqb (get_or kept a 0) ready h)

  module _ {b : ℕ} (eb : b ≡ following (a % tasks_count)) (na : NotReady a) where
    pub at_second : get_or kept b 0 ≡ ready → of_task b ≡ first_kept kept (in_order tasks_count a)
    at_second h = rw (ne_eqb (get_or kept a 0) ready na, sym (counted a eb), eq-eqb (get_or kept b 0) ready h)

    module _ {c : ℕ} (ec : c ≡ following (b % tasks_count)) (nb : NotReady b) where
      pub at-third : get_or kept c 0 ≡ ready → of_task c ≡ first_kept kept (in_order tasks_count a)
      at-third h =
          rw (ne_eqb (get_or kept a 0) ready na, sym (counted a eb), ne_eqb (get_or kept b 0) ready nb, sym (counted b ec), eq-eqb (get_or kept c 0) ready h)

      module _ {d : ℕ} (ed : d ≡ following (c % tasks_count)) (nc : NotReady c) where
        pub at-fourth : get_or kept d 0 ≡ ready → of_task d ≡ first_kept kept (in_order tasks_count a)
        at-fourth h =
            rw (ne_eqb (get_or kept a 0) ready na, sym (counted a eb), ne_eqb (get_or kept b 0) ready nb, sym (counted b ec), ne_eqb (get_or kept c 0) ready nc, sym (counted c ed), eq-eqb (get_or kept d 0) ready h)

        pub at_none : NotReady d → nobodys ≡ first_kept kept (in_order tasks_count a)
        at_none nd =
            rw (ne_eqb (get_or kept a 0) ready na, sym (counted a eb), ne_eqb (get_or kept b 0) ready nb, sym (counted b ec), ne_eqb (get_or kept c 0) ready nc, sym (counted c ed), ne_eqb (get_or kept d 0) ready nd)
