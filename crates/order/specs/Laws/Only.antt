-- No second answer: two answers that meet a promise are equal.
use Rattle.std.specs.Prelude.{Option, Some, None, List, ◌≡◌, refl, ℕ, ◌%◌}
use Rattle.std.proofs.Common.{sym, ◌∙◌}
use Rattle.machine.specs.Limits.{tasks_count}
use Rattle.machine.specs.Tasks.{in_order, following}
use Rattle.order.specs.Order.{says_next, first_kept}

-- an answer says nothing that another case says
pub same_next : (a b : Option ℕ) → says_next a ≡ says_next b → a ≡ b
same_next None None e = refl
same_next None (Some t) e = cc
same_next (Some t) None e = cc
same_next (Some t) (Some u) e = cc

pub only_next : (kept : List ℕ) (from : ℕ) (a b : Option ℕ) → says_next a ≡ first_kept kept (in_order tasks_count (from % tasks_count))
    → says_next b ≡ first_kept kept (in_order tasks_count (from % tasks_count)) → a ≡ b
only_next kept from a b h k = same_next a b (h ∙ sym k)

pub only-after : (t a b : ℕ) → a ≡ following (t % tasks_count) → b ≡ following (t % tasks_count) → a ≡ b
only-after t a b h k = h ∙ sym k
