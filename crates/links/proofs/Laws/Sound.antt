-- What the test `linked` says, as facts that a proof can use.
use Rattle.std.specs.Prelude.{true, ◌≡◌, ℕ, zero, suc, ◌<◌, ◌≤◌, T, ltb, leb}
use Rattle.std.proofs.Common.{leb→le, le→leb, ltb→lt, lt→ltb}
use Rattle.plain.specs.Laws.Choice.{both-parts, both_hold, is_true}
use Rattle.links.specs.Depths.{returns_depth, subroutines_depth, exceptions_depth, most_copy_of_p}
use Rattle.links.specs.Linked.{linked, rises, within, copy_of_r, copy_of_s, copy_of_p}
use Rattle.links.specs.declared.Links.{Links}

-- the copies rise strictly from level 1 to level n, with the last below the top
abbrev pub Rise : (ℕ → ℕ) → ℕ → ℕ → Type 0
Rise copy top zero = Unit {0}
Rise copy top (suc n) = (copy (suc n) < top) × Rise copy (copy (suc n)) n

-- each copy from level 1 to level n is at most the limit
abbrev pub Within : (ℕ → ℕ) → ℕ → ℕ → Type 0
Within copy limit zero = Unit {0}
Within copy limit (suc n) = (copy (suc n) ≤ limit) × Within copy limit n

-- well formed, part by part
pub record Sound (l : Links) : Type 0 where
  pub r-within : l.r ≤ returns_depth
  pub s-within : l.s ≤ subroutines_depth
  pub e-within : l.e ≤ exceptions_depth
  pub returns-rise : Rise (copy_of_r l.frames) l.r l.s
  pub subroutines-rise : Rise (copy_of_s l.levels) l.s l.e
  pub depths-within : Within (copy_of_p l.levels) most_copy_of_p l.e

rise-of : (copy : ℕ → ℕ) (top n : ℕ) → T (rises copy top n) → Rise copy top n
rise-of copy top zero t = tt
rise-of copy top (suc n) t =
    let h = both-parts (ltb (copy (suc n)) top) (rises copy (copy (suc n)) n) t in
    (ltb→lt (copy (suc n)) top h.0, rise-of copy (copy (suc n)) n h.1)

rises-of : (copy : ℕ → ℕ) (top n : ℕ) → Rise copy top n → T (rises copy top n)
rises-of copy top zero h = tt
rises-of copy top (suc n) h =
    both_hold (ltb (copy (suc n)) top) (rises copy (copy (suc n)) n) (lt→ltb (copy (suc n)) top h.0) (rises-of copy (copy (suc n)) n h.1)

within_of : (copy : ℕ → ℕ) (limit n : ℕ) → T (within copy limit n) → Within copy limit n
within_of copy limit zero t = tt
within_of copy limit (suc n) t =
    let h = both-parts (leb (copy (suc n)) limit) (within copy limit n) t in
    (leb→le (copy (suc n)) limit h.0, within_of copy limit n h.1)

of-within : (copy : ℕ → ℕ) (limit n : ℕ) → Within copy limit n → T (within copy limit n)
of-within copy limit zero h = tt
of-within copy limit (suc n) h =
    both_hold (leb (copy (suc n)) limit) (within copy limit n) (le→leb (copy (suc n)) limit h.0) (of-within copy limit n h.1)

-- links that pass the test are sound
pub sound : (l : Links) → T (linked l) → Sound l
unfolding linked
sound l t =
    let r = both-parts (leb l.r returns_depth) _ t in
    let s = both-parts (leb l.s subroutines_depth) _ r.1 in
    let e = both-parts (leb l.e exceptions_depth) _ s.1 in
    let returns = both-parts (rises (copy_of_r l.frames) l.r l.s) _ e.1 in
    let subroutines = both-parts (rises (copy_of_s l.levels) l.s l.e) _ returns.1 in
    record {
      r-within = leb→le l.r returns_depth r.0;
      s-within = leb→le l.s subroutines_depth s.0;
      e-within = leb→le l.e exceptions_depth e.0;
      returns-rise = rise-of (copy_of_r l.frames) l.r l.s returns.0;
      subroutines-rise = rise-of (copy_of_s l.levels) l.s l.e subroutines.0;
      depths-within = within_of (copy_of_p l.levels) most_copy_of_p l.e subroutines.1;
    }

-- sound links pass it
pub linked_of : (l : Links) → Sound l → T (linked l)
unfolding linked
linked_of l h =
    both_hold (leb l.r returns_depth) _ (le→leb l.r returns_depth h.r-within)
    (both_hold (leb l.s subroutines_depth) _ (le→leb l.s subroutines_depth h.s-within)
    (both_hold (leb l.e exceptions_depth) _ (le→leb l.e exceptions_depth h.e-within)
    (both_hold (rises (copy_of_r l.frames) l.r l.s) _ (rises-of (copy_of_r l.frames) l.r l.s h.returns-rise)
    (both_hold (rises (copy_of_s l.levels) l.s l.e) _ (rises-of (copy_of_s l.levels) l.s l.e h.subroutines-rise)
    (of-within (copy_of_p l.levels) most_copy_of_p l.e h.depths-within)))))

-- the same as an equation
pub linked-true : (l : Links) → Sound l → linked l ≡ true
linked-true l h = is_true (linked l) (linked_of l h)
