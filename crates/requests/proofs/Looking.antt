-- The lines in turn, the lowest first: once n of them are seen, none of those is due.
use mathlib.Core.Path.{◌≡◌, refl, sym, ap, ◌∙◌, subst}
use mathlib.Core.Bool.{Bool, true, false}
use mathlib.Core.List.{List, [], ◌∷◌}
use Prim.Native.Nat.{ℕ, zero, suc, ◌+◌, ◌-◌, ◌/◌, ◌%◌, ◌^◌, ◌≤◌, ◌<◌}
use native.Mathlib.Nat.{pow-suc, div-div-eq-div-mul, div-one}
use native.Mathlib.Numerals.{add-one}
use native.Mathlib.Omega.{arith}
use borrow.Author.Tests.{eq-eqb, eqb-true}
use Rattle.plain.specs.Choice.{pick, both}
use Rattle.machine.specs.Lines.{has_bit, is_due, Line, none, line, first_due, lowest_due}
use Rattle.machine.specs.declared.Lines.{Lines}

-- so many lines from this one on
abbrev lines_from : ℕ → ℕ → List ℕ
lines_from zero n = []
lines_from (suc k) n = n ∷ lines_from k (suc n)

-- the block has no part in it
abbrev given : ℕ → ℕ → Lines
given waiting mask = record { mask = mask; waiting = waiting; block = 0 }

-- what is left of both numbers, and of the lines
pub record Looking (waiting₀ mask₀ waiting mask n : ℕ) : Type 0 where
  pub seen : n ≤ 15
  pub waiting-is : waiting ≡ waiting₀ / 2 ^ n
  pub mask_is : mask ≡ mask₀ / 2 ^ n
  pub left : first_due (given waiting₀ mask₀) (lines_from (15 - n) (suc n)) ≡ lowest_due (given waiting₀ mask₀)

-- halved, a number has lost one bit more
halved : (x₀ : ℕ) {x : ℕ} (n : ℕ) → x ≡ x₀ / 2 ^ n → x / 2 ≡ x₀ / 2 ^ suc n
halved x₀ n e = ap (λ (y : ℕ). y / 2) e ∙ div-div-eq-div-mul x₀ (2 ^ n) 2 ∙ ap (λ (p : ℕ). x₀ / p) (sym (pow-suc 2 n))

pub looking-none : (waiting₀ mask₀ : ℕ) → Looking waiting₀ mask₀ waiting₀ mask₀ 0
unfolding lowest_due
looking-none waiting₀ mask₀ =
    record { seen = omega arith; waiting-is = sym (div-one waiting₀); mask_is = sym (div-one mask₀); left = refl }

-- all lines are seen
pub looking-all : {waiting mask n : ℕ} (l : Lines) → Looking l.waiting l.mask waiting mask n → 15 ≤ n → none ≡ lowest_due l
unfolding lowest_due
looking-all {waiting} {mask} {n} l h over =
    let over : 0 ≡ 15 - n = omega arith in
    ap (λ (k : ℕ). first_due (given l.waiting l.mask) (lines_from k (suc n))) over ∙ h.left

module _ {waiting₀ mask₀ waiting mask n : ℕ} (h : Looking waiting₀ mask₀ waiting mask n) (under : n < 15) where
  abbrev Next : Bool → Type 0
  Next b = pick b (line (suc n)) (first_due (given waiting₀ mask₀) (lines_from (15 - suc n) (suc (suc n)))) ≡ lowest_due (given waiting₀ mask₀)

  next : Next (is_due (given waiting₀ mask₀) (suc n))
  next =
      let one : suc (15 - suc n) ≡ 15 - n = omega arith in
      ap (λ (k : ℕ). first_due (given waiting₀ mask₀) (lines_from k (suc n))) one ∙ h.left

  w-bit : waiting₀ / 2 ^ suc n % 2 ≡ waiting / 2 % 2
  w-bit = ap (λ (x : ℕ). x % 2) (sym (halved waiting₀ n h.waiting-is))

  m-bit : mask₀ / 2 ^ suc n % 2 ≡ mask / 2 % 2
  m-bit = ap (λ (x : ℕ). x % 2) (sym (halved mask₀ n h.mask_is))

  -- the next line is due where both bits are set
  due-now : waiting / 2 % 2 + mask / 2 % 2 ≡ 2 → is_due (given waiting₀ mask₀) (suc n) ≡ true
  due-now e =
      rw (
        eq-eqb (waiting₀ / 2 ^ suc n % 2) 1 (w-bit ∙ omega arith),
        eq-eqb (mask₀ / 2 ^ suc n % 2) 1 (m-bit ∙ omega arith),
      )

  not-now : (waiting / 2 % 2 + mask / 2 % 2 ≡ 2 → ⊥) → is_due (given waiting₀ mask₀) (suc n) ≡ false
  not-now clear = go (has_bit (suc n) waiting₀) (has_bit (suc n) mask₀) refl refl
    where
      go : (a b : Bool) → has_bit (suc n) waiting₀ ≡ a → has_bit (suc n) mask₀ ≡ b → both a b ≡ false
      go true true ea eb =
          let w : waiting / 2 % 2 ≡ 1 = sym w-bit ∙ eqb-true (waiting₀ / 2 ^ suc n % 2) 1 ea in
          let m : mask / 2 % 2 ≡ 1 = sym m-bit ∙ eqb-true (mask₀ / 2 ^ suc n % 2) 1 eb in
          absurd (clear (omega arith))
      go true false ea eb = refl
      go false b ea eb = refl

  pub looking-on : (waiting / 2 % 2 + mask / 2 % 2 ≡ 2 → ⊥) → Looking waiting₀ mask₀ (waiting / 2) (mask / 2) (n + 1)
  looking-on clear =
      subst (λ (k : ℕ). Looking waiting₀ mask₀ (waiting / 2) (mask / 2) k) (sym (add-one n))
      (record {
        seen = under;
        waiting-is = halved waiting₀ n h.waiting-is;
        mask_is = halved mask₀ n h.mask_is;
        left = subst Next (not-now clear) next;
      })

  pub looking-found : waiting / 2 % 2 + mask / 2 % 2 ≡ 2 → line (n + 1) ≡ lowest_due (given waiting₀ mask₀)
  looking-found e = ap (λ (k : ℕ). line k) (add-one n) ∙ subst Next (due-now e) next

-- whatever the block is
pub whatever-block : (l : Lines) {d : Line} → d ≡ lowest_due (given l.waiting l.mask) → d ≡ lowest_due l
unfolding lowest_due
whatever-block l e = e
