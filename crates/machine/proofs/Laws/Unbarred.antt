-- What is not barred may be touched: an instruction's bytes and an access to memory.
use Rattle.std.specs.Prelude.{◌≡◌, Bool, List, [], ◌∷◌, leb}
use Rattle.std.proofs.Math.Path.{refl, ap}
use Rattle.std.proofs.Common.{◌∙◌, add-zero, not-suc-le-zero, leb-true}
use Rattle.std.proofs.Math.Bool.{true, false}
use Prim.Native.Nat.{ℕ, zero, suc, ◌+◌, ◌-◌, ◌<◌, ◌≤◌}
use native.Mathlib.Omega.{arith}
use Rattle.plain.specs.Choice.{pick, both}
use Rattle.machine.specs.Limits.{memory_length}
use Rattle.machine.specs.Reach.{may_touch, Bar, none, outside, foreign, bar_of, is_outside, is_foreign}
use Rattle.machine.specs.Memory.{size, view_start, view_end, place_of}
use Rattle.machine.specs.Fetch.{Instruction}
use Rattle.machine.specs.Rows.{Row}
use Rattle.machine.specs.Checks.{Test, tests}
use Rattle.machine.proofs.Laws.Bars.{inside-free}
use Rattle.machine.proofs.Laws.Clash.{never}
use Rattle.machine.proofs.Laws.Passed.{AllPass}
use Rattle.machine.specs.declared.Machine.{Machine}
use Rattle.machine.specs.declared.Reach.{Reach}
use Rattle.machine.specs.declared.Width.{Width}
use Rattle.machine.specs.declared.Place.TheVariants.{Memory, View, Nowhere}

module _ (reach : Reach) where
  pub unbarred : (a n : ℕ) → bar_of reach a n ≡ none → (k : ℕ) → k < n → may_touch reach (a + k) ≡ true
  unfolding bar_of
  unbarred a zero e k h = absurd (not-suc-le-zero h)
  unbarred a (suc n) e k h = go (leb memory_length a) (may_touch reach a) refl e k h (unbarred (suc a) n)
    where
      go : (x y : Bool) → may_touch reach a ≡ y → pick x outside (pick y (bar_of reach (suc a) n) foreign) ≡ none → (k : ℕ) → k < suc n →
          (bar_of reach (suc a) n ≡ none → (k : ℕ) → k < n → may_touch reach (suc a + k) ≡ true) → may_touch reach (a + k) ≡ true
      go true y is e k h later = never (cc)
      go false false is e k h later = never (cc)
      go false true is e zero h later = ap (may_touch reach) (add-zero a) ∙ is
      go false true is e (suc k) h later =
          let same : a + suc k ≡ suc a + k = omega arith in
          ap (may_touch reach) same ∙ later e k (omega arith)

-- an access in memory lies wholly inside
pub place_inside : (w : Width) (a k : ℕ) → place_of w a ≡ Memory k → k + size w ≤ memory_length
unfolding place_of
place_inside w a k e = go (leb (a + size w) memory_length) (both (leb view_start a) (leb (a + size w) view_end)) refl e
  where
    go : (x y : Bool) → leb (a + size w) memory_length ≡ x → pick x (Memory a) (pick y (View (a - view_start)) Nowhere) ≡ Memory k → k + size w ≤ memory_length
    go true y is e = let same : a ≡ k = cc in let fit : a + size w ≤ memory_length = leb-true (a + size w) memory_length is in omega arith
    go false true is e = never (cc)
    go false false is e = never (cc)

-- whether the last test of a list holds
abbrev last_holds : Bool → List Test → Bool
last_holds before [] = before
last_holds before (t ∷ ts) = last_holds t.holds ts

last-passed : (before : Bool) → before ≡ false → (ts : List Test) → AllPass ts → last_holds before ts ≡ false
last-passed before e [] h = e
last-passed before e (t ∷ ts) h = last-passed t.holds h.0 ts h.1

-- an instruction whose tests all pass
module _ (i : Instruction) (m : Machine) (row : Row) (passed : AllPass (tests i m row)) where
  pub fetch-unbarred : i.bar ≡ none
  fetch-unbarred = go i.bar passed.0 passed.1.0
    where
      go : (b : Bar) → is_outside b ≡ false → is_foreign b ≡ false → b ≡ none
      go none x y = refl
      go outside x y = never (cc)
      go foreign x y = never (cc)

  pub access-unbarred : row.from + row.touches ≤ memory_length → bar_of i.reach row.from row.touches ≡ none
  access-unbarred fit = inside-free i.reach row.touches row.from fit (last-passed false refl (tests i m row) passed)
