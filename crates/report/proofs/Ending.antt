-- Digits put where there is room for them and one character more: they are not refused, and the character can follow.
use Rattle.std.proofs.Common.{List, [], ◌∷◌, ◌++◌, ◌≡◌, ℕ, ◌+◌, ◌≤◌, ◌<◌, length, arith, rules, Result, Ok, Err, IsOk, subst}
use Rattle.std.proofs.Math.ListN.{set}
use Rattle.numbers.specs.Digits.{decimal, hexadecimal}
use Rattle.numbers.specs.Slices.{too_short, says_put, put_at}
use Rattle.numbers.specs.Putting.{Appended}
use Rattle.numbers.specs.Laws.Digits.{decimal-short, length-hexadecimal}
use Rattle.numbers.specs.Laws.Putting.{put-appended, put-has-room, appended-long, appended-last}
use Rattle.numbers.specs.declared.Outside.{Outside}
use Rattle.report.specs.Text.{cell_digits}
use Rattle.report.specs.Sizes.{longest_field, cell_size}

-- the digits of a number, and the longest that they are with the character after them
pub record Digits (digits : ℕ → List ℕ) (size : ℕ) : Type 0 where
  pub short : (v : ℕ) → length (digits v) + 1 ≤ size

pub in-decimal : Digits decimal longest_field
in-decimal = record { short = λ v. omega (arith, decimal-short v) }

pub of-a-cell : Digits (hexadecimal cell_digits) cell_size
of-a-cell = record { short = λ v. omega (arith, length-hexadecimal cell_digits v) }

module _ {digits : ℕ → List ℕ} {size : ℕ} (d : Digits digits size) (v : ℕ) (l m : List ℕ) (at : ℕ) (r : Result ℕ Outside)
    (done : record { said = says_put r; text = m } ≡ put_at (digits v) l at) (room : at + size ≤ length l) where
  fits : at + length (digits v) ≤ length l
  fits = let short = d.short v in omega arith

  pub not-refused : IsOk r
  not-refused = by-case r done
    where
      by-case : (q : Result ℕ Outside) → record { said = says_put q; text = m } ≡ put_at (digits v) l at → IsOk q
      by-case (Ok last) e = search rules
      by-case (Err outside) e = absurd (put-has-room l m (digits v) at too_short e fits)

  module _ (last : ℕ) (is : r ≡ Ok last) where
    added : Appended l at (digits v) m last
    added =
        put-appended l m (digits v) at last
        (subst (λ (q : Result ℕ Outside). record { said = says_put q; text = m } ≡ put_at (digits v) l at) is done) fits

    pub short : last + 1 ≤ at + size
    short = let short = d.short v in let next = added.next-is in omega arith

    pub inside : last < length m
    inside = let less = short in let long = appended-long added in omega arith

    pub ended : (end : ℕ) → Appended l at (digits v ++ (end ∷ [])) (set m last end) (last + 1)
    ended end = appended-last end added
