-- The digits of a number have room, so they are not refused.
use Rattle.std.proofs.Common.{List, ◌≡◌, subst, ℕ, ◌+◌, ◌≤◌, length, arith, rules, Result, Ok, Err, IsOk}
use Rattle.numbers.specs.Digits.{decimal, most_decimal}
use Rattle.numbers.specs.Putting.{Appended}
use Rattle.numbers.specs.Slices.{too_short, says_put, put_at}
use Rattle.numbers.specs.Laws.Digits.{decimal-short}
use Rattle.numbers.specs.Laws.Putting.{put-appended, put-has-room}
use Rattle.numbers.specs.declared.Outside.{Outside}

module _ (v : ℕ) (l m : List ℕ) (at : ℕ) (r : Result ℕ Outside) (done : record { said = says_put r; text = m } ≡ put_at (decimal v) l at)
    (room : at + most_decimal ≤ length l) where
  fits : at + length (decimal v) ≤ length l
  fits = omega (arith, decimal-short v)

  pub not_refused : IsOk r
  not_refused = by-case r done
    where
      by-case : (q : Result ℕ Outside) → record { said = says_put q; text = m } ≡ put_at (decimal v) l at → IsOk q
      by-case (Ok end) e = search rules
      by-case (Err outside) e = absurd (put-has-room l m (decimal v) at too_short e fits)

  module _ (end : ℕ) (is : r ≡ Ok end) where
    pub number_added : Appended l at (decimal v) m end
    number_added =
        put-appended l m (decimal v) at end
        (subst (λ (q : Result ℕ Outside). record { said = says_put q; text = m } ≡ put_at (decimal v) l at) is done) fits

    pub number_short : end ≤ at + most_decimal
    number_short = let next = number_added.next-is in omega (arith, decimal-short v)
