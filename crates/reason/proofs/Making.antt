-- The line about a file: a place and then a clause, put from the start of a text of zeros.
use mathlib.Core.List.{List, [], ◌∷◌, ◌++◌}
use mathlib.Core.Path.{◌≡◌, sym, ap, subst, ◌∙◌}
use Prim.Native.Nat.{ℕ, ◌+◌, ◌-◌, ◌*◌, ◌≤◌}
use native.Mathlib.Omega.{arith}
use Rattle.std.proofs.Common.{Result, Ok, Err, Option, Some, None, option_map, refl, Bool, true, false}
use Rattle.plain.specs.Answer.{refuses, gives}
use Rattle.plain.specs.Choice.{pick}
use lib.ListN.{length, drop, replicate, length-replicate, replicate-append-replicate}
use lib.Seq.{sets-eq, drop_at}
use Rattle.plain.specs.Zeros.{padded}
use Rattle.numbers.specs.Bytes.{number_at}
use Rattle.numbers.specs.Putting.{Appended}
use Rattle.numbers.specs.Slices.{inside, too_short, says_found, read_at}
use Rattle.image.specs.Format.{limits, count_width}
use Rattle.image.specs.Judging.{Finding, Judges, says_judged}
use Rattle.image.specs.declared.Section.{Section}
use Rattle.image.specs.declared.Fault.{Fault}
use Rattle.image.specs.declared.Limits.{Limits}
use Rattle.image.specs.declared.Spans.{Spans}
use Rattle.reason.specs.Words.{characters, filled}
use Rattle.reason.specs.Reason.{found_at, short_told, missing_told, cut_told, fault_told, good_told, finding_told, reason_of, line_of, room}

-- the same words with numbers known by other names
pub retold : {before after : List ℕ} {from next : ℕ} (words xs ys : List ℕ) → xs ≡ ys
    → Appended before from (filled words xs) after next → Appended before from (filled words ys) after next
retold {before} {after} {from} {next} words xs ys e = subst (λ (ns : List ℕ). Appended before from (filled words ns) after next) e

pub told_as : {before after : List ℕ} {from next : ℕ} {xs ys : List ℕ} → xs ≡ ys → Appended before from xs after next → Appended before from ys after next
told_as {before} {after} {from} {next} e = subst (λ (t : List ℕ). Appended before from t after next) e

-- what was put for a fault that is known
pub fault_put : {before after : List ℕ} {next : ℕ} (file : List ℕ) (f g : Fault) → f ≡ g → Appended before 0 (fault_told file g) after next
    → Appended before 0 (fault_told file f) after next
fault_put file f g e = told_as (ap (fault_told file) (sym e))

-- what follows the place where a section's elements are cut
abbrev missing_words : List ℕ
missing_words = characters "the count # asks for # bytes after it, and the file has # bytes\n"

module _ (file : List ℕ) (s : Section) (at : ℕ) where
  pub count_numbers : (n : ℕ) (l : Limits) → n ≡ found_at file at → l ≡ limits s
      → n ∷ l.fewest ∷ l.most ∷ [] ≡ found_at file at ∷ (limits s).fewest ∷ (limits s).most ∷ []
  count_numbers n l is-n is-l = λ i. is-n i ∷ (is-l i).fewest ∷ (is-l i).most ∷ []

  -- what was put for a section that the file is cut in
  module _ (r : Option ℕ) (is : says_found (option_map (λ n. n) r) ≡ read_at count_width file at) {before after : List ℕ} {from next : ℕ} where
    pub cut_count : r ≡ None → Appended before from (short_told file) after next → Appended before from (cut_told file s at) after next
    unfolding read_at
    cut_count e = told_as (by-test (inside count_width file at) (ap (λ (o : Option ℕ). says_found (option_map (λ n. n) o)) (sym e) ∙ is))
      where
        by-test : (t : Bool) → refuses too_short ≡ pick t (gives (number_at count_width file at)) (refuses too_short)
            → short_told file ≡ pick t (missing_told file s (number_at count_width file at)) (short_told file)
        by-test true same = cc
        by-test false same = refl

    pub cut_elements : (n : ℕ) (l : Limits) → r ≡ Some n → l ≡ limits s
        → Appended before from (filled missing_words (n ∷ l.width * n ∷ length file ∷ [])) after next → Appended before from (cut_told file s at) after next
    unfolding read_at
    cut_elements n l e is-l = told_as (by-test (inside count_width file at) (ap (λ (o : Option ℕ). says_found (option_map (λ n. n) o)) (sym e) ∙ is))
      where
        by-test : (t : Bool) → gives n ≡ pick t (gives (number_at count_width file at)) (refuses too_short)
            → filled missing_words (n ∷ l.width * n ∷ length file ∷ []) ≡ pick t (missing_told file s (number_at count_width file at)) (short_told file)
        by-test true same = let is-n : n ≡ number_at count_width file at = cc in λ i. filled missing_words (is-n i ∷ (is-l i).width * is-n i ∷ length file ∷ [])
        by-test false same = cc

-- ---- the whole line

zeros-after : (n k : ℕ) → k ≤ n → drop k (replicate {A = ℕ} n 0) ≡ replicate (n - k) 0
zeros-after n k h =
    let whole : n ≡ k + (n - k) = omega arith in
    ap (λ (m : ℕ). drop k (replicate {A = ℕ} m 0)) whole
    ∙ ap (drop k) (sym (replicate-append-replicate k (n - k) 0))
    ∙ drop_at (replicate k 0) (replicate (n - k) 0) k (length-replicate k 0)

-- what is put from the start of a text of zeros is a line
line_made : (line m : List ℕ) (count : ℕ) → count ≤ room → Appended (replicate room 0) 0 line m count → record { text = m; count = count } ≡ line_of line
unfolding line_of padded
line_made line m count fits added =
    let counted : count ≡ length line = added.next-is ∙ omega arith in
    let long : length (replicate {A = ℕ} room 0) ≡ room = length-replicate {A = ℕ} room 0 in
    let text : m ≡ line ++ replicate (room - length line) 0 =
    added.text-is
    ∙ sets-eq line (replicate room 0) 0 (omega arith)
    ∙ ap (λ (k : ℕ). line ++ drop k (replicate room 0)) (let e : 0 + length line ≡ length line = omega arith in e)
    ∙ ap (λ (l : List ℕ). line ++ l) (zeros-after room (length line) (omega arith)) in
    λ i. record { text = text i; count = counted i }

module _ (file : List ℕ) (j : Result Spans Fault) (judges : Judges file j) (m : List ℕ) (count : ℕ) (fits : count ≤ room) where
  as-found : (f : Finding Spans) → says_judged j ≡ f → Appended (replicate room 0) 0 (finding_told file f) m count
      → record { text = m; count = count } ≡ line_of (reason_of file)
  unfolding reason_of
  as-found f e added =
      line_made (finding_told file f) m count fits added ∙ ap (λ (g : Finding Spans). line_of (finding_told file g)) (sym e ∙ judges.clause)

  pub bad_line : (fault : Fault) → j ≡ Err fault → Appended (replicate room 0) 0 (fault_told file fault) m count
      → record { text = m; count = count } ≡ line_of (reason_of file)
  bad_line fault e = as-found (says_judged (Err fault)) (ap says_judged e)

  pub good_line : (spans : Spans) → j ≡ Ok spans → Appended (replicate room 0) 0 (good_told spans) m count
      → record { text = m; count = count } ≡ line_of (reason_of file)
  good_line spans e = as-found (says_judged (Ok spans)) (ap says_judged e)
