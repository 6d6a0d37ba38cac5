-- Laws of a text that grows.
use Rattle.std.specs.Prelude.{List, [], ◌∷◌, ◌++◌, ◌≡◌, refl, ℕ, ◌+◌, ◌≤◌, length, take, drop, set}
use Rattle.std.proofs.Common.{sym, ap, ◌∙◌, add-zero, arith, length-append, take_at}
use Rattle.std.proofs.lemmas.List.Edits.{sets, sets-eq}
use Rattle.std.proofs.Math.Seq.{length-sets}
use Rattle.plain.specs.Answer.{refuses, gives}
use Rattle.numbers.specs.Slices.{WroteText, put_at}
use Rattle.numbers.specs.Putting.{Appended}
use Rattle.numbers.specs.Laws.Slices.{put-inside}
use Rattle.numbers.specs.Laws.Writing.{sets-append}

pub appended-none : (l : List ℕ) (at : ℕ) → Appended l at [] l at
appended-none l at = record { next-is = sym (add-zero at); text-is = refl }

pub appended_one : (l : List ℕ) (at b : ℕ) → Appended l at (b ∷ []) (set l at b) (at + 1)
appended_one l at b = record { next-is = refl; text-is = refl }

pub appended_then : {l m k xs ys : List ℕ} {at next end : ℕ} → Appended l at xs m next → Appended m next ys k end → Appended l at (xs ++ ys) k end
appended_then {l} {m} {k} {xs} {ys} {at} {next} {end} p q =
    let a : next ≡ at + length xs = p.next-is in
    let b : end ≡ next + length ys = q.next-is in
    let long : length (xs ++ ys) ≡ length xs + length ys = length-append xs ys in
    record {
      next-is = omega arith;
      text-is = q.text-is ∙ (λ i. sets (p.text-is i) (a i) ys) ∙ sym (sets-append xs ys l at);
    }

-- one more character
pub appended-last : {l m xs : List ℕ} {at next : ℕ} (b : ℕ) → Appended l at xs m next → Appended l at (xs ++ (b ∷ [])) (set m next b) (next + 1)
appended-last {l} {m} {xs} {at} {next} b p = appended_then p (appended_one m next b)

pub appended-long : {l m xs : List ℕ} {at next : ℕ} → Appended l at xs m next → length m ≡ length l
appended-long {l} {m} {xs} {at} p = ap length p.text-is ∙ length-sets l at xs

-- a text that is all put from the start
pub appended-text : {l m xs : List ℕ} {next : ℕ} → Appended l 0 xs m next → length xs ≤ length l → take next m ≡ xs
appended-text {l} {m} {xs} {next} p h =
    let end : next ≡ length xs = p.next-is ∙ omega arith in
    ap (take next) (p.text-is ∙ sets-eq xs l 0 (omega arith)) ∙ take_at xs (drop (0 + length xs) l) next (sym end)

-- where there is room characters are put and not refused
pub put-appended : (l m xs : List ℕ) (at next : ℕ) → record { said = gives next; text = m } ≡ put_at xs l at → at + length xs ≤ length l → Appended l at xs m next
put-appended l m xs at next e h =
    let is : ◌≡◌ {A = WroteText} (record { said = gives next; text = m }) (record { said = gives (at + length xs); text = sets l at xs }) =
    e ∙ put-inside xs l at h in
    let said : gives next ≡ gives (at + length xs) = ap (λ (s : WroteText). s.said) is in
    record { next-is = cc; text-is = ap (λ (s : WroteText). s.text) is }

pub put-has-room : (l m xs : List ℕ) (at n : ℕ) → record { said = refuses n; text = m } ≡ put_at xs l at → at + length xs ≤ length l → ⊥
put-has-room l m xs at n e h =
    let said : refuses n ≡ gives (at + length xs) = ap (λ (s : WroteText). s.said) (e ∙ put-inside xs l at h) in
    let never : ◌≡◌ {A = ℕ} 0 1 = cc in
    omega arith
