-- No second answer: two answers that meet a promise are equal.
use Rattle.std.specs.Prelude.{Option, Some, None, Result, ◌≡◌, refl, ℕ}
use Rattle.std.proofs.Common.{sym, ◌∙◌}
use Rattle.machine.specs.Lines.{lowest_due, serving}
use Rattle.machine.specs.declared.Lines.{Lines}
use Rattle.machine.specs.Refusals.{says}
use Rattle.machine.specs.declared.refusal.Refusal.{Refusal}
use Rattle.machine.proofs.Laws.Refusing.{same-said}
use Rattle.requests.specs.Requests.{says_due, entering_with, raised_by}

-- an answer says nothing that another case says
pub same-due : (a b : Option ℕ) → says_due a ≡ says_due b → a ≡ b
same-due None None e = refl
same-due None (Some n) e = cc
same-due (Some n) None e = cc
same-due (Some n) (Some k) e = cc

pub only-lowest : (lines : Lines) (a b : Option ℕ) → says_due a ≡ lowest_due lines → says_due b ≡ lowest_due lines → a ≡ b
only-lowest lines a b h k = same-due a b (h ∙ sym k)

pub only-entering : (lines : Lines) (r s : ℕ) (a b : Option ℕ) → says_due a ≡ entering_with lines r s → says_due b ≡ entering_with lines r s → a ≡ b
only-entering lines r s a b h k = same-due a b (h ∙ sym k)

pub only-serving : (lines : Lines) (n : ℕ) (a b : Lines) → a ≡ serving n lines → b ≡ serving n lines → a ≡ b
only-serving lines n a b h k = h ∙ sym k

pub only-raised : (waiting n : ℕ) (a b : Result ℕ Refusal) → says a ≡ raised_by n waiting → says b ≡ raised_by n waiting → a ≡ b
only-raised waiting n a b h k = same-said a b (h ∙ sym k)
