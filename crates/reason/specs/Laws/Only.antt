-- No second answer.
use Rattle.std.specs.Prelude.{List, ◌≡◌, ℕ}
use Rattle.std.proofs.Common.{sym, ◌∙◌}
use Rattle.reason.specs.Reason.{reason_of, line_of}
use Rattle.reason.specs.declared.Line.{Line}

pub only-reason : (file : List ℕ) (a b : Line) → a ≡ line_of (reason_of file) → b ≡ line_of (reason_of file) → a ≡ b
only-reason file a b h k = h ∙ sym k
