-- No second answer: two answers, with every byte, that meet a promise are equal.
use Rattle.std.specs.Prelude.{List, ◌≡◌, ℕ}
use Rattle.std.proofs.Common.{sym, ◌∙◌}
use Rattle.lines.specs.Bytes.{Lent, raised_in, masked_in}

pub only-raised : (n : ℕ) (state : List ℕ) (a b : Lent) → a ≡ raised_in n state → b ≡ raised_in n state → a ≡ b
only-raised n state a b h k = h ∙ sym k

pub only-masked : (mask : ℕ) (state : List ℕ) (a b : Lent) → a ≡ masked_in mask state → b ≡ masked_in mask state → a ≡ b
only-masked mask state a b h k = h ∙ sym k
