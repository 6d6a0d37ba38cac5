-- A number written inside a slice: its bytes stand there.
use Rattle.std.specs.Prelude.{◌≡◌, List, ℕ, ◌+◌, ◌≤◌, length}
use Rattle.std.proofs.Common.{ap, ◌∙◌, le-leb}
use Rattle.std.proofs.lemmas.List.Edits.{sets}
use Rattle.plain.specs.Answer.{Answer}
use Rattle.numbers.specs.Bytes.{bytes_of}
use Rattle.numbers.specs.Slices.{Wrote, write_at}

pub written : (n v at : ℕ) (before : List ℕ) {after : List ℕ} {said : Answer (Unit {0})} → at + n ≤ length before →
    ◌≡◌ {A = Wrote} (record { said = said; bytes = after }) (write_at n v before at) → after ≡ sets before at (bytes_of n v)
unfolding write_at
written n v at before inside e =
    ap (λ (w : Wrote). w.bytes) e ∙ rw (le-leb (at + n) (length before) inside)
