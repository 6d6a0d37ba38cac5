-- No second answer: two answers, with both buffers, that meet a promise are equal.
use Rattle.std.specs.Prelude.{List, ◌≡◌, ℕ, Result}
use Rattle.std.proofs.Common.{sym, ap, ◌∙◌}
use Rattle.numbers.specs.Laws.Bytes.{Bytes}
use Rattle.image.specs.Loading.{Reading}
use Rattle.image.specs.Laws.Only.{only-reading}
use Rattle.image.proofs.Laws.Computed.{read_of, computed}
use Rattle.machine.specs.Refusals.{says}
use Rattle.machine.specs.declared.refusal.Refusal.{Refusal}
use Rattle.machine.proofs.Laws.Refusing.{same-said}
use Rattle.glidecotton.specs.Bench.{Benched, Benches, bench_of}
use Rattle.glidecotton.specs.Host.{Hosted, Hosts, hosted}

only-benched : (image memory out : List ℕ) (a b : Benched) → Benches image memory out a → Benches image memory out b → a ≡ b
only-benched image memory out a b h k =
    let same = only-reading image memory h.reading.memory k.reading.memory h.reading.returned k.reading.returned h.is_read k.is_read in
    h.comes-to ∙ ap (λ (read : Reading). bench_of read out) same ∙ sym k.comes-to

pub only-bench : (image memory out : List ℕ) (a b : Result ℕ Refusal) (m n x y : List ℕ)
    → Benches image memory out (record { printed = says a; memory = m; out = x })
    → Benches image memory out (record { printed = says b; memory = n; out = y })
    → (a ≡ b) × (m ≡ n) × (x ≡ y)
only-bench image memory out a b m n x y h k =
    let same = only-benched image memory out _ _ h k in (
      same-said a b (ap (λ (d : Benched). d.printed) same),
      ap (λ (d : Benched). d.memory) same,
      ap (λ (d : Benched). d.out) same,
    )

pub only-host : (image memory out : List ℕ) (a b : Hosted) → Hosts image memory out a → Hosts image memory out b → a ≡ b
only-host image memory out a b h k =
    h.same ∙ ap hosted (only-benched image memory out h.done k.done h.benched k.benched) ∙ sym k.same

-- for an image of bytes the one answer can be computed
pub bench-computed : (image memory out : List ℕ) (done : Benched) → Bytes image → Benches image memory out done → done ≡ bench_of (read_of image memory) out
bench-computed image memory out done bytes h =
    h.comes-to ∙ ap (λ (read : Reading). bench_of read out) (computed image memory h.reading.memory h.reading.returned bytes h.is_read)
