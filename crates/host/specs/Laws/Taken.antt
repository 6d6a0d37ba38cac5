-- The machine that the reader hands out is the one that the next run takes, and the sum beside it is that of the memory that it filled.
use Rattle.std.specs.Prelude.{List, [], ◌≡◌, refl, ℕ, length}
use Rattle.std.proofs.Math.Path.{ap}
use Rattle.std.proofs.Common.{◌∙◌, arith}
use Rattle.plain.specs.Answer.{refuses, gives}
use Rattle.numbers.specs.Bytes.{bytes_of}
use Rattle.numbers.specs.Laws.Bytes.{length-bytes, number_fits}
use Rattle.machine.specs.Sum.{sum_of, run_summed}
use Rattle.machine.specs.declared.Machine.{Machine}
use Rattle.image.specs.Loading.{Read, wrong-memory, not-spelled, refused_with, loaded_from}
use Rattle.image.specs.Loading as loading
use Rattle.state.specs.Layout as layout
use Rattle.state.specs.Lent.{Lent}
use Rattle.state.specs.Laws.Spelling.{state-sound}
use Rattle.host.specs.Handed.{Hands, wrong-length, run, handed_back}
use Rattle.host.specs.Read.{RunsRead, sum_read}
use Rattle.reader.specs.Reads.{Reads, refused, read}
use Rattle.reader.specs.Reads as reads

-- no refusal of the reader is taken for a good image
refusal-not-zero : (file before after : List ℕ) (h : loading.Returned) (number : ℕ) → Read file before after h → h.says ≡ refuses number → number ≡ 0 → ⊥
unfolding refused_with loaded_from
refusal-not-zero file before after h number (wrong-memory other) e zero = let z : ◌≡◌ {A = ℕ} 2 0 = cc in omega arith
refusal-not-zero file before after h number (not-spelled long none) e zero = let z : ◌≡◌ {A = ℕ} 14 0 = cc in omega arith
refusal-not-zero file before after h number (loading.read i long spellable spells) e zero = let z : ◌≡◌ {A = ℕ} 0 1 = cc in omega arith

module _ (image memory state result : List ℕ) (budget sum : ℕ) (counts : List ℕ) where
  -- with whatever sum is handed in
  pub read-then-run : (a b : Lent) → Reads image memory state result a → a.number ≡ 0 → length counts ≡ (layout.result).width
      → Hands a.state a.memory budget sum counts b → RunsRead image memory budget sum b
  unfolding refused_with
  read-then-run a b (reads.wrong-length h) zero long hands = absurd (omega arith)
  read-then-run a b (refused number all too is) zero long hands =
      absurd (refusal-not-zero image memory memory (refused_with number) number is (λ i. refuses number) zero)
  read-then-run a b (read r all too is good fits small) zero long (wrong-length h) = absurd (h (state-sound.long r.returned.machine fits, long))
  read-then-run a b (read r all too is good fits small) zero long (run m also same fit spells left) =
      record {
        reading = r;
        is_read = is;
        good = good;
        runs = ap (λ (x : Machine). handed_back (run_summed r.memory x budget sum)) (state-sound.only m r.returned.machine fit fits spells);
      }

-- a good image has its memory's sum beside it
pub read-adds : {file before after : List ℕ} {h : loading.Returned} → Read file before after h → h.says ≡ gives tt → h.sum ≡ sum_of after
unfolding refused_with loaded_from
read-adds (wrong-memory other) good = let z : ◌≡◌ {A = ℕ} 0 1 = cc in absurd (omega arith)
read-adds (not-spelled long none) good = let z : ◌≡◌ {A = ℕ} 0 1 = cc in absurd (omega arith)
read-adds (loading.read i long spellable spells) good = refl

-- and the bytes that the reader hands out tell it
pub read-sum : (image memory state result : List ℕ) (a : Lent) → Reads image memory state result a → a.number ≡ 0 → sum_read a ≡ sum_of a.memory
unfolding refused_with Rattle.state.specs.Parts.field_bytes
read-sum image memory state result a (reads.wrong-length h) zero = absurd (omega arith)
read-sum image memory state result a (refused number all too is) zero =
    absurd (refusal-not-zero image memory memory (refused_with number) number is (λ i. refuses number) zero)
read-sum image memory state result a (read r all too is good fits small) zero =
    number_fits 8 r.returned.sum (bytes_of 8 r.returned.budget) [] 8 (length-bytes 8 r.returned.budget) small.1.0 ∙ read-adds is good
