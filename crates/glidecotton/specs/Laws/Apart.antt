-- A host can tell a refusal from a text: the one refusal is 2, and every text has at least 3 bytes.
use Rattle.std.specs.Prelude.{Bool, true, false, List, ◌++◌, ◌≡◌, refl, ℕ, ◌≤◌, leb, length, drop}
use Rattle.std.proofs.Common.{sym, ap, subst, arith, leb-true}
use Rattle.plain.specs.Answer.{Answer, refuses, gives}
use Rattle.plain.specs.Choice.{pick}
use Rattle.machine.specs.Run.{run_of}
use Rattle.machine.specs.declared.Ran.{Ran}
use Rattle.image.specs.Loading.{Returned, Read, wrong-memory, not-spelled, read, refused_with, loaded_from}
use Rattle.report.specs.Printing.{Reported, printed_in, report_of, refusal_of, untouched}
use Rattle.links.specs.Depths.{cells_depth}
use Rattle.report.specs.Text.{text_of, refusal_text}
use Rattle.report.specs.Laws.Size.{text-size}
use Rattle.report.specs.Laws.Sample.{sample-refusal}
use Rattle.glidecotton.specs.Bench.{Benched, Benches, bench_of}
use Rattle.glidecotton.specs.Host.{number_of}

-- refused with 2, or a text of at least 3 bytes
abbrev pub Apart : Answer ℕ → Type 0
Apart (gives count) = 3 ≤ count
Apart (refuses number) = number ≡ 2

printed-apart : (text out : List ℕ) → 3 ≤ length text → Apart (printed_in text out).printed
unfolding printed_in
printed-apart text out h = by-test (leb (length text) (length out)) (text ++ drop (length text) out)
  where
    by-test : (t : Bool) (after : List ℕ) → Apart (pick {A = Reported} t (record { printed = gives (length text); out = after }) (untouched out)).printed
    by-test true after = h
    by-test false after = refl

report-apart : (ran : Ran) (out : List ℕ) → Apart (report_of ran out).printed
unfolding report_of
report-apart ran out = by-test (leb ran.machine.p cells_depth) refl
  where
    by-test : (t : Bool) → leb ran.machine.p cells_depth ≡ t → Apart (pick t (printed_in (text_of ran) out) (untouched out)).printed
    by-test true e =
        let long : 20 ≤ length (text_of ran) = (text-size ran (leb-true _ _ e)).0 in
        printed-apart (text_of ran) out (omega arith)
    by-test false e = refl

-- by what the reader may have answered
read-apart : (image before after out : List ℕ) (returned : Returned) → Read image before after returned
    → Apart (bench_of (record { memory = after; returned = returned }) out).printed
unfolding bench_of refused_with loaded_from refusal_of
read-apart image before after out returned (wrong-memory h) = refl
read-apart image before after out returned (not-spelled h none) =
    let three : length (refusal_text 14) ≡ 3 = ap length sample-refusal in
    printed-apart (refusal_text 14) out (omega arith)
read-apart image before after out returned (read i h spellable spells) = report-apart (run_of _ _ _).ran out

pub bench-apart : (image memory out : List ℕ) (done : Benched) → Benches image memory out done → Apart done.printed
bench-apart image memory out done h =
    subst (λ (d : Benched). Apart d.printed) (sym h.comes-to) (read-apart image memory h.reading.memory out h.reading.returned h.is_read)

-- a host's number is 2 for every refusal and for nothing else
pub two-is-refused : (image memory out : List ℕ) (done : Benched) → Benches image memory out done → number_of done.printed ≡ 2 → done.printed ≡ refuses 2
two-is-refused image memory out done h two = by-case done.printed (bench-apart image memory out done h) two
  where
    by-case : (p : Answer ℕ) → Apart p → number_of p ≡ 2 → p ≡ refuses 2
    by-case (gives count) a e = absurd (omega arith)
    by-case (refuses number) a e = ap refuses e
