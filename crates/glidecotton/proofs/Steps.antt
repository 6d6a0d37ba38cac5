-- A bench's promise from what its parts ensure: the three ways it can end.
use mathlib.Core.List.{List}
use mathlib.Core.Path.{◌≡◌, refl, sym, ap, ◌∙◌}
use Prim.Native.Nat.{ℕ}
use borrow.Author.Tests.{ne_eqb}
use Rattle.plain.specs.Answer.{refuses}
use Rattle.machine.specs.Run.{After, run_of}
use Rattle.machine.specs.State.{fresh_with, machine_with, fresh_machine}
use Rattle.machine.specs.declared.Machine.{Machine}
use Rattle.std.proofs.Common.{Result, Ok, Err}
use Rattle.machine.specs.Refusals.{number_of, says}
use Rattle.machine.specs.declared.refusal.Refusal.{Refusal}
use Rattle.machine.specs.declared.refusal.Refusal.TheVariants.{NotAsAsked}
use Rattle.machine.proofs.Laws.Refusing.{same-refusal}
use Rattle.image.specs.Loading.{Returned, Reading, Read, wrong-memory, not-spelled, read, returned, refused_with, loaded_from, other_memory}
use Rattle.image.specs.declared.Loaded.{Loaded}
use Rattle.report.specs.Printing.{Reported, report_of, refusal_of}
use Rattle.glidecotton.specs.Bench.{Benched, Benches, bench_of, after_read, after_run, with}

-- what the reader returns is fresh but for its parameter cells
read-fresh : {file before after : List ℕ} {r : Returned} → Read file before after r → r.machine ≡ fresh_with r.machine.cells r.machine.p
unfolding refused_with loaded_from fresh_machine machine_with
read-fresh (wrong-memory other) = refl
read-fresh (not-spelled long none) = refl
read-fresh (read i long good is) = refl

module _ (image memory out mid : List ℕ) (loaded : Loaded) (is_read : Read image memory mid (returned loaded)) where
  abbrev reading : Reading
  reading = record { memory = mid; returned = returned loaded }

  by-verdict : (v : Result (Unit {0}) Refusal) → loaded.verdict ≡ v → (done : Benched) → done ≡ after_read (says v) reading out → Benches image memory out done
  unfolding bench_of
  by-verdict v e done h =
      record { reading = reading; is_read = is_read; comes-to = h ∙ ap (λ (w : Result (Unit {0}) Refusal). after_read (says w) reading out) (sym e) }

  pub no_text : (why : Refusal) → loaded.verdict ≡ Err why → why ≡ NotAsAsked
      → Benches image memory out (record { printed = refuses (number_of why); memory = mid; out = out })
  no_text why e is =
      by-verdict (Err NotAsAsked) (e ∙ ap Err is) _ (ap (λ (w : Refusal). record { printed = refuses (number_of w); memory = mid; out = out }) is)

  pub refusal_text : (why : Refusal) (number : ℕ) (reported : Reported) → loaded.verdict ≡ Err why → (why ≡ NotAsAsked → ⊥) → number ≡ number_of why
      → reported ≡ refusal_of number out → Benches image memory out (with mid reported)
  refusal_text why number reported e other is h =
      let another : number_of why ≡ other_memory → ⊥ = λ same. other (same-refusal why NotAsAsked same) in
      by-verdict (Err why) e _ (ap (with mid) (h ∙ ap (λ (n : ℕ). refusal_of n out) is) ∙ simp (ne_eqb (number_of why) other_memory another))

  pub run_text : {done : Unit {0}} (after : After) (reported : Reported) → loaded.verdict ≡ Ok done →
      after ≡ run_of mid (fresh_with loaded.machine.cells loaded.machine.p) loaded.budget → reported ≡ report_of after.ran out →
      Benches image memory out (with after.memory reported)
  run_text {done} after reported e ran h =
      by-verdict (Ok done) e _
      (ap (with after.memory) h ∙
      ap (λ (a : After). after_run a out) (ran ∙ ap (λ (m : Machine). run_of mid m loaded.budget) (sym (read-fresh is_read))))
