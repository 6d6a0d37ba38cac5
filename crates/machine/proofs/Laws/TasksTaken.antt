-- What a run of tasks takes, part by part.
use Rattle.std.specs.Prelude.{◌≡◌, true, List, ℕ, ◌≤◌, T, leb, eqb, length}
use Rattle.std.proofs.Math.Path.{subst⁻¹}
use Rattle.std.proofs.Common.{leb→le, eqb→eq}
use Rattle.plain.specs.Choice.{both}
use Rattle.plain.specs.Laws.Choice.{both-parts}
use Rattle.machine.specs.Limits.{memory_length, most_budget, most_quantum, tasks_count}
use Rattle.machine.specs.Tasks.{Task, all_good, tasks_acceptable}

pub record Taken (mem : List ℕ) (tasks : List Task) (quantum budget : ℕ) : Type 0 where
  pub long : length mem ≡ memory_length
  pub limit : budget ≤ most_budget
  pub some : 1 ≤ quantum
  pub most : quantum ≤ most_quantum
  pub four : length tasks ≡ tasks_count
  pub good : T (all_good tasks)

pub taken : (mem : List ℕ) (tasks : List Task) (quantum budget : ℕ) → tasks_acceptable mem tasks quantum budget ≡ true → Taken mem tasks quantum budget
unfolding tasks_acceptable
taken mem tasks quantum budget e =
    let l = both-parts (eqb (length mem) memory_length) _ (subst⁻¹ T e tt) in
    let b = both-parts (leb budget most_budget) _ l.1 in
    let q = both-parts (both (leb 1 quantum) (leb quantum most_quantum)) _ b.1 in
    let t = both-parts (eqb (length tasks) tasks_count) (all_good tasks) q.1 in
    let s = both-parts (leb 1 quantum) (leb quantum most_quantum) q.0 in
    record {
      long = eqb→eq (length mem) memory_length l.0;
      limit = leb→le budget most_budget b.0;
      some = leb→le 1 quantum s.0;
      most = leb→le quantum most_quantum s.1;
      four = eqb→eq (length tasks) tasks_count t.0;
      good = t.1;
    }
