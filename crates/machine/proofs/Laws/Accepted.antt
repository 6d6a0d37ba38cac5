-- What a run accepts, part by part.
use Rattle.std.specs.Prelude.{◌≡◌, true, List, ℕ, ◌≤◌, T, leb, eqb, length}
use Rattle.std.proofs.Math.Path.{subst⁻¹}
use Rattle.std.proofs.Common.{eq-eqb, le-leb, leb→le, eqb→eq}
use Rattle.plain.specs.Laws.Choice.{both-parts, is_true}
use Rattle.machine.specs.Limits.{memory_length, most_budget}
use Rattle.machine.specs.State.{well_formed}
use Rattle.machine.specs.Run.{acceptable}
use Rattle.machine.proofs.Laws.Kept.{Formed, formed, formed-true}
use Rattle.machine.specs.declared.Machine.{Machine}

-- what acceptable asks
pub record Taken (mem : List ℕ) (m : Machine) (budget : ℕ) : Type 0 where
  pub long : length mem ≡ memory_length
  pub budget-within : budget ≤ most_budget
  pub formed : Formed m

pub taken : (mem : List ℕ) (m : Machine) (budget : ℕ) → acceptable mem m budget ≡ true → Taken mem m budget
unfolding acceptable
taken mem m budget e =
    let l = both-parts (eqb (length mem) memory_length) _ (subst⁻¹ T e tt) in
    let b = both-parts (leb budget most_budget) (well_formed m) l.1 in
    record {
      long = eqb→eq (length mem) memory_length l.0;
      budget-within = leb→le budget most_budget b.0;
      formed = formed m (is_true (well_formed m) b.1);
    }

pub accept : (mem : List ℕ) (m : Machine) (budget : ℕ) → Taken mem m budget → acceptable mem m budget ≡ true
unfolding acceptable
accept mem m budget t =
    rw (eq-eqb (length mem) memory_length t.long, le-leb budget most_budget t.budget-within) (formed-true m t.formed)
