-- Demand 1: every run ends with an answer of the list, and whatever is refused has altered nothing.
use Rattle.std.specs.Prelude.{◌≡◌, refl, Bool, true, false, List, ℕ, ◌≤◌, T, leb, eqb}
use Rattle.std.proofs.Common.{sym, subst, arith, eqb-true, leb→le, le→leb}
use Rattle.plain.specs.Choice.{pick, both}
use Rattle.plain.specs.Laws.Choice.{both-parts}
use Rattle.machine.specs.Reach.{alone}
use Rattle.machine.specs.Run.{After, by_itself, run_of, acceptable}
use Rattle.machine.proofs.Laws.Steps.{run-taken, run-declined}
use Rattle.machine.specs.declared.Machine.{Machine}
use Rattle.demands.specs.History.{World, world_after, History}
use Rattle.demands.specs.Course.{Reason, spent, passed, stopped}
use Rattle.demands.proofs.Laws.Course.{course, within, none_passed}
use Rattle.demands.specs.One.{One}
use Rattle.demands.specs.Lowest.{is_answer}
use Rattle.demands.proofs.Laws.Refused.{listed, refused-listed}

low-answers : (k : ℕ) → k ≤ 13 → T (is_answer k)
low-answers k within = go (eqb k 16)
  where
    go : (b : Bool) → T (pick b true (leb k 13))
    go true = tt
    go false = le→leb k 13 within

not-two : (k : ℕ) → T (listed k) → T (is_answer k) × (k ≡ 2 → ⊥)
not-two k t = go (eqb k 0) (eqb k 16) refl refl t
  where
    go : (b c : Bool) → eqb k 0 ≡ b → eqb k 16 ≡ c → T (pick b true (pick c true (both (leb 3 k) (leb k 13)))) → T (is_answer k) × (k ≡ 2 → ⊥)
    go true c z s t = let e : k ≡ 0 = eqb-true k 0 z in (low-answers k (omega arith), λ (is : k ≡ 2). omega arith)
    go false true z s t =
        let e : k ≡ 16 = eqb-true k 16 s in
        (subst (λ (n : ℕ). T (is_answer n)) (sym e) tt, λ (is : k ≡ 2). omega arith)
    go false false z s t =
        let p = both-parts (leb 3 k) (leb k 13) t in
        let low : 3 ≤ k = leb→le 3 k p.0 in
        (low-answers k (leb→le k 13 p.1), λ (is : k ≡ 2). omega arith)

reason-answer : (budget : ℕ) {w : World} (a : After) (h : History w (world_after a)) → Reason alone false budget a h →
    T (is_answer a.ran.answer) × (a.ran.answer ≡ 2 → ⊥)
reason-answer budget a h (spent is all none) = (low-answers a.ran.answer (omega arith), λ (two : a.ran.answer ≡ 2). omega arith)
reason-answer budget a h (passed is most last) = absurd (none_passed h last)
reason-answer budget a h (stopped e below none) = not-two a.ran.answer (refused-listed a.memory a.ran.machine a.ran.answer e)

pub one : (mem : List ℕ) (m : Machine) (budget : ℕ) → One mem m budget (run_of mem m budget)
one mem m budget = go (acceptable mem m budget) refl
  where
    go : (b : Bool) → acceptable mem m budget ≡ b → One mem m budget (run_of mem m budget)
    go true e =
        let c = course alone by_itself budget mem m 0 0 in
        let answer = reason-answer budget _ c.history c.reason in
        subst (One mem m budget) (sym (run-taken mem m budget e))
        (record {
          answered = answer.0;
          within-budget = omega (arith, c.steps, within c.reason);
          untouched = λ two. absurd (answer.1 two);
          as_before = λ other. (e, c);
        })
    go false e =
        subst (One mem m budget) (sym (run-declined mem m budget e))
        (record {
          answered = tt;
          within-budget = omega arith;
          untouched = λ two. (e, refl);
          as_before = λ other. absurd (other refl);
        })
