-- Tests one after another: the first that refuses is handed on, and behind those that pass the rest answers.
use Rattle.std.specs.Prelude.{Result, Ok, Err, IsErrAnd, ◌≡◌, Bool, true, false, ℕ}
use Rattle.std.proofs.Common.{ap}
use Rattle.plain.specs.Answer.{Answer, refuses, gives}
use Rattle.plain.specs.Choice.{pick}
use Rattle.machine.specs.Refusals.{number_of, says}
use Rattle.machine.specs.declared.refusal.Refusal.{Refusal}

pub handed_on : (answer : Result (Unit {0}) Refusal) (why : Refusal) → IsErrAnd answer (λ w. w ≡ why) → says answer ≡ refuses (number_of why)
handed_on (Ok done) why is = elim is [ ]
handed_on (Err w) why is = ap (λ (x : Refusal). refuses (number_of x)) is

abbrev Tested : Type 0
Tested = Answer (Unit {0})

-- a test that answers with its number where it holds, and what answers where it does not
abbrev test : Bool → ℕ → Tested → Tested
test holds n rest = pick holds (refuses n) rest

abbrev Same : Tested → Tested → Type 0
Same a b = a ≡ b

module _ (b : Bool) (n : ℕ) (rest : Tested) where
  pub refused_first : {k : ℕ} → Same (refuses k) (test b n (gives tt)) → Same (refuses k) (test b n rest)
  refused_first e = go b e
    where
      go : (x : Bool) {k : ℕ} → Same (refuses k) (test x n (gives tt)) → Same (refuses k) (test x n rest)
      go true e = e
      go false e = cc

  pub passed_first : {said : Tested} → Same (gives tt) (test b n (gives tt)) → Same said rest → Same said (test b n rest)
  passed_first e h = go b e h
    where
      go : (x : Bool) {said : Tested} → Same (gives tt) (test x n (gives tt)) → Same said rest → Same said (test x n rest)
      go true e h = cc
      go false e h = h
