-- What an instruction does by what its check answers.
use Rattle.std.specs.Prelude.{Result, Ok, Err, ◌≡◌, refl, Bool, true, false, List, ℕ}
use Rattle.std.proofs.Common.{ap, sym, ◌∙◌, arith}
use Rattle.plain.specs.Answer.{Answer, refuses, gives}
use Rattle.plain.specs.Choice.{pick}
use Rattle.machine.specs.Codes.{code_pause}
use Rattle.machine.specs.Fetch.{Instruction}
use Rattle.machine.specs.Refusals.{says}
use Rattle.machine.specs.Step.{Stepped, refused, carried}
use Rattle.machine.specs.declared.Machine.{Machine}
use Rattle.machine.specs.declared.Reach.{Reach}
use Rattle.machine.specs.declared.refusal.Refusal.{Refusal}
use Rattle.reach.specs.Spots.{says_reached}
use Rattle.reach.specs.declared.Spot.{Spot}
use Rattle.run_words.specs.Answers.{step_by, says_fetched}
use Rattle.run_words.specs.Registers.{halted_by}
use Rattle.run_words.specs.declared.Fetched.{Fetched}
use Rattle.run_words.specs.declared.Registers.{Registers}

pub record Acts {A : Type 0} (i : Instruction) (mem : List ℕ) (m : Machine) (said : Answer A) (after : A → Stepped) : Type 0 where
  pub is : carried i mem m ≡ step_by said after
  -- it is no PAUSE
  pub on : i.code ≡ code_pause → ⊥

module _ {A : Type 0} {i : Instruction} {mem : List ℕ} {m : Machine} {said : Answer A} {after : A → Stepped} (acts : Acts i mem m said after) where
  pub by-gift : {values : A} → said ≡ gives values → carried i mem m ≡ after values
  by-gift e = acts.is ∙ ap (λ (x : Answer A). step_by x after) e

  pub by-refusal : {number : ℕ} → said ≡ refuses number → carried i mem m ≡ refused number
  by-refusal e = acts.is ∙ ap (λ (x : Answer A). step_by x after) e

-- two answers that differ
pub apart : {A : Type 0} → ◌≡◌ {A = ℕ} 0 1 → A
apart z = absurd (omega arith)

-- an answer that is known at one of its cases says what the case says
pub told : {E A : Type 0} (says : E → Answer A) {answer known : E} {said : Answer A} → says answer ≡ said → answer ≡ known → said ≡ says known
told says e h = sym e ∙ ap says h

-- a last check before what its answer gives
pub last-check : {A : Type 0} (a : Bool) (x : ℕ) (values : A) (after : A → Stepped) →
    pick a (refused x) (after values) ≡ step_by (pick a (refuses x) (gives values)) after
last-check true x values after = refl
last-check false x values after = refl

-- checks one after another are tests one after another
pub one-check : (a : Bool) (x : ℕ) (result : Stepped) →
    pick a (refused x) result ≡ step_by (pick a (refuses x) (gives tt)) (λ (u : Unit {0}). result)
one-check true x result = refl
one-check false x result = refl

pub two-checks : (a b : Bool) (x y : ℕ) (result : Stepped) →
    pick a (refused x) (pick b (refused y) result) ≡ step_by (pick a (refuses x) (pick b (refuses y) (gives tt))) (λ (u : Unit {0}). result)
two-checks true b x y result = refl
two-checks false true x y result = refl
two-checks false false x y result = refl

pub three-checks : (a b c : Bool) (x y z : ℕ) (result : Stepped) →
    pick a (refused x) (pick b (refused y) (pick c (refused z) result)) ≡
    step_by (pick a (refuses x) (pick b (refuses y) (pick c (refuses z) (gives tt)))) (λ (u : Unit {0}). result)
three-checks true b c x y z result = refl
three-checks false b c x y z result = two-checks b c y z result

pub four-checks : (a b c d : Bool) (x y z w : ℕ) (result : Stepped) →
    pick a (refused x) (pick b (refused y) (pick c (refused z) (pick d (refused w) result))) ≡
    step_by (pick a (refuses x) (pick b (refuses y) (pick c (refuses z) (pick d (refuses w) (gives tt))))) (λ (u : Unit {0}). result)
four-checks true b c d x y z w result = refl
four-checks false b c d x y z w result = three-checks b c d y z w result

-- a refusal ends a run, whatever is read from an answer that gives something
pub refused-reach : (answer : Result Spot Refusal) (g : Registers) → halted_by (says answer) g ≡ halted_by (says_reached answer) g
refused-reach (Ok spot) g = refl
refused-reach (Err why) g = refl

pub refused-fetch : (answer : Result Fetched Refusal) (reach : Reach) (g : Registers) → halted_by (says answer) g ≡ halted_by (says_fetched answer reach) g
refused-fetch (Ok fetched) reach g = refl
refused-fetch (Err why) reach g = refl
