-- No second answer, and what was given is taken back as it was.
use Rattle.std.specs.Prelude.{Result, Ok, Err, List, ◌≡◌, refl, ℕ, length}
use Rattle.std.proofs.Common.{sym, ap, ◌∙◌}
use Rattle.plain.specs.Answer.{Answer, gives}
use Rattle.std.specs.Result.{result_unwrap_or}
use Rattle.machine.specs.State.{fresh_machine}
use Rattle.machine.specs.Refusals.{says}
use Rattle.machine.specs.declared.refusal.Refusal.{Refusal}
use Rattle.machine.proofs.Laws.Refusing.{same-refusal, same-said}
use Rattle.machine.specs.declared.Machine.{Machine}
use Rattle.machine.proofs.Laws.Pairs.{only-tasks-in}
use Rattle.machine.specs.declared.Tasks.{Tasks}
use Rattle.machine.specs.Tasks.{Four, tasks_in}
use Rattle.state.specs.Answered.{answered}
use Rattle.state.specs.Parts.{Part}
use Rattle.state.specs.Layout.{state, tasks}
use Rattle.state.specs.Promise.{says_taken, taken_machine, blank_tasks, taken_tasks, Takes, wrong-length, spelled, TakesTasks, not-four, spelled-tasks, Gives, wrong_size, filled}
use Rattle.state.specs.Laws.Spelling.{state-sound, tasks-sound}

-- what says one thing and stands for one value is one answer, whatever a refusal stands for
same-taken : {A : Type 0} (fresh : A) (t u : Result A Refusal) → says_taken t ≡ says_taken u → result_unwrap_or t fresh ≡ result_unwrap_or u fresh → t ≡ u
same-taken fresh (Ok a) (Ok b) e f = ap Ok f
same-taken fresh (Ok a) (Err why) e f = cc
same-taken fresh (Err why) (Ok b) e f = cc
same-taken fresh (Err why) (Err other) e f = ap Err (same-refusal why other (cc))

record SameTaken (a b : Answer (Unit {0})) (m n : Machine) : Type 0 where
  same_answer : a ≡ b
  same-machine : m ≡ n

only-takes : (bytes : List ℕ) (a b : Answer (Unit {0})) (m n : Machine) → Takes bytes a m → Takes bytes b n → SameTaken a b m n
only-takes bytes a b m n (wrong-length h) (wrong-length k) = record { same_answer = refl; same-machine = refl }
only-takes bytes a b m n (wrong-length h) (spelled _ long fit is) = absurd (h long)
only-takes bytes a b m n (spelled _ long fit is) (wrong-length k) = absurd (k long)
only-takes bytes a b m n (spelled _ long fit is) (spelled _ also fits same) =
    record { same_answer = refl; same-machine = state-sound.only m n fit fits (is ∙ sym same) }

pub only-take : (bytes : List ℕ) (t u : Result Machine Refusal) → Takes bytes (says_taken t) (taken_machine t)
    → Takes bytes (says_taken u) (taken_machine u) → t ≡ u
only-take bytes t u h k =
    let same = only-takes bytes _ _ _ _ h k in
    same-taken fresh_machine t u same.same_answer same.same-machine

record SameTasks (a b : Answer (Unit {0})) (t u : Tasks) : Type 0 where
  same_answer : a ≡ b
  same-tasks : t ≡ u

only-takes-tasks : (bytes : List ℕ) (a b : Answer (Unit {0})) (t u : Tasks) → TakesTasks bytes a t → TakesTasks bytes b u → SameTasks a b t u
only-takes-tasks bytes a b t u (not-four h) (not-four k) = record { same_answer = refl; same-tasks = refl }
only-takes-tasks bytes a b t u (not-four h) (spelled-tasks _ long four fit is) = absurd (h long)
only-takes-tasks bytes a b t u (spelled-tasks _ long four fit is) (not-four k) = absurd (k long)
only-takes-tasks bytes a b t u (spelled-tasks _ long four fit is) (spelled-tasks _ also fours fits same) =
    record { same_answer = refl; same-tasks = only-tasks-in t u four fours (tasks-sound.only (tasks_in t) (tasks_in u) fit fits (is ∙ sym same)) }

pub only-take-tasks : (bytes : List ℕ) (t u : Result Tasks Refusal) → TakesTasks bytes (says_taken t) (taken_tasks t)
    → TakesTasks bytes (says_taken u) (taken_tasks u) → t ≡ u
only-take-tasks bytes t u h k =
    let same = only-takes-tasks bytes _ _ _ _ h k in
    same-taken blank_tasks t u same.same_answer same.same-tasks

-- of giving a machine, of giving tasks and of giving a run's counts
module _ {A : Type 0} (part : Part A) (x : A) (before : List ℕ) where
  only-gives : (a b : Answer (Unit {0})) (after other : List ℕ) → Gives part x before a after → Gives part x before b other → (a ≡ b) × (after ≡ other)
  only-gives a b after other (wrong_size h) (wrong_size k) = (refl, refl)
  only-gives a b after other (wrong_size h) (filled long fit) = absurd (h long)
  only-gives a b after other (filled long fit) (wrong_size k) = absurd (k long)
  only-gives a b after other (filled long fit) (filled also fits) = (refl, refl)

  pub only-give : (v w : Result (Unit {0}) Refusal) (after other : List ℕ) → Gives part x before (says v) after → Gives part x before (says w) other
      → (v ≡ w) × (after ≡ other)
  only-give v w after other h k =
      let same = only-gives (says v) (says w) after other h k in
      (same-said v w same.0, same.1)

  given-bytes : (bytes : List ℕ) (a : Answer (Unit {0})) (after : List ℕ) → length before ≡ part.width → part.bytes x ≡ bytes → Gives part x before a after
      → after ≡ bytes
  given-bytes bytes a after long is (wrong_size h) = absurd (h long)
  given-bytes bytes a after long is (filled same fits) = is

-- the bytes that a machine was given as are taken as that machine
pub taken_back : (m n : Machine) (before after : List ℕ) (a b : Answer (Unit {0})) → length before ≡ state.width → Gives state m before a after → Takes after b n
    → (b ≡ gives tt) × (n ≡ m)
taken_back m n before after a b long (wrong_size h) t = absurd (h long)
taken_back m n before after a b long (filled also fit) t =
    let same = only-takes (state.bytes m) b (gives tt) n m t (spelled m (state-sound.long m fit) fit refl) in
    (same.same_answer, same.same-machine)

-- and the bytes that a machine was taken from are given back as they were
pub given_back : (bytes before after : List ℕ) (m : Machine) (a : Answer (Unit {0})) → length before ≡ state.width → Takes bytes (gives tt) m → Gives state m before a after
    → after ≡ bytes
given_back bytes before after m a long (spelled _ also fit is) g = given-bytes state m before bytes a after long is g

-- so it is with tasks
pub tasks-taken-back : (t u : Tasks) (before after : List ℕ) (a b : Answer (Unit {0})) → Four t → length before ≡ tasks.width
    → Gives tasks (tasks_in t) before a after → TakesTasks after b u → (b ≡ gives tt) × (u ≡ t)
tasks-taken-back t u before after a b four long (wrong_size h) k = absurd (h long)
tasks-taken-back t u before after a b four long (filled also fit) k =
    let same = only-takes-tasks (tasks.bytes (tasks_in t)) b (gives tt) u t k (spelled-tasks t (tasks-sound.long (tasks_in t) fit) four fit refl) in
    (same.same_answer, same.same-tasks)

pub tasks-given-back : (bytes before after : List ℕ) (t : Tasks) (a : Answer (Unit {0})) → length before ≡ tasks.width → TakesTasks bytes (gives tt) t
    → Gives tasks (tasks_in t) before a after → after ≡ bytes
tasks-given-back bytes before after t a long (spelled-tasks _ also four fit is) g = given-bytes tasks (tasks_in t) before bytes a after long is g

-- answered: the number that a host is told
pub only-answered : (done : Result (Unit {0}) Refusal) (a b : ℕ) → a ≡ answered done → b ≡ answered done → a ≡ b
only-answered done a b h k = h ∙ sym k
