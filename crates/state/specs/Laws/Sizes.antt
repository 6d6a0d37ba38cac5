-- What the sums of the parts come to, for hosts that write the numbers down.
use Rattle.std.specs.Prelude.{List, [], ◌∷◌, ◌≡◌, refl, ℕ, ◌+◌}
use Rattle.state.specs.Parts.{Field}
use Rattle.state.specs.Layout.{frame, level, links_fields, links, state_fields, state, task_fields, task, tasks, result_fields, result}

-- where each field begins, after so many bytes
abbrev places_from : {A : Type 0} → ℕ → List (Field A) → List ℕ
places_from at [] = []
places_from at (f ∷ fs) = at ∷ places_from (at + f.part.width) fs

-- cells, P, links, counter, flag, address and code of the last THROW, mask, waiting requests, block
pub state-places : places_from 0 state_fields ≡ 0 ∷ 256 ∷ 264 ∷ 3520 ∷ 3524 ∷ 3528 ∷ 3532 ∷ 3536 ∷ 3540 ∷ 3544 ∷ []
state-places = refl

pub state-takes : state.width ≡ 3548
state-takes = refl

-- machine, kept number
pub task-places : places_from 0 task_fields ≡ 0 ∷ 3548 ∷ []
task-places = refl

pub task-takes : task.width ≡ 3556
task-takes = refl

pub tasks-take : tasks.width ≡ 14224
tasks-take = refl

-- within the links: return cells, R, frames of 76 bytes, S, exception levels of 52 bytes, E
pub links-places : places_from 0 links_fields ≡ 0 ∷ 256 ∷ 264 ∷ 2772 ∷ 2780 ∷ 3248 ∷ []
links-places = refl

pub links-take : links.width ≡ 3256
links-take = refl

pub frame-takes : frame.width ≡ 76
frame-takes = refl

pub level-takes : level.width ≡ 52
level-takes = refl

-- answer, steps, cycles, memory sum
pub result-places : places_from 0 result_fields ≡ 0 ∷ 8 ∷ 16 ∷ 24 ∷ []
result-places = refl

pub result-takes : result.width ≡ 32
result-takes = refl
