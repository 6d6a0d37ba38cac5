-- A step that is carried out is one action on the linked stacks, and one that they allow.
use Rattle.std.specs.Prelude.{◌≡◌, List, ℕ}
use Rattle.std.proofs.Common.{ap}
use Rattle.links.specs.Actions.{act}
use Rattle.links.specs.Allowed.{Allowed}
use Rattle.machine.specs.Step.{done, row_at, step_of}
use Rattle.machine.proofs.Laws.Passed.{step-done}
use Rattle.machine.proofs.Laws.Kept.{Steady, allowed_at}
use Rattle.machine.specs.declared.Machine.{Machine}
use Rattle.machine.specs.declared.Reach.{Reach}

pub record Acted (reach : Reach) (mem : List ℕ) (m m' : Machine) : Type 0 where
  pub acted : m'.links ≡ act (row_at reach mem m).link m.links
  pub allowed : Allowed (row_at reach mem m).link m.links

pub step-acts : (reach : Reach) (mem : List ℕ) (m : Machine) (mem' : List ℕ) (m' : Machine) (k : ℕ) → Steady m →
    step_of reach mem m ≡ done mem' m' k → Acted reach mem m m'
step-acts reach mem m mem' m' k h e =
    let d = step-done reach mem m mem' m' k e in
    record { acted = ap (λ (x : Machine). x.links) d.machine; allowed = allowed_at reach mem m mem' m' k h d }
