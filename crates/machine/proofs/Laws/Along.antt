-- What every completed instruction and every entry of a line keep, a run keeps.
use Rattle.std.specs.Prelude.{◌≡◌, Bool, true, false, List}
use Rattle.std.proofs.Math.Path.{refl, sym}
use Rattle.std.proofs.Common.{subst}
use Prim.Native.Nat.{ℕ, zero, suc, ◌+◌}
use Rattle.machine.specs.Step.{Stepped, refused, done, step_of}
use Rattle.machine.specs.Lines.{let_in}
use Rattle.machine.specs.Run.{After, Manner, passes, run_from}
use Rattle.machine.proofs.Laws.Steps.{after_done, after_step, run-spent, run-step}
use Rattle.machine.specs.declared.Machine.{Machine}
use Rattle.machine.specs.declared.Reach.{Reach}

-- something said of a memory, a machine, the steps and the cycles; that a step under this reach keeps it, and that a line that enters does
module _ (reach : Reach) (manner : Manner) (Holds : List ℕ → Machine → ℕ → ℕ → Type 0)
    (kept : (mem : List ℕ) (m : Machine) (n c : ℕ) (mem' : List ℕ) (m' : Machine) (k : ℕ) → Holds mem m n c → step_of reach mem m ≡ done mem' m' k →
    Holds mem' m' (suc n) (c + k))
    (entered : (mem : List ℕ) (m : Machine) (n c : ℕ) → Holds mem m n c → Holds mem (let_in manner.lined m) n c)
  where
    abbrev pub HoldsAfter : After → Type 0
    HoldsAfter a = Holds a.memory a.ran.machine a.ran.steps.0 a.ran.cycles.0

    passed : (b : Bool) (left n c : ℕ) (mem : List ℕ) (m : Machine) → Holds mem m n c → HoldsAfter (run_from reach manner left mem m n c) →
        HoldsAfter (after_done reach manner b left mem m n c)
    passed true left n c mem m now later = now
    passed false left n c mem m now later = later

    one : (s : Stepped) (left n c : ℕ) (mem : List ℕ) (m : Machine) → step_of reach mem m ≡ s → Holds mem m n c →
        ((mem' : List ℕ) (m' : Machine) (n' c' : ℕ) → Holds mem' m' n' c' → HoldsAfter (run_from reach manner left mem' m' n' c')) →
        HoldsAfter (after_step reach manner left mem m n c s)
    one (refused number) left n c mem m e now next = now
    one (done mem' m' cost) left n c mem m e now next =
        let then = kept mem m n c mem' m' cost now e in
        passed (passes manner.in_turns mem m) left (suc n) (c + cost) mem' m' then (next mem' m' (suc n) (c + cost) then)

    pub along : (left : ℕ) (mem : List ℕ) (m : Machine) (n c : ℕ) → Holds mem m n c → HoldsAfter (run_from reach manner left mem m n c)
    along zero mem m n c now = subst HoldsAfter (sym (run-spent reach manner mem m n c)) now
    along (suc left) mem m n c now =
        let here = let_in manner.lined m in
        subst HoldsAfter (sym (run-step reach manner left mem m n c))
        (one (step_of reach mem here) left n c mem here refl (entered mem m n c now)
        (λ mem' m' n' c' then. along left mem' m' n' c' then))
