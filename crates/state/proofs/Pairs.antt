-- A task of machines and kept numbers is its machine and its number.
use mathlib.Core.List.{List}
use mathlib.Core.Path.{◌≡◌, sym, subst}
use Prim.Native.Nat.{ℕ}
use lib.ListN.{length, get_or}
use Rattle.machine.specs.Tasks.{Task, task_of, paired, no_machine, task_at}
use Rattle.machine.proofs.Laws.Pairs.{paired_at}
use Rattle.machine.specs.declared.Machine.{Machine}
use Rattle.state.specs.Layout.{task}
use Rattle.state.specs.Places.{PartPut}

pub pair_put : (ms : List Machine) (ks : List ℕ) (t : ℕ) → length ms ≡ length ks → {l m : List ℕ} {at : ℕ}
    → PartPut task l at (task_of (get_or ms t no_machine) (get_or ks t 0)) m → PartPut task l at (task_at (paired ms ks) t) m
pair_put ms ks t e {l} {m} {at} = subst (λ (x : Task). PartPut task l at x m) (sym (paired_at ms ks t e))
