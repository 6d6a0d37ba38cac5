-- The next ready task, by the numbers that the tasks keep.
use Rattle.std.specs.Prelude.{Option, Some, None, List, [], ◌∷◌, ℕ, eqb, get_or}
use Rattle.plain.specs.Choice.{pick}
use Rattle.machine.specs.Tasks.{ready, Whose, nobodys, of_task}

abbrev pub says_next : Option ℕ → Whose
says_next None = nobodys
says_next (Some t) = of_task t

abbrev pub first_kept : List ℕ → List ℕ → Whose
first_kept kept [] = nobodys
first_kept kept (t ∷ ts) = pick (eqb (get_or kept t 0) ready) (of_task t) (first_kept kept ts)
