-- The code of an operation that moves the flag is one of those that are named.
use Rattle.std.specs.Prelude.{◌≡◌, ℕ, T}
use Rattle.std.proofs.Common.{sym, subst}
use Rattle.word.proofs.Laws.Flag.{two_movers}
use Rattle.word.specs.declared.TwoCells.{TwoCells}
use Rattle.machine.specs.Codes.{Op, SHUFFLE, JUMP, LINK, ONE, TWO, FETCH, STORE, LITERAL, entry_at}
use Rattle.machine.proofs.Laws.Marks.{code_of_two, marked-two}
use Rattle.machine.proofs.Laws.Told.{MovesFlag}
use Rattle.demands.specs.Flag.{movers, moves}
use Rattle.demands.proofs.Laws.Every.{at-member}

pub listed : (code : ℕ) (op : Op) → (entry_at code).op ≡ op → MovesFlag op → T (moves code movers)
listed code (SHUFFLE o) is m = absurd m
listed code (JUMP o) is m = absurd m
listed code (LINK o) is m = absurd m
listed code (ONE o) is m = absurd m
listed code (TWO o) is m =
    subst (λ (n : ℕ). T (moves n movers)) (sym (marked-two code o is))
    (at-member (λ (x : TwoCells). moves (code_of_two x) movers) two_movers o tt m)
listed code (FETCH w) is m = absurd m
listed code (STORE w) is m = absurd m
listed code LITERAL is m = absurd m
