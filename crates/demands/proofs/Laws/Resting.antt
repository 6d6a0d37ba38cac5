-- Histories by computation: so many steps from a world, none with a code that moves the flag.
use Rattle.std.specs.Prelude.{Bool, true, ℕ, zero, suc, T}
use Rattle.plain.specs.Choice.{not, both}
use Rattle.plain.specs.Laws.Choice.{both-parts, opposed}
use Rattle.demands.specs.History.{World, code_at, History, here, then, Unbroken, LeavesBytes}
use Rattle.demands.specs.Walk.{ahead, walk}
use Rattle.demands.specs.Flag.{movers, moves, NoneMoves}
use Rattle.demands.proofs.Laws.Walks.{step_at, is_done, ahead-moment}

unfoldable pub resting : ℕ → World → Bool
resting zero w = true
resting (suc n) w = both (not (moves (code_at w) movers)) (both (is_done (step_at w)) (resting n (ahead w)))

pub record Rested (w v : World) : Type 0 where
  pub history : History w v
  pub unbroken : Unbroken history
  pub none_moves : NoneMoves history
  pub leaves-bytes : LeavesBytes history

pub rested : (n : ℕ) (w : World) → T (resting n w) → Rested w (walk n w)
unfolding resting walk
rested zero w t = record { history = here; unbroken = tt; none_moves = tt; leaves-bytes = tt }
rested (suc n) w t =
    let p = both-parts (not (moves (code_at w) movers)) _ t in
    let q = both-parts (is_done (step_at w)) _ p.1 in
    let later = rested n (ahead w) q.1 in
    record {
      history = then (ahead-moment w q.0) later.history;
      unbroken = later.unbroken;
      none_moves = (opposed (moves (code_at w) movers) p.0, later.none_moves);
      leaves-bytes = later.leaves-bytes;
    }
