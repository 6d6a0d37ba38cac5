-- So many steps ahead of a world, with all of memory in reach.
use Rattle.std.specs.Prelude.{ℕ, zero, suc}
use Rattle.machine.specs.Reach.{alone}
use Rattle.machine.specs.Step.{Stepped, refused, done, step_of}
use Rattle.demands.specs.History.{World, world}

-- the world after a step; a refused one leaves it as it was
abbrev pub reached : World → Stepped → World
reached w (refused number) = w
reached w (done memory machine k) = world memory machine

abbrev pub ahead : World → World
ahead w = reached w (step_of alone w.memory w.machine)

unfoldable pub walk : ℕ → World → World
walk zero w = w
walk (suc n) w = walk n (ahead w)
