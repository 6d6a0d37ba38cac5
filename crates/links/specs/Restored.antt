-- When linked stacks are what they were: in demand 3's sense, or in all that they hold.
use Rattle.std.specs.Prelude.{◌≡◌, suc, take}
use Rattle.links.specs.Actions.{Act, exit, pop, throw, reset}
use Rattle.links.specs.declared.Links.{Links}

-- the links l are the links o again: R, S and E, and all that lies below them; the levels in view, S and E, included
pub record Restored (o l : Links) : Type 0 where
  pub same-r : l.r ≡ o.r
  pub same_s : l.s ≡ o.s
  pub same-e : l.e ≡ o.e
  pub same-returns : take o.r l.returns ≡ take o.r o.returns
  pub same-frames : take (suc o.s) l.frames ≡ take (suc o.s) o.frames
  pub same-levels : take (suc o.e) l.levels ≡ take (suc o.e) o.levels

-- the links l hold what the links o held, wherever their pointers stand
pub record SameContents (o l : Links) : Type 0 where
  pub returns-kept : l.returns ≡ o.returns
  pub frames-kept : l.frames ≡ o.frames
  pub levels-kept : l.levels ≡ o.levels

-- EXIT, R>, THROW of non-zero and RESETSP
pub data Drops : Act → Type 0 where
  exit-drops : Drops exit
  pop-drops : Drops pop
  throw-drops : Drops throw
  reset-drops : Drops reset
