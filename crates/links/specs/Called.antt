-- What a call and a CATCH push, field by field; that they leave the rest as it was is not said here.
use Rattle.std.specs.Prelude.{◌≡◌, ℕ, suc, ◌+◌, ◌%◌, ◌^◌, ◌<◌, length, get_or}
use Rattle.links.specs.Depths.{locals_count}
use Rattle.links.specs.Linked.{frame_at, level_at}
use Rattle.links.specs.declared.Links.{Links}

-- a call with this return address leads from o to l: the address stands in a new return cell and in a new subroutine level, with R as it was;
-- the level has 16 locals, all zero
pub record Called (address : ℕ) (o l : Links) : Type 0 where
  pub one_cell : l.r ≡ suc o.r
  pub one-level : l.s ≡ suc o.s
  pub return-cell : (d : ℕ) → get_or l.returns o.r d ≡ address
  pub return-address : (frame_at l (suc o.s)).address ≡ address
  pub holds-r : (frame_at l (suc o.s)).r ≡ o.r
  pub sixteen : length (frame_at l (suc o.s)).locals ≡ locals_count
  pub cleared : (i d : ℕ) → i < locals_count → get_or (frame_at l (suc o.s)).locals i d ≡ 0

-- a CATCH leads from o to l: a call, and an exception level with the cells of the one below it, S as it was, P after the address was taken,
-- and the throw address, one above the return address
pub record Caught (address p : ℕ) (o l : Links) : Type 0 where
  pub call : Called address o l
  pub one_more : l.e ≡ suc o.e
  pub same-cells : (level_at l (suc o.e)).cells ≡ (level_at o o.e).cells
  pub holds-s : (level_at l (suc o.e)).s ≡ o.s
  pub holds-p : (level_at l (suc o.e)).p ≡ p
  pub throw-address : (level_at l (suc o.e)).address ≡ (address + 1) % 2 ^ 32
