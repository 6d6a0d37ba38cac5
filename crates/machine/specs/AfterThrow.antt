-- Where a THROW of non-zero goes on, what S, R and P then are, and what it notes.
use Rattle.std.specs.Prelude.{◌≡◌, suc}
use Rattle.links.specs.Linked.{level_at, copy_of_r, copy_of_s, copy_of_p}
use Rattle.machine.specs.Rows.{top}
use Rattle.machine.specs.declared.Machine.{Machine}

-- m' follows m by a THROW: on at the throw address, S and R by the copies (R from the level above S), P by its copy and one for the code,
-- its own address and the number thrown noted; what else m' holds is not said here
pub record AfterThrow (m m' : Machine) : Type 0 where
  pub goes : m'.counter ≡ (level_at m.links m.links.e).address
  pub s-copied : m'.links.s ≡ copy_of_s m.links.levels m.links.e
  pub r-copied : m'.links.r ≡ copy_of_r m.links.frames (suc (copy_of_s m.links.levels m.links.e))
  pub p_copied : m'.p ≡ suc (copy_of_p m.links.levels m.links.e)
  pub address-noted : m'.thrown.address ≡ m.counter
  pub code-noted : m'.thrown.code ≡ top m
