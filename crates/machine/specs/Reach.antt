-- Who may touch which byte of memory: request P1.
use Rattle.std.specs.Prelude.{Bool, true, false, ℕ, zero, suc, ◌+◌, ◌*◌, ltb, leb}
use Rattle.plain.specs.Choice.{pick, both}
use Rattle.machine.specs.Limits.{memory_length, shared_length, part_length}
use Rattle.machine.specs.declared.Reach.{Reach}

-- alone: all of memory
abbrev pub alone : Reach
alone = record { shared = memory_length; own = 0; end = 0 }

-- task t: the shared bytes, and the part of its own
abbrev pub part_start : ℕ → ℕ
part_start t = shared_length + part_length * t

abbrev pub task : ℕ → Reach
task t = record { shared = shared_length; own = part_start t; end = part_start t + part_length }

-- the one definition: a shared byte, or one of the own part
abbrev pub may_touch : Reach → ℕ → Bool
may_touch reach a = pick (ltb a reach.shared) true (both (leb reach.own a) (ltb a reach.end))

-- what bars some bytes: nothing, one outside memory, one in another's part
pub data Bar : Type 0 where
  none outside foreign : Bar

-- so many bytes from an address, tested in order: outside memory, then in another's part; the first that fails bars them
unfoldable pub bar_of : Reach → ℕ → ℕ → Bar
bar_of reach a zero = none
bar_of reach a (suc n) = pick (leb memory_length a) outside (pick (may_touch reach a) (bar_of reach (suc a) n) foreign)

abbrev pub is_outside : Bar → Bool
is_outside none = false
is_outside outside = true
is_outside foreign = false

abbrev pub is_foreign : Bar → Bool
is_foreign none = false
is_foreign outside = false
is_foreign foreign = true
