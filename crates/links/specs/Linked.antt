-- The linked stacks as document 01 has them, and when they are well formed.
use Rattle.std.specs.Prelude.{Bool, true, ◌≡◌, List, [], ℕ, zero, suc, ltb, leb, get_or, length}
use Rattle.plain.specs.Choice.{both}
use Rattle.links.specs.Depths.{returns_depth, subroutines_depth, exceptions_depth, most_copy_of_p, frames_count, levels_count}
use Rattle.links.specs.declared.Frame.{Frame}
use Rattle.links.specs.declared.Level.{Level}
use Rattle.links.specs.declared.Links.{Links}

-- what a read past an array's end gives: every number zero, no cells
abbrev pub no_frame : Frame
no_frame = record { locals = []; r = 0; address = 0 }

abbrev pub no_level : Level
no_level = record { cells = []; s = 0; p = 0; address = 0 }

-- subroutine level n, exception level n
abbrev pub frame_at : Links → ℕ → Frame
frame_at l n = get_or l.frames n no_frame

abbrev pub level_at : Links → ℕ → Level
level_at l n = get_or l.levels n no_level

-- the copy of R in subroutine level n, the copies of S and of P in exception level n
abbrev pub copy_of_r : List Frame → ℕ → ℕ
copy_of_r frames n = (get_or frames n no_frame).r

abbrev pub copy_of_s : List Level → ℕ → ℕ
copy_of_s levels n = (get_or levels n no_level).s

abbrev pub copy_of_p : List Level → ℕ → ℕ
copy_of_p levels n = (get_or levels n no_level).p

-- the copies rise strictly from level 1 to level n, with the last below the top; of an empty stack nothing is asked
abbrev pub rises : (ℕ → ℕ) → ℕ → ℕ → Bool
rises copy top zero = true
rises copy top (suc n) = both (ltb (copy (suc n)) top) (rises copy (copy (suc n)) n)

-- each copy from level 1 to level n is at most the limit
abbrev pub within : (ℕ → ℕ) → ℕ → ℕ → Bool
within copy limit zero = true
within copy limit (suc n) = both (leb (copy (suc n)) limit) (within copy limit n)

-- well formed: the pointers within the depths; the copies of R, S and P as document 01 asks
unfoldable pub linked : Links → Bool
linked l =
    both (leb l.r returns_depth)
    (both (leb l.s subroutines_depth)
    (both (leb l.e exceptions_depth)
    (both (rises (copy_of_r l.frames) l.r l.s)
    (both (rises (copy_of_s l.levels) l.s l.e) (within (copy_of_p l.levels) most_copy_of_p l.e)))))

-- the lists are as long as the arrays that they stand for
pub record Shaped (l : Links) : Type 0 where
  pub returns-long : length l.returns ≡ returns_depth
  pub frames-long : length l.frames ≡ frames_count
  pub levels-long : length l.levels ≡ levels_count
