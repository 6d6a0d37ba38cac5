-- An image with a call and an inner CATCH between, whose memory the host changes between two runs.
use Rattle.std.specs.Prelude.{List, [], ◌∷◌, ℕ}
use Rattle.plain.specs.Zeros.{padded}
use Rattle.machine.specs.Limits.{memory_length}
use Rattle.demands.specs.History.{World, world}
use Rattle.demands.specs.Walk.{ahead, walk}
use Rattle.demands.specs.Cases.{start}

-- a word at 16 is caught; it calls a word at 24, which catches a word at 32; that one exits, and this code is thrown
abbrev pub throwing : ℕ → List ℕ
throwing n =
    0x36 ∷ 0x00 ∷ 0x00 ∷ 0x00 ∷ 0x10 ∷ 0x0B ∷ 0x20 ∷ 0x3D ∷ 0x00 ∷ 0x00 ∷ 0x00 ∷ 0x00 ∷ 0x00 ∷ 0x00 ∷ 0x00 ∷ 0x00 ∷
    0x34 ∷ 0x18 ∷ 0x39 ∷ 0x3D ∷ 0x00 ∷ 0x00 ∷ 0x00 ∷ 0x00 ∷
    0x34 ∷ 0x20 ∷ 0x0B ∷ 0x20 ∷ 0x34 ∷ n ∷ 0x0D ∷ 0x00 ∷
    0x3D ∷ []

-- the first run begins with 7 in it; the host leaves 9 for the second
abbrev pub code : List ℕ
code = throwing 7

abbrev pub changed : List ℕ
changed = throwing 9

-- after the 6 steps of the first run, with the inner CATCH standing; the second run begins; its last step but one; its last
abbrev pub paused : World
paused = walk 6 (start code)

abbrev pub resumed : World
resumed = world (padded memory_length changed) paused.machine

abbrev pub last : World
last = walk 3 resumed

abbrev pub end : World
end = ahead last
