-- Who touches the extend flag: document 01, "nothing else touches it", with request P2's list.
use Rattle.std.specs.Prelude.{Bool, true, false, List, [], ◌∷◌, ℕ, T, eqb}
use Rattle.plain.specs.Choice.{pick, both}
use Rattle.plain.specs.Zeros.{padded}
use Rattle.machine.specs.Limits.{memory_length}
use Rattle.machine.specs.State.{machine_with}
use Rattle.demands.specs.History.{World, world, code_at, step, enters, host, others, History, here, then}
use Rattle.demands.specs.Walk.{ahead}

-- a code, and parameter cells with which it takes the flag from 0 to 1
pub record Mover : Type 0 where
  pub code : ℕ
  pub cells : List ℕ

abbrev pub mover : ℕ → List ℕ → Mover
mover code cells = record { code = code; cells = cells }

-- +, -, ADDX, SUBX
abbrev pub movers : List Mover
movers =
    mover 0x0E (0xFFFFFFFF ∷ 1 ∷ []) ∷
    mover 0x0F (0 ∷ 1 ∷ []) ∷
    mover 0x14 (0xFFFFFFFF ∷ 1 ∷ []) ∷
    mover 0x15 (0 ∷ 1 ∷ []) ∷ []

-- the code is one of theirs
abbrev pub moves : ℕ → List Mover → Bool
moves code [] = false
moves code (x ∷ xs) = pick (eqb code x.code) true (moves code xs)

-- none of them is carried out
abbrev pub NoneMoves : {w v : World} → History w v → Type 0
NoneMoves here = Unit {0}
NoneMoves {w} (then (step reach k e) rest) = (T (moves (code_at w) movers) → ⊥) × NoneMoves rest
NoneMoves (then (enters n e kept is) rest) = NoneMoves rest
NoneMoves (then (host mask waiting e) rest) = NoneMoves rest
NoneMoves (then (others e) rest) = NoneMoves rest

-- each of them does
abbrev pub all_move : List Mover → Bool
all_move [] = true
all_move (x ∷ xs) = both (eqb (ahead (world (padded memory_length (x.code ∷ [])) (machine_with x.cells))).machine.flag 1) (all_move xs)
