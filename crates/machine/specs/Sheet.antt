-- The starred lines of document 01's bench sheet, the fifth as request P2 has it, with the two numbers of request P6, as one table. That
-- all come out so is one theorem (Laws/Starred.antt).
use Rattle.std.specs.Prelude.{Bool, true, false, List, [], ◌∷◌, ℕ, eqb, take}
use Rattle.plain.specs.Choice.{both}
use Rattle.plain.specs.Zeros.{padded}
use Rattle.machine.specs.Limits.{memory_length}
use Rattle.machine.specs.State.{machine_with}
use Rattle.machine.specs.Run.{After, run_of}

-- a case: the code from address 0, the parameter cells deepest first, the budget; then what must come out:
-- answer, steps, cycles, program counter, P, R, S, E, address and code of the last THROW, and the parameter cells deepest first
pub record Case : Type 0 where
  pub code : List ℕ
  pub cells : List ℕ
  pub budget : ℕ
  pub result : List ℕ
  pub cells_after : List ℕ

abbrev pub case : List ℕ → List ℕ → ℕ → List ℕ → List ℕ → Case
case code cells budget result cells_after =
    record { code = code; cells = cells; budget = budget; result = result; cells_after = cells_after }

-- what the bench program's line and cells say of a run
abbrev pub result_of : After → List ℕ
result_of a =
    a.ran.answer ∷ a.ran.steps.0 ∷ a.ran.cycles.0 ∷ a.ran.machine.counter ∷ a.ran.machine.p ∷
    a.ran.machine.links.r ∷ a.ran.machine.links.s ∷ a.ran.machine.links.e ∷
    a.ran.machine.thrown.address ∷ a.ran.machine.thrown.code ∷ []

abbrev pub cells_after_run : After → List ℕ
cells_after_run a = take a.ran.machine.p a.ran.machine.cells

abbrev pub same : List ℕ → List ℕ → Bool
same [] [] = true
same [] (y ∷ ys) = false
same (x ∷ xs) [] = false
same (x ∷ xs) (y ∷ ys) = both (eqb x y) (same xs ys)

abbrev pub right : Case → Bool
right c =
    let a = run_of (padded memory_length c.code) (machine_with c.cells) c.budget in
    both (same (result_of a) c.result) (same (cells_after_run a) c.cells_after)

abbrev pub all_right : List Case → Bool
all_right [] = true
all_right (c ∷ cs) = both (right c) (all_right cs)

abbrev pub starred : List Case
starred =
    -- a word is caught and throws FF, at address 10
    case
    (0x36 ∷ 0x00 ∷ 0x00 ∷ 0x00 ∷ 0x08 ∷ 0x0B ∷ 0x20 ∷ 0x3D ∷ 0x34 ∷ 0xFF ∷ 0x0D ∷ [])
    [] 1000 (0 ∷ 4 ∷ 9 ∷ 7 ∷ 1 ∷ 0 ∷ 0 ∷ 0 ∷ 10 ∷ 0xFF ∷ []) (0xFF ∷ []) ∷
    -- it returns at once
    case
    (0x36 ∷ 0x00 ∷ 0x00 ∷ 0x00 ∷ 0x08 ∷ 0x0B ∷ 0x20 ∷ 0x3D ∷ 0x3D ∷ [])
    [] 1000 (0 ∷ 4 ∷ 7 ∷ 7 ∷ 1 ∷ 0 ∷ 0 ∷ 0 ∷ 0 ∷ 0 ∷ []) (0 ∷ []) ∷
    -- it takes its return cell, so its levels are gone when it exits
    case
    (0x36 ∷ 0x00 ∷ 0x00 ∷ 0x00 ∷ 0x08 ∷ 0x0B ∷ 0x20 ∷ 0x3D ∷ 0x09 ∷ 0x3D ∷ [])
    [] 1000 (0 ∷ 3 ∷ 5 ∷ 9 ∷ 1 ∷ 0 ∷ 0 ∷ 0 ∷ 0 ∷ 0 ∷ []) (6 ∷ []) ∷
    -- a branch to itself spends the budget
    case (0xFF ∷ 0xFE ∷ []) [] 5 (1 ∷ 5 ∷ 10 ∷ 0 ∷ 0 ∷ 0 ∷ 0 ∷ 0 ∷ 0 ∷ 0 ∷ []) [] ∷
    -- 1+ on FFFFFFFF gives 0; then ADDX on 0 and 0, from a fresh flag, gives 0
    case (0x11 ∷ 0x3D ∷ []) (0xFFFFFFFF ∷ []) 1000 (0 ∷ 1 ∷ 1 ∷ 1 ∷ 1 ∷ 0 ∷ 0 ∷ 0 ∷ 0 ∷ 0 ∷ []) (0 ∷ []) ∷
    case (0x11 ∷ 0x20 ∷ 0x14 ∷ 0x3D ∷ []) (0xFFFFFFFF ∷ []) 1000 (0 ∷ 3 ∷ 3 ∷ 3 ∷ 1 ∷ 0 ∷ 0 ∷ 0 ∷ 0 ∷ 0 ∷ []) (0 ∷ []) ∷
    -- DIVS on -7 and 2: remainder -1, quotient -3
    case
    (0x2B ∷ 0x3D ∷ []) (0xFFFFFFF9 ∷ 2 ∷ []) 1000 (0 ∷ 1 ∷ 42 ∷ 1 ∷ 2 ∷ 0 ∷ 0 ∷ 0 ∷ 0 ∷ 0 ∷ []) (0xFFFFFFFF ∷ 0xFFFFFFFD ∷ []) ∷
    -- MULTU and MULTS on FFFFFFFF twice
    case
    (0x2A ∷ 0x3D ∷ []) (0xFFFFFFFF ∷ 0xFFFFFFFF ∷ []) 1000 (0 ∷ 1 ∷ 5 ∷ 1 ∷ 2 ∷ 0 ∷ 0 ∷ 0 ∷ 0 ∷ 0 ∷ []) (1 ∷ 0xFFFFFFFE ∷ []) ∷
    case
    (0x29 ∷ 0x3D ∷ []) (0xFFFFFFFF ∷ 0xFFFFFFFF ∷ []) 1000 (0 ∷ 1 ∷ 5 ∷ 1 ∷ 2 ∷ 0 ∷ 0 ∷ 0 ∷ 0 ∷ 0 ∷ []) (1 ∷ 0 ∷ []) ∷
    -- 2/ on 80000001, XBYTE on 80
    case (0x13 ∷ 0x3D ∷ []) (0x80000001 ∷ []) 1000 (0 ∷ 1 ∷ 1 ∷ 1 ∷ 1 ∷ 0 ∷ 0 ∷ 0 ∷ 0 ∷ 0 ∷ []) (0xC0000000 ∷ []) ∷
    case (0x27 ∷ 0x3D ∷ []) (0x80 ∷ []) 1000 (0 ∷ 1 ∷ 1 ∷ 1 ∷ 1 ∷ 0 ∷ 0 ∷ 0 ∷ 0 ∷ 0 ∷ []) (0xFFFFFF80 ∷ []) ∷ []
