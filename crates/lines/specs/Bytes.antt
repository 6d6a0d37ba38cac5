-- A line is raised and the mask set in the bytes of a state: each is one number of 4 bytes, and every other byte stays.
use Rattle.std.specs.Prelude.{Bool, List, ℕ, ◌^◌, ltb, eqb, length}
use Rattle.std.proofs.lemmas.List.Edits.{sets}
use Rattle.plain.specs.Answer.{not_as_asked}
use Rattle.plain.specs.Choice.{pick, both}
use Rattle.numbers.specs.Bytes.{number_at, bytes_of}
use Rattle.machine.specs.Lines.{raised}
use Rattle.state.specs.Layout as layout
use Rattle.requests.specs.Requests.{is_line}

-- the number that a call answered, and the lent state afterwards
pub record Lent : Type 0 where
  pub number : ℕ
  pub state : List ℕ

-- where the mask and the waiting requests stand in a state
abbrev pub mask_place : ℕ
mask_place = 3536

abbrev pub waiting_place : ℕ
waiting_place = 3540

abbrev pub is_state : List ℕ → Bool
is_state state = eqb (length state) (layout.state).width

abbrev pub untouched : List ℕ → Lent
untouched state = record { number = not_as_asked; state = state }

-- a number put at a place
abbrev pub changed : ℕ → ℕ → List ℕ → Lent
changed place v state = record { number = 0; state = sets state place (bytes_of 4 v) }

-- another length, or no line's number: 2
unfoldable pub raised_in : ℕ → List ℕ → Lent
raised_in n state =
    pick (both (is_state state) (is_line n)) (changed waiting_place (raised n (number_at 4 state waiting_place)) state) (untouched state)

-- another length, or a mask of more than 16 bits: 2
unfoldable pub masked_in : ℕ → List ℕ → Lent
masked_in mask state = pick (both (is_state state) (ltb mask (2 ^ 16))) (changed mask_place mask state) (untouched state)
