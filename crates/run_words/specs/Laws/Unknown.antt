-- A code below 80 that is none of the known ones is unknown: the table read as a chain of tests.
use Rattle.std.specs.Prelude.{◌≡◌, refl, Bool, true, false, List, [], ◌∷◌, ℕ, zero, suc, ◌+◌, ◌<◌, eqb, get_or}
use Rattle.std.proofs.Common.{ap, ◌∙◌, sym, add-zero, arith, lt-ltb, eq-eqb, ne_eqb}
use Rattle.plain.specs.Choice.{pick}
use Rattle.plain.specs.Answer.{refuses}
use Rattle.machine.specs.Reach.{bar_of}
use Rattle.machine.specs.Codes.{Entry, unknown, entry_at, table}
use Rattle.machine.specs.Rows.{row_of}
use Rattle.machine.specs.Step.{carried}
use Rattle.run_words.specs.Promises.{CarriesOut}

-- the entries from place k on, asked one after another
abbrev pub chain : ℕ → List Entry → ℕ → Entry
chain k [] n = unknown
chain k (e ∷ es) n = pick (eqb n k) e (chain (suc k) es n)

chain-at : (es : List Entry) (k i : ℕ) → chain k es (k + i) ≡ get_or es i (unknown)
chain-at [] k i = refl
chain-at (e ∷ es) k zero = rw (eq-eqb (k + 0) k (add-zero k))
chain-at (e ∷ es) k (suc i) =
    let other : k + suc i ≡ k → ⊥ = λ h. omega arith in
    let shifted : k + suc i ≡ suc k + i = omega arith in
    rw (ne_eqb (k + suc i) k other) (ap (chain (suc k) es) shifted ∙ chain-at es (suc k) i)

pub unknown-at : (code : ℕ) → code < 0x80 → chain 0 table code ≡ unknown → entry_at code ≡ unknown
unfolding entry_at
unknown-at code h e =
    let start : 0 + code ≡ code = omega arith in
    rw (lt-ltb code 0x80 h) (sym (chain-at table 0 code) ∙ (ap (chain 0 table) start ∙ e))

-- an unknown code's entry, whichever of them it is
pub either_way : (b : Bool) (e : Entry) → pick b e e ≡ e
either_way true e = refl
either_way false e = refl

-- an unknown code is refused with 4, and alters no cell
pub unknown-refused : (code operand next p flag : ℕ) (cells : List ℕ) → entry_at code ≡ unknown →
    CarriesOut code operand next cells p flag cells (refuses 4)
unfolding row_of carried bar_of
unknown-refused code operand next p flag cells e reach mem rest = (rw e, refl)
