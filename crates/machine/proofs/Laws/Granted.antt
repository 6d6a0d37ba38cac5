-- The tests let through only actions that the linked stacks allow.
use Rattle.std.specs.Prelude.{◌≡◌, refl, Bool, true, false, ℕ, ◌<◌, ◌≤◌, eqb}
use Rattle.std.proofs.Common.{subst, arith, leb-false, ltb-false}
use Rattle.std.proofs.lemmas.Bool.{eqb-false}
use Rattle.plain.specs.Choice.{pick, decided}
use Rattle.links.specs.Depths.{cells_depth, returns_depth, subroutines_depth, exceptions_depth}
use Rattle.links.specs.Actions.{Act, still, push, call, catch, exit, pop, throw, keep, reset}
use Rattle.links.specs.Allowed.{Allowed}
use Rattle.machine.specs.Codes.{entry_at}
use Rattle.machine.specs.Fetch.{Instruction}
use Rattle.machine.specs.Rows.{Row, Lack, nothing, a_return_cell, Lack-discrete}
use Rattle.machine.specs.Checks.{tests}
use Rattle.machine.proofs.Laws.Passed.{AllPass, passed-at}
use Rattle.machine.proofs.Laws.Marks.{catch-takes}
use Rattle.machine.proofs.Laws.Told.{Tells}
use Rattle.machine.specs.declared.Machine.{Machine}

positive : (n : ℕ) → eqb n 0 ≡ false → 0 < n
positive n e = let z : n ≡ 0 → ⊥ = eqb-false n 0 e in omega arith

-- a return cell is not lacking
found-positive : (n : ℕ) (lack : Lack) → lack ≡ pick (eqb n 0) a_return_cell nothing → decided (Lack-discrete lack a_return_cell) ≡ false → 0 < n
found-positive n lack is found =
    positive n (go (eqb n 0) (subst (λ (x : Lack). decided (Lack-discrete x a_return_cell) ≡ false) is found))
  where
    go : (b : Bool) → decided (Lack-discrete (pick b a_return_cell nothing) a_return_cell) ≡ false → b ≡ false
    go true e = e
    go false e = refl

-- an instruction whose tests all pass, with a row that tells its action
module _ (i : Instruction) (m : Machine) (row : Row) (p-within : m.p ≤ cells_depth) (passed : AllPass (tests i m row)) where
  cells-taken : (entry_at i.code).takes ≤ m.p
  cells-taken = ltb-false m.p (entry_at i.code).takes (passed-at 5 (tests i m row) passed)

  -- tests 0, 6, 7, 9, 10 and 11
  pub granted : (a : Act) → row.link ≡ a → Tells i m (entry_at i.code).op row a → Allowed a m.links
  granted still is t = tt
  granted (push x) is t = leb-false returns_depth m.links.r (cc (is, passed-at 9 (tests i m row) passed))
  granted (call address) is t = (
    leb-false returns_depth m.links.r (cc (is, passed-at 9 (tests i m row) passed)),
    leb-false subroutines_depth m.links.s (cc (is, passed-at 10 (tests i m row) passed)),
  )
  granted (catch address p) is t = (
    leb-false returns_depth m.links.r (cc (is, passed-at 9 (tests i m row) passed)),
    leb-false subroutines_depth m.links.s (cc (is, passed-at 10 (tests i m row) passed)),
    leb-false exceptions_depth m.links.e (cc (is, passed-at 11 (tests i m row) passed)),
    omega (arith, t.1, cells-taken, catch-takes i.code t.0, p-within),
  )
  granted exit is t = positive m.links.s (cc (is, passed-at 0 (tests i m row) passed))
  granted pop is t = found-positive m.links.r row.lack t.1 (passed-at 6 (tests i m row) passed)
  granted throw is t = positive m.links.e (cc (is, passed-at 7 (tests i m row) passed))
  granted (keep locals cells) is t = tt
  granted reset is t = tt
