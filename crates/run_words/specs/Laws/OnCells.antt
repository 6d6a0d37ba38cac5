-- Instructions that touch the parameter cells alone: refused by test 5 or 8, or carried out.
use Rattle.std.specs.Prelude.{◌≡◌, refl, Bool, true, false, List, ℕ, ◌+◌, ◌≤◌, ◌<◌, leb, set}
use Rattle.std.proofs.Common.{subst}
use native.Mathlib.Omega.{arith}
use borrow.Author.Tests.{lt-ltb, le-ltb, leb-true, leb-false}
use Rattle.std.proofs.Math.ListN.{length}
use Rattle.std.proofs.lemmas.List.Edits.{sets}
use Rattle.plain.specs.Choice.{pick}
use Rattle.plain.specs.Answer.{refuses, gives}
use Rattle.links.specs.Depths.{cells_depth}
use Rattle.links.specs.Actions.{still}
use Rattle.machine.specs.Reach.{bar_of}
use Rattle.machine.specs.Codes.{Op}
use Rattle.machine.specs.Rows.{make, row_of, nothing}
use Rattle.machine.specs.Step.{carried}
use Rattle.machine.specs.declared.Machine.{Machine}
use Rattle.machine.specs.declared.Reach.{Reach}
use Rattle.run_words.specs.Machines.{with_stack, in_reach}
use Rattle.run_words.specs.Promises.{Spells, Meets, cell_pushed, pushed_cells}

-- the row of an instruction that leaves links and memory alone and asks for nothing
abbrev pub Plain : Op → ℕ → ℕ → ℕ → List ℕ → ℕ → ℕ → ℕ → List ℕ → ℕ → ℕ → Type 0
Plain op takes operand next cells p flag keeps values goes flag' =
    (code : ℕ) → Spells code op takes →
    (reach : Reach) (mem : List ℕ) (rest : Machine) →
    row_of (in_reach reach code operand next) mem (with_stack cells p rest.counter flag rest) op ≡
    make keeps values still goes flag' mem nothing

module _ (op : Op) (takes operand next : ℕ) (cells : List ℕ) (p flag keeps : ℕ) (values : List ℕ) (goes flag' : ℕ)
    (plain : Plain op takes operand next cells p flag keeps values goes flag') where
  -- fewer cells than it takes: test 5
  pub few : p < takes → Meets op takes operand next cells p flag cells (refuses 5)
  unfolding carried bar_of
  few h code e reach mem rest =
      (rw (e.names, plain code e reach mem rest, e.known, e.asks, lt-ltb p takes h), refl)

  -- P would pass 64: test 8
  many : takes ≤ p → cells_depth < keeps + length values → Meets op takes operand next cells p flag cells (refuses 8)
  unfolding carried bar_of
  many h g code e reach mem rest =
      (rw (e.names, plain code e reach mem rest, e.known, e.asks, le-ltb p takes h, lt-ltb cells_depth (keeps + length values) g), refl)

  -- it is carried out
  pub went : (cells' : List ℕ) (p' : ℕ) → takes ≤ p → p' ≤ cells_depth → sets cells keeps values ≡ cells' → keeps + length values ≡ p' →
      Meets op takes operand next cells p flag cells' (gives (record { p = p'; flag = flag'; counter = goes }))
  unfolding carried bar_of
  went cells' p' h g same depth code e reach mem rest =
      let room : keeps + length values ≤ cells_depth = omega arith in (
        rw
            (e.names, plain code e reach mem rest, e.known, e.asks, le-ltb p takes h, le-ltb cells_depth (keeps + length values) room, same, depth),
        tt,
      )

  -- it is carried out by a push, unless P would pass 64
  pub by-push : (v : ℕ) → flag' ≡ flag → goes ≡ next → takes ≤ p → p ≤ cells_depth →
      sets cells keeps values ≡ set cells p v → keeps + length values ≡ p + 1 →
      Meets op takes operand next cells p flag (pushed_cells cells p v) (cell_pushed p flag next)
  by-push v f g h top same depth = go (leb cells_depth p) refl
    where
      go : (b : Bool) → leb cells_depth p ≡ b →
          Meets op takes operand next cells p flag (pick b cells (set cells p v))
          (pick b (refuses 8) (gives (record { p = p + 1; flag = flag; counter = next })))
      go true e =
          let over : cells_depth ≤ p = leb-true cells_depth p e in
          many h (omega arith)
      go false e =
          let room : p < cells_depth = leb-false cells_depth p e in
          subst
          (λ (x : ℕ). Meets op takes operand next cells p flag (set cells p v) (gives (record { p = p + 1; flag = x; counter = next })))
          f
          (subst
          (λ (y : ℕ). Meets op takes operand next cells p flag (set cells p v) (gives (record { p = p + 1; flag = flag'; counter = y })))
          g
          (went (set cells p v) (p + 1) h (omega arith) same depth))
