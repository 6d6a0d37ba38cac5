-- A host that raises a line or sets the mask leaves a well-formed machine well formed.
use Rattle.std.specs.Prelude.{Bool, true, ◌≡◌, ℕ, zero, suc, ◌^◌, ◌≤◌, ◌<◌, leb}
use Rattle.std.proofs.Math.Path.{sym, ap}
use Rattle.std.proofs.Common.{subst, ◌∙◌, arith, leb-true}
use Rattle.std.proofs.Math.Dec.{T}
use Rattle.plain.specs.Choice.{both}
use Rattle.plain.specs.Laws.Choice.{both_true}
use Rattle.links.specs.Depths.{cells_depth}
use Rattle.links.specs.Linked.{linked}
use Rattle.machine.specs.Lines.{lines_formed, raised}
use Rattle.machine.specs.State.{well_formed}
use Rattle.machine.proofs.Laws.Lines.{LinesFormed, lines-formed, lines-formed-true}
use Rattle.machine.specs.declared.Lines.{Lines}
use Rattle.machine.specs.declared.Machine.{Machine}
use Rattle.requests.specs.Requests.{is_line}
use Rattle.requests.specs.Laws.Room.{raised-fits, raised-even}
use Rattle.lines.specs.Meaning.{with_lines, with_waiting, with_mask}

module _ (m : Machine) (formed : well_formed m ≡ true) where
  its-lines : LinesFormed m.lines
  unfolding well_formed
  its-lines =
      let p = both_true (leb m.p cells_depth) (both (leb m.flag 1) (both (lines_formed m.lines) (linked m.links))) formed in
      let flag = both_true (leb m.flag 1) (both (lines_formed m.lines) (linked m.links)) p.1 in
      let lines = both_true (lines_formed m.lines) (linked m.links) flag.1 in
      lines-formed m.lines (subst T (sym lines.0) tt)

  -- with other lines that are well formed
  formed-with : (l : Lines) → LinesFormed l → well_formed (with_lines l m) ≡ true
  unfolding well_formed
  formed-with l h =
      let old = lines-formed-true m.lines its-lines in
      let new = lines-formed-true l h in
      ap (λ (b : Bool). both (leb m.p cells_depth) (both (leb m.flag 1) (both b (linked m.links)))) (new ∙ sym old) ∙ formed

  pub raised-formed : (n : ℕ) → is_line n ≡ true → well_formed (with_waiting (raised n m.lines.waiting) m) ≡ true
  raised-formed n is-line =
      let within = both_true (leb 1 n) (leb n 15) is-line in
      formed-with (with_waiting (raised n m.lines.waiting) m).lines (go n (leb-true 1 n within.0) (leb-true n 15 within.1))
    where
      go : (k : ℕ) → 1 ≤ k → k ≤ 15 → LinesFormed (with_waiting (raised k m.lines.waiting) m).lines
      go zero some below = elim some [ ]
      go (suc k) some below =
          record {
            mask-within = its-lines.mask-within;
            waiting-within = raised-fits 16 (suc k) m.lines.waiting (omega arith) its-lines.waiting-within;
            waiting-even = raised-even k m.lines.waiting its-lines.waiting-even;
            block_within = its-lines.block_within;
          }

  pub masked-formed : (mask : ℕ) → mask < 2 ^ 16 → well_formed (with_mask mask m) ≡ true
  masked-formed mask within =
      formed-with (with_mask mask m).lines
      (record {
        mask-within = within;
        waiting-within = its-lines.waiting-within;
        waiting-even = its-lines.waiting-even;
        block_within = its-lines.block_within;
      })
