-- A line that enters a machine in its arrays.
use Rattle.std.specs.Prelude.{◌≡◌, refl, true, set}
use Rattle.std.proofs.Math.Path.{ap, sym, subst⁻¹}
use Rattle.std.proofs.Common.{◌∙◌, arith}
use mathlib.Core.List.{List, []}
use Prim.Native.Nat.{ℕ, ◌+◌, ◌*◌}
use Rattle.std.proofs.Math.Numerals.{add-one}
use Rattle.links.specs.Actions.{called_frame}
use Rattle.links.specs.declared.Frame.{Frame}
use Rattle.links.specs.declared.Level.{Level}
use Rattle.machine.specs.Lines.{Line, none, line, lowest_due, entering, serving, after_line, let_in}
use Rattle.machine.proofs.Laws.Clash.{never}
use Rattle.machine.proofs.Laws.Lines.{Enters, enters}
use Rattle.machine.specs.declared.Lines.{Lines}
use Rattle.machine.specs.declared.Machine.{Machine}
use Rattle.requests.specs.Requests.{entering_with}
use Rattle.run_words.specs.Calm.{blocked}
use Rattle.run_words.specs.Entries.{LetsIn}
use Rattle.run_words.specs.Levels.{frames_in, levels_in, note_in, in_rows, Laid, Hold}
use Rattle.run_words.specs.Machines.{links_of}
use Rattle.run_words.specs.Notes.{Note, with_lines}
use Rattle.run_words.specs.declared.Pointers.{Pointers}
use Rattle.run_words.specs.Laws.Calms.{calm-stays, none-calm}

module _ (returns : List ℕ) (rows : List (List ℕ)) (copies : List ℕ) (at : Pointers) where
  abbrev lines : Lines
  lines = (note_in rows).aside.lines

  -- who enters, by the numbers alone
  asked : {l : Lines} {d : Line} → l ≡ lines → d ≡ entering_with l at.r at.s → (cells : List ℕ) → entering (in_rows cells returns rows copies at) ≡ d
  unfolding entering entering_with
  asked el ed cells = sym (ed ∙ ap (λ (l : Lines). entering_with l at.r at.s) el)

  module _ {l : Lines} (el : l ≡ lines) {d : Line} (ed : d ≡ entering_with l at.r at.s) where
    -- nobody does
    pub nobody-in : d ≡ none → Laid rows copies → LetsIn returns rows copies at returns rows copies at
    nobody-in is laid =
        let calm = none-calm (ap (λ (x : Lines). entering_with x at.r at.s) (sym el) ∙ (sym ed ∙ is)) in
        record {
          entered = λ cells. sym (calm-stays true (in_rows cells returns rows copies at) calm);
          calm = calm;
          laid = laid;
          lost-same = refl;
          heeds-same = refl;
          quiet-kept = λ e. e;
        }

    -- line n does
    module _ {n : ℕ} (is : d ≡ line n) where
      pub finds : Enters (in_rows [] returns rows copies at) n
      finds = enters (in_rows [] returns rows copies at) n (asked el ed [] ∙ is)

      pub line-in : {rows' : List (List ℕ)} {copies' : List ℕ} {l' : Lines} → l' ≡ serving n l →
          {frames : List Frame} {levels : List Level} → frames ≡ set (frames_in rows copies) (at.s + 1) (called_frame at.r at.counter) → levels ≡ levels_in rows copies →
          {note : Note} → note ≡ note_in rows →
          Hold rows' copies' frames levels (with_lines l' note) →
          {to : Pointers} → to ≡ record { p = at.p; r = at.r + 1; s = at.s + 1; e = at.e; counter = 4 * n; flag = at.flag } →
          LetsIn returns rows copies at (set returns at.r at.counter) rows' copies' to
      unfolding let_in
      line-in {rows'} {copies'} {l'} es {frames} {levels} ef elv {note} en held {to} et =
          let served : note_in rows' ≡ with_lines (serving n lines) (note_in rows) =
          held.note-is ∙ (ap (λ (x : Note). with_lines l' x) en ∙ ap (λ (x : Lines). with_lines x (note_in rows)) (es ∙ ap (serving n) el)) in
          subst⁻¹ (LetsIn returns rows copies at (set returns at.r at.counter) rows' copies') et
          (record {
            entered = λ cells.
                ap (λ (f : List Frame). made cells f (levels_in rows' copies') (note_in rows')) (held.frames-are ∙ ef) ∙
                (ap (λ (v : List Level). made cells (set (frames_in rows copies) (at.s + 1) (called_frame at.r at.counter)) v (note_in rows')) (held.levels-are ∙ elv) ∙
                (ap (made cells (set (frames_in rows copies) (at.s + 1) (called_frame at.r at.counter)) (levels_in rows copies)) served ∙
                ((rw (add-one at.r, add-one at.s) (refl)) ∙
                sym (ap (λ (x : Line). after_line x (in_rows cells returns rows copies at)) (asked el ed cells ∙ is)))));
            calm = blocked (λ z. let one : (note_in rows').aside.lines.block ≡ 1 = ap (λ (x : Note). x.aside.lines.block) served in absurd (omega arith));
            laid = held.laid;
            lost-same = ap (λ (x : Note). x.lost) served;
            heeds-same = ap (λ (x : Note). x.heeds) served;
            quiet-kept = λ e. never_both finds.lowest e;
          })
        where
          made : List ℕ → List Frame → List Level → Note → Machine
          made cells f v x =
              record {
                cells = cells;
                p = at.p;
                links = links_of (set returns at.r at.counter) (at.r + 1) f (at.s + 1) v at.e;
                counter = 4 * n;
                flag = at.flag;
                thrown = x.aside.thrown;
                lines = x.aside.lines;
              }

          never_both : {A : Type 0} → lowest_due lines ≡ line n → lowest_due lines ≡ none → A
          never_both a b = never (cc)
