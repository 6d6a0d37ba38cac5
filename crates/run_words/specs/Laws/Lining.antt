-- Whose turns start with a test for lines: what is noted of it, and how long a turn is.
use Rattle.std.specs.Prelude.{◌≡◌, refl, Bool, true, false, List, [], ◌⊎◌, ◌≢◌, ℕ, ◌+◌, ◌*◌, ◌<◌, leb, eqb, get_or, set}
use Rattle.std.proofs.Common.{ap, sym, ◌∙◌, inl, inr, arith, eqb-true, ne_eqb, le-leb, get_or-set_other}
use Rattle.std.proofs.Math.Logic.{dite}
use Rattle.std.proofs.Math.Decide.{ℕ_discrete}
use Rattle.std.proofs.lemmas.Bool.{eqb-false, lt-leb}
use Rattle.plain.specs.Choice.{pick}
use Rattle.machine.specs.Limits.{tasks_count, shared_length, part_length}
use Rattle.machine.specs.Lines.{none, lowest_due}
use Rattle.machine.specs.Reach.{task}
use Rattle.run_words.specs.Calm.{lines_enter}
use Rattle.run_words.specs.Clocks.{LinedTask, rest_or}
use Rattle.run_words.specs.Levels.{note_in, HeedsSame}
use Rattle.run_words.specs.Notes.{Note}
use Rattle.run_words.specs.Levels.{Laid}
use Rattle.run_words.specs.Laws.Turning.{most_of}

-- by its part, lines enter task 0 only
pub lines-of-task : (t : ℕ) → lines_enter (task t) ≡ eqb t 0
lines-of-task t = go (eqb t 0) refl
  where
    go : (b : Bool) → eqb t 0 ≡ b → leb (shared_length + part_length * t) shared_length ≡ b
    go true e = let zero = eqb-true t 0 e in le-leb (shared_length + part_length * t) shared_length (omega arith)
    go false e = let other = eqb-false t 0 e in lt-leb (shared_length + part_length * t) shared_length (omega arith)

pub record Lining (lined : ℕ) (rows : List (List (List ℕ))) : Type 0 where
  pub one : (lined ≡ 0) ⊎ (lined ≡ tasks_count)
  pub unheeded : (t : ℕ) → t < tasks_count → (t ≡ lined → ⊥) → (note_in (get_or rows t [])).heeds ≡ 0
  pub heeded : lined ≡ 0 → (note_in (get_or rows 0 [])).heeds ≡ 1
  pub quiet : (lined ≡ 0 → ⊥) → lowest_due (note_in (get_or rows 0 [])).aside.lines ≡ none

-- the one that is tested is task 0
pub lined-first : {lined : ℕ} {rows : List (List (List ℕ))} → Lining lined rows → {t : ℕ} → t < tasks_count → t ≡ lined → t ≡ 0
lined-first {lined} {rows} l {t} h is = go l.one
  where
    go : (lined ≡ 0) ⊎ (lined ≡ tasks_count) → t ≡ 0
    go (inl e) = is ∙ e
    go (inr e) = absurd (omega arith)

-- one row anew, with the same note of lines
pub lining-set : {lined : ℕ} {rows : List (List (List ℕ))} → Lining lined rows → (t : ℕ) (row : List (List ℕ)) → get_or (set rows t row) t [] ≡ row →
    (note_in row).heeds ≡ (note_in (get_or rows t [])).heeds →
    (lowest_due (note_in (get_or rows t [])).aside.lines ≡ none → lowest_due (note_in row).aside.lines ≡ none) → Lining lined (set rows t row)
lining-set {lined} {rows} l t row there same quiet-kept =
    record {
      one = l.one;
      unheeded = λ i less other. heeds-at i ∙ l.unheeded i less other;
      heeded = λ z. heeds-at 0 ∙ l.heeded z;
      quiet = λ not. quiet_at 0 (l.quiet not);
    }
  where
    heeds-at : (i : ℕ) → (note_in (get_or (set rows t row) i [])).heeds ≡ (note_in (get_or rows i [])).heeds
    heeds-at i =
        dite (ℕ_discrete i t)
        (λ (e : i ≡ t).
        ap (λ (j : ℕ). (note_in (get_or (set rows t row) j [])).heeds) e ∙
        (ap (λ (r : List (List ℕ)). (note_in r).heeds) there ∙ (same ∙ ap (λ (j : ℕ). (note_in (get_or rows j [])).heeds) (sym e))))
        (λ (ne : i ≢ t). ap (λ (r : List (List ℕ)). (note_in r).heeds) (get_or-set_other rows t i row [] ne))

    quiet_at : (i : ℕ) → lowest_due (note_in (get_or rows i [])).aside.lines ≡ none → lowest_due (note_in (get_or (set rows t row) i [])).aside.lines ≡ none
    quiet_at i =
        dite (ℕ_discrete i t)
        (λ (e : i ≡ t) before.
        ap (λ (j : ℕ). lowest_due (note_in (get_or (set rows t row) j [])).aside.lines) e ∙
        (ap (λ (r : List (List ℕ)). lowest_due (note_in r).aside.lines) there ∙
        quiet-kept (ap (λ (j : ℕ). lowest_due (note_in (get_or rows j [])).aside.lines) (sym e) ∙ before)))
        (λ (ne : i ≢ t) before. ap (λ (r : List (List ℕ)). lowest_due (note_in r).aside.lines) (get_or-set_other rows t i row [] ne) ∙ before)

-- before the first turn
pub lining-first : (rows₀ rows : List (List (List ℕ))) → ((t : ℕ) → t < tasks_count → (note_in (get_or rows₀ t [])).heeds ≡ 0) → HeedsSame rows₀ rows →
    {row : List (List ℕ)} {lined : ℕ} → LinedTask (get_or rows 0 []) row lined → {copies : List ℕ} → Laid (get_or rows 0 []) copies →
    get_or (set rows 0 row) 0 [] ≡ row → Lining lined (set rows 0 row)
lining-first rows₀ rows zeros same {row} {lined} is {copies} laid there =
    record {
      one = is.one;
      unheeded = λ t less other.
          dite (ℕ_discrete t 0)
          (λ (e : t ≡ 0).
          let off : eqb lined 0 ≡ false = ne_eqb lined 0 (λ z. other (e ∙ sym z)) in
          ap (λ (j : ℕ). (note_in (get_or (set rows 0 row) j [])).heeds) e ∙
          (ap (λ (r : List (List ℕ)). (note_in r).heeds) (there ∙ (is.attends.quiet off).0) ∙ before 0 (omega arith)))
          (λ (ne : t ≢ 0). ap (λ (r : List (List ℕ)). (note_in r).heeds) (get_or-set_other rows 0 t row [] ne) ∙ before t less);
      heeded = λ z.
          ap (λ (r : List (List ℕ)). (note_in r).heeds) there ∙
          ap (λ (n : Note). n.heeds) (is.attends.heeded (ap (λ (k : ℕ). eqb k 0) z) copies laid).note-is;
      quiet = λ not.
          let q = is.attends.quiet (ne_eqb lined 0 not) in
          ap (λ (r : List (List ℕ)). lowest_due (note_in r).aside.lines) (there ∙ q.0) ∙ q.1;
    }
  where
    before : (t : ℕ) → t < tasks_count → (note_in (get_or rows t [])).heeds ≡ 0
    before t h = same t h ∙ zeros t h

-- a turn of any other is a whole one
pub whole-most : (t rest quantum lined : ℕ) → ((lined ≡ 0 → ⊥) → rest ≡ 0) → (t ≡ lined → ⊥) → most_of t rest quantum ≡ quantum
whole-most t rest quantum lined whole other = go (eqb t 0) refl
  where
    go : (b : Bool) → eqb t 0 ≡ b → pick b (rest_or rest quantum) quantum ≡ quantum
    go true e =
        let zero = eqb-true t 0 e in
        ap (λ (r : ℕ). rest_or r quantum) (whole (λ z. other (zero ∙ sym z)))
    go false e = refl

-- and task 0's what is left
pub rest-most : (t rest quantum : ℕ) → t ≡ 0 → most_of t rest quantum ≡ rest_or rest quantum
rest-most t rest quantum z = ap (λ (x : ℕ). most_of x rest quantum) z
