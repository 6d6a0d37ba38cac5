-- Four machines in rows: one of them read, and one of them written.
use Rattle.std.specs.Prelude.{◌≢◌, ◌≡◌, refl, ℕ, zero, suc, ◌+◌, ◌<◌, ◌≤◌, get_or, set, length}
use Rattle.std.proofs.Math.Logic.{dite}
use Rattle.std.proofs.Common.{ap, sym, ◌∙◌, subst, arith, length-set}
use mathlib.Core.List.{List, [], ◌∷◌}
use Rattle.std.proofs.Math.Decide.{ℕ_discrete}
use Rattle.std.proofs.Math.Seq.{get_or-set_same, get_or-set_other}
use Rattle.machine.specs.Limits.{tasks_count}
use Rattle.machine.specs.Tasks.{no_machine}
use Rattle.machine.specs.declared.Machine.{Machine}
use Rattle.run_words.specs.Levels.{pointers_of, no_pointers, in_rows, task_in, machines_in, Laid, Hold, AllLaid, Seats, note_in, HeedsSame}
use Rattle.run_words.specs.Notes.{aside_of, note_of}
use Rattle.run_words.specs.declared.Pointers.{Pointers}
use Rattle.run_words.specs.Laws.Again.{whole_again}
use Rattle.run_words.specs.Laws.Filled.{Filled, filled_none, filled_next, filled-all}
use Rattle.run_words.specs.Laws.Tabled.{length-tabulated, tabulated-at, tabulated-set}

-- what is read past the end is empty
reached : {A : Type 0} (l : List (List A)) (t n : ℕ) → length (get_or l t []) ≡ suc n → t < length l
reached [] t n e = absurd (omega arith)
reached (x ∷ xs) zero n e = omega arith
reached (x ∷ xs) (suc t) n e =
    let before : t < length xs = reached xs t n e in
    omega arith

module _ (cells returns : List (List ℕ)) (rows : List (List (List ℕ))) (copies : List (List ℕ)) (saved : List Pointers) where
  pub machines-long : length (machines_in cells returns rows copies saved) ≡ tasks_count
  unfolding machines_in
  machines-long = length-tabulated tasks_count (task_in cells returns rows copies saved)

  pub machine-there : (t : ℕ) → t < tasks_count → get_or (machines_in cells returns rows copies saved) t no_machine ≡ task_in cells returns rows copies saved t
  unfolding machines_in
  machine-there t h = tabulated-at tasks_count (task_in cells returns rows copies saved) t no_machine h

-- one of them anew
module _ {cells returns : List (List ℕ)} {rows : List (List (List ℕ))} {copies : List (List ℕ)} {saved : List Pointers} (seats : Seats cells returns rows copies saved) (t : ℕ)
    (h : t < tasks_count) (cells' returns' : List ℕ) (row : List (List ℕ)) (copy : List ℕ) (at : Pointers)
  where
    pub rows-there : get_or (set rows t row) t [] ≡ row
    rows-there = get_or-set_same rows t row [] (reached rows t _ (seats.laid t h).rows_long)

    copies-there : get_or (set copies t copy) t [] ≡ copy
    copies-there = get_or-set_same copies t copy [] (reached copies t _ (seats.laid t h).copies-long)

    laid-set : Laid row copy → AllLaid (set rows t row) (set copies t copy)
    laid-set new i less =
        dite (ℕ_discrete i t)
        (λ (e : i ≡ t). subst (λ (j : ℕ). Laid (get_or (set rows t row) j []) (get_or (set copies t copy) j [])) (sym e) (rw (rows-there, copies-there) new))
        (λ (ne : i ≢ t). rw (get_or-set_other rows t i row [] ne, get_or-set_other copies t i copy [] ne) (seats.laid i less))

    pub seats-set : Laid row copy → Seats (set cells t cells') (set returns t returns') (set rows t row) (set copies t copy) (set saved t at)
    seats-set new =
        record {
          cells-long = length-set cells t cells' ∙ seats.cells-long;
          returns-long = length-set returns t returns' ∙ seats.returns-long;
          saved-long = length-set saved t at ∙ seats.saved-long;
          laid = laid-set new;
        }

    pub machine-set : machines_in (set cells t cells') (set returns t returns') (set rows t row) (set copies t copy) (set saved t at) ≡
        set (machines_in cells returns rows copies saved) t (in_rows cells' returns' row copy at)
    unfolding machines_in
    machine-set =
        tabulated-set tasks_count (task_in cells returns rows copies saved) (task_in (set cells t cells') (set returns t returns') (set rows t row) (set copies t copy) (set saved t at)) t
        (in_rows cells' returns' row copy at) h
        (rw (
          get_or-set_same cells t cells' [] (omega (arith, seats.cells-long)),
          get_or-set_same returns t returns' [] (omega (arith, seats.returns-long)),
          rows-there,
          copies-there,
          get_or-set_same saved t at no_pointers (omega (arith, seats.saved-long)),
        ))
        (λ i less ne.
        rw (
          get_or-set_other cells t i cells' [] ne,
          get_or-set_other returns t i returns' [] ne,
          get_or-set_other rows t i row [] ne,
          get_or-set_other copies t i copy [] ne,
          get_or-set_other saved t i at no_pointers ne,
        ))

-- one row that notes of lines what was noted
pub heeds-kept : (rows₀ rows : List (List (List ℕ))) (t : ℕ) (row : List (List ℕ)) → get_or (set rows t row) t [] ≡ row →
    (note_in row).heeds ≡ (note_in (get_or rows t [])).heeds → HeedsSame rows₀ rows → HeedsSame rows₀ (set rows t row)
heeds-kept rows₀ rows t row there same before i less =
    dite (ℕ_discrete i t)
    (λ (e : i ≡ t).
    ap (λ (j : ℕ). (note_in (get_or (set rows t row) j [])).heeds) e ∙
    (ap (λ (r : List (List ℕ)). (note_in r).heeds) there ∙ (same ∙ (ap (λ (j : ℕ). (note_in (get_or rows j [])).heeds) (sym e) ∙ before i less))))
    (λ (ne : i ≢ t). ap (λ (r : List (List ℕ)). (note_in r).heeds) (get_or-set_other rows t i row [] ne) ∙ before i less)

-- the first t machines are written
pub record Apart (machines : List Machine) (cells returns : List (List ℕ)) (rows : List (List (List ℕ))) (copies : List (List ℕ)) (saved : List Pointers) (t : ℕ) : Type 0 where
  pub seats : Seats cells returns rows copies saved
  pub filled : Filled tasks_count machines (machines_in cells returns rows copies saved) t

module _ (machines : List Machine) (cells returns : List (List ℕ)) (rows : List (List (List ℕ))) (copies : List (List ℕ)) (saved : List Pointers) where
  pub apart_none : length machines ≡ tasks_count → Seats cells returns rows copies saved → Apart machines cells returns rows copies saved 0
  apart_none machines-are seats =
      record {
        seats = seats;
        filled = filled_none tasks_count machines (machines_in cells returns rows copies saved) machines-are (machines-long cells returns rows copies saved);
      }

  module _ (t : ℕ) (now : Apart machines cells returns rows copies saved t) where
    pub apart-all : tasks_count ≤ t → machines_in cells returns rows copies saved ≡ machines
    apart-all over = filled-all tasks_count machines (machines_in cells returns rows copies saved) t now.filled over

    pub apart_next : t < tasks_count → (row : List (List ℕ)) (copy : List ℕ) (at : Pointers) {lost heeds : ℕ} →
        Hold row copy (get_or machines t no_machine).links.frames (get_or machines t no_machine).links.levels (note_of (aside_of (get_or machines t no_machine).thrown (get_or machines t no_machine).lines) lost heeds) → at ≡ pointers_of (get_or machines t no_machine) →
        Apart machines (set cells t (get_or machines t no_machine).cells) (set returns t (get_or machines t no_machine).links.returns) (set rows t row) (set copies t copy)
        (set saved t at) (t + 1)
    apart_next h row copy at held is =
        let m = get_or machines t no_machine in
        let put = machine-set now.seats t h m.cells m.links.returns row copy at in
        record {
          seats = seats-set now.seats t h m.cells m.links.returns row copy at held.laid;
          filled =
              filled_next tasks_count machines (machines_in cells returns rows copies saved) _ t no_machine m now.filled h
              (put ∙ ap (set (machines_in cells returns rows copies saved) t) (whole_again m held is)) refl;
        }
