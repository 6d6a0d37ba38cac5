-- The arms of a round: what each instruction on the linked stacks, the memory and the cells in view does, by what its check answers.
use Rattle.std.specs.Prelude.{Option, Some, None, ◌≡◌, Bool, true, false, List, ℕ, suc, ◌+◌, ◌-◌, ◌%◌, ◌^◌, ◌≤◌, ltb, leb, eqb, get_or, set, take, drop}
use Rattle.std.proofs.Math.Path.{refl, subst⁻¹}
use Rattle.std.proofs.Common.{ap, sym, ◌∙◌, subst, inl, inr}
use native.Mathlib.Omega.{arith}
use Rattle.std.proofs.Math.Numerals.{add-one}
use borrow.Author.Tests.{le-ltb, ltb-false, eq-eqb, eqb-false}
use Rattle.std.proofs.Math.Dec.{leb-suc-suc}
use Rattle.std.proofs.lemmas.List.Edits.{sets}
use Rattle.plain.specs.Answer.{Answer, refuses, gives}
use Rattle.plain.specs.Choice.{pick, decided}
use Rattle.numbers.specs.Bytes.{number_at, bytes_of}
use Rattle.links.specs.Depths.{cells_depth, returns_depth, subroutines_depth, exceptions_depth, locals_count}
use Rattle.links.specs.Actions.{called_frame, with_locals, with_cells}
use Rattle.links.specs.Linked.{no_frame, no_level, copy_of_r, copy_of_s, copy_of_p}
use Rattle.links.specs.declared.Frame.{Frame}
use Rattle.links.specs.declared.Level.{Level}
use Rattle.machine.specs.Codes.{entry_at, table, cycles_of, code_pause, LINK, THROW, FETCH, STORE}
use Rattle.machine.specs.Lines.{released}
use Rattle.machine.specs.Reach.{bar_of, is_foreign}
use Rattle.machine.specs.Memory.{size, place_of}
use Rattle.machine.specs.View.{bytes_of_cells, overwritten}
use Rattle.machine.specs.Rows.{nothing, a_return_cell, a_place, a_divisor, a_routine, Lack-discrete, row_of}
use Rattle.machine.specs.Step.{Stepped, refused, done, cost_of, carried}
use Rattle.machine.proofs.Laws.Prices.{by_code}
use Rattle.machine.specs.declared.Machine.{Machine}
use Rattle.machine.specs.declared.Reach.{Reach}
use Rattle.machine.specs.declared.Width.{Width}
use Rattle.machine.specs.declared.Place.{Place}
use Rattle.machine.specs.declared.Place.TheVariants.{Memory, View, Nowhere}
use Rattle.reach.specs.Spots.{width_of, spot_of}
use Rattle.run_words.specs.Accesses.{reach_of}
use Rattle.run_words.specs.Answers.{step_by}
use Rattle.run_words.specs.Machines.{in_reach, links_of}
use Rattle.run_words.specs.Promises.{CarriesOut, Spells, Unaltered}
use Rattle.run_words.specs.Registers.{machine_in, moved_to, halted_by}
use Rattle.run_words.specs.Losses.{OneOf, IsStore}
use Rattle.run_words.specs.Levels.{frames_in, levels_in, note_in, seen, Hold, HoldSeen}
use Rattle.run_words.specs.Notes.{Aside, Note, aside_of}
use Rattle.run_words.specs.Verdicts.{pushable, readable, callable, catchable, throwable, exitable, returnable, s_after_pop, e_after_drop_of, e_after_pop}
use Rattle.run_words.specs.declared.Registers.{Registers}
use Rattle.run_words.specs.declared.Stack.{Stack}
use Rattle.run_words.specs.Laws.Answered.{Acts, last-check, one-check, two-checks, three-checks, four-checks}
use Rattle.run_words.specs.Laws.Drops.{positive, drop-same, pop-s, pop-e}
use Rattle.run_words.specs.Laws.Rounds.{Round, Found, ends}

fetch-spelled : (code : ℕ) → OneOf 0x2D 0x2F 0x31 code → Spells code (FETCH (width_of code)) 1
unfolding entry_at table
fetch-spelled code (inl e) = record { known = rw e; names = rw e; asks = rw e }
fetch-spelled code (inr (inl e)) = record { known = rw e; names = rw e; asks = rw e }
fetch-spelled code (inr (inr e)) = record { known = rw e; names = rw e; asks = rw e }

store-spelled : (code : ℕ) → IsStore code → Spells code (STORE (width_of code)) 2
unfolding entry_at table
store-spelled code (inl e) = record { known = rw e; names = rw e; asks = rw e }
store-spelled code (inr (inl e)) = record { known = rw e; names = rw e; asks = rw e }
store-spelled code (inr (inr e)) = record { known = rw e; names = rw e; asks = rw e }

-- the whole of a cell is reached by the long one alone
pub long-fetch : (code : ℕ) → OneOf 0x2D 0x2F 0x31 code → size (width_of code) ≡ 4 → code ≡ 0x2D
long-fetch code (inl e) h = e
long-fetch code (inr (inl e)) h = let short : size (width_of code) ≡ 2 = ap (λ (c : ℕ). size (width_of c)) e in absurd (omega arith)
long-fetch code (inr (inr e)) h = let short : size (width_of code) ≡ 1 = ap (λ (c : ℕ). size (width_of c)) e in absurd (omega arith)

throw-spelled : (code : ℕ) → code ≡ 0x0D → Spells code (LINK THROW) 1
unfolding entry_at table
throw-spelled code e = record { known = rw e; names = rw e; asks = rw e }

-- none of them is another code
none_is : {a b d code other : ℕ} → OneOf a b d code → (a ≡ other → ⊥) → (b ≡ other → ⊥) → (d ≡ other → ⊥) → code ≡ other → ⊥
none_is (inl e) x y z h = x (sym e ∙ h)
none_is (inr (inl e)) x y z h = y (sym e ∙ h)
none_is (inr (inr e)) x y z h = z (sym e ∙ h)

-- R@ and R> lack a return cell where there is none, and nothing else
returnless : (b : Bool) → decided (Lack-discrete (pick b a_return_cell nothing) a_return_cell) ≡ b
returnless true = refl
returnless false = refl

placed : (b : Bool) → decided (Lack-discrete (pick b a_return_cell nothing) a_place) ≡ false
placed true = refl
placed false = refl

routined : (b : Bool) → decided (Lack-discrete (pick b a_return_cell nothing) a_routine) ≡ false
routined true = refl
routined false = refl

divided : (b : Bool) → decided (Lack-discrete (pick b a_return_cell nothing) a_divisor) ≡ false
divided true = refl
divided false = refl

-- levels and a note that stand in rows
pub held-there : {mem cells returns : List ℕ} {rows : List (List ℕ)} {copies : List ℕ} {frames : List Frame} {levels : List Level} {note : Note} {p r s e counter flag cost : ℕ} →
    Hold rows copies frames levels note →
    done mem (record { cells = cells; p = p; links = links_of returns r frames s levels e; counter = counter; flag = flag; thrown = note.aside.thrown; lines = note.aside.lines }) cost ≡
    done mem (record { cells = cells; p = p; links = links_of returns r (frames_in rows copies) s (levels_in rows copies) e; counter = counter; flag = flag; thrown = (note_in rows).aside.thrown; lines = (note_in rows).aside.lines }) cost
held-there {mem} {cells} {returns} {rows} {copies} {frames} {levels} {note} {p} {r} {s} {e} {counter} {flag} {cost} held =
    ap (λ (f : List Frame). left f levels note) (sym held.frames-are) ∙ ap (λ (l : List Level). left (frames_in rows copies) l note) (sym held.levels-are) ∙
    ap (left (frames_in rows copies) (levels_in rows copies)) (sym held.note-is)
  where
    left : List Frame → List Level → Note → Stepped
    left f l n = done mem (record { cells = cells; p = p; links = links_of returns r f s l e; counter = counter; flag = flag; thrown = n.aside.thrown; lines = n.aside.lines }) cost

module _ {reach : Reach} {in_turns : Bool} {mem₀ : List ℕ} {m₀ : Machine} {budget heeds₀ : ℕ} {mem cells returns : List ℕ} {frames : List Frame} {levels : List Level} {aside : Aside} {g : Registers}
    {code operand next : ℕ} (found : Found reach in_turns mem₀ m₀ budget heeds₀ mem cells returns frames levels aside g code operand next)
  where
    abbrev here : Machine
    here = machine_in cells returns frames levels aside g

    abbrev Does : {A : Type 0} → Answer A → (A → Stepped) → Type 0
    Does said after = Acts (in_reach reach code operand next) mem here said after

    -- an instruction that leaves no cells behind has room
    room : (keeps : ℕ) → keeps ≤ g.p → ltb cells_depth (keeps + 0) ≡ false
    room keeps h =
        let top = found.round.p-within in
        le-ltb cells_depth (keeps + 0) (omega arith)

    -- >R
    pub push-acts : code ≡ 0x07 →
        Does (pushable g.p g.r)
        (λ u. done mem (machine_in cells (set returns g.r (get_or cells (g.p - 1) 0)) frames levels aside (moved_to g (g.p - 1) (g.r + 1) g.s g.e next g.flag)) (cycles_of code))
    unfolding carried row_of entry_at table pushable bar_of
    push-acts key =
        let depth : g.p - 1 + 0 ≡ g.p - 1 = omega arith in
        record { on = λ h. omega (arith, key); is = rw (key, room (g.p - 1) (omega arith), depth, add-one g.r) (two-checks (ltb g.p 1) (leb returns_depth g.r) 5 9 _) }

    -- R@ and R>: the test of room is the definition's
    room-test : ltb cells_depth (g.p - 0 + 1) ≡ leb cells_depth g.p
    room-test =
        let more : g.p - 0 + 1 ≡ suc g.p = omega arith in
        ap (ltb cells_depth) more ∙ leb-suc-suc cells_depth g.p

    pub copy-acts : code ≡ 0x08 →
        Does (readable g.p g.r)
        (λ u. done mem (machine_in (set cells g.p (get_or returns (g.r - 1) 0)) returns frames levels aside (moved_to g (g.p + 1) g.r g.s g.e next g.flag)) (cycles_of code))
    unfolding carried row_of entry_at table readable bar_of
    copy-acts key =
        let none : 0 ≤ g.p = omega arith in
        let same : g.p - 0 ≡ g.p = omega arith in
        record { on = λ h. omega (arith, key); is = rw (key, le-ltb g.p 0 none, returnless (eqb g.r 0), placed (eqb g.r 0), divided (eqb g.r 0), routined (eqb g.r 0), room-test, same) (two-checks (eqb g.r 0) (leb cells_depth g.p) 6 8 _) }

    pub pop-acts : code ≡ 0x09 → {lower left : ℕ} → lower ≡ s_after_pop (g.r - 1) g.s (copy_of_r frames g.s) →
        left ≡ e_after_pop lower g.s g.e (copy_of_s levels g.e) →
        Does (readable g.p g.r)
        (λ u. done mem (machine_in (set cells g.p (get_or returns (g.r - 1) 0)) returns frames levels aside (moved_to g (g.p + 1) (g.r - 1) lower left next g.flag)) (cycles_of code))
    unfolding carried row_of entry_at table readable bar_of
    pop-acts key es ee =
        let none : 0 ≤ g.p = omega arith in
        let same : g.p - 0 ≡ g.p = omega arith in
        record {
          on = λ h. omega (arith, key);
          is =
              rw (key, le-ltb g.p 0 none, returnless (eqb g.r 0), placed (eqb g.r 0), divided (eqb g.r 0), routined (eqb g.r 0), room-test, same, ee, es, pop-e g.r g.s frames g.e levels, pop-s g.r g.s frames)
              (two-checks (eqb g.r 0) (leb cells_depth g.p) 6 8 _);
        }

    -- CATCH
    pub catch-acts : code ≡ 0x0B → {address : ℕ} → address ≡ (next + 1) % 2 ^ 32 →
        Does (catchable g.p g.r g.s g.e)
        (λ u.
        done mem
        (machine_in cells (set returns g.r next) (set frames (g.s + 1) (called_frame g.r next))
        (set levels (g.e + 1) (record { cells = (get_or levels g.e no_level).cells; s = g.s; p = g.p - 1; address = address }))
        aside (moved_to g (g.p - 1) (g.r + 1) (g.s + 1) (g.e + 1) (get_or cells (g.p - 1) 0) g.flag))
        (cycles_of code))
    unfolding carried row_of entry_at table catchable bar_of
    catch-acts key ea =
        let depth : g.p - 1 + 0 ≡ g.p - 1 = omega arith in
        record {
          on = λ h. omega (arith, key);
          is =
              rw (key, ea, room (g.p - 1) (omega arith), depth, add-one g.r, add-one g.s, add-one g.e)
              (four-checks (ltb g.p 1) (leb returns_depth g.r) (leb subroutines_depth g.s) (leb exceptions_depth g.e) 5 9 10 11 _);
        }

    -- RESETSP
    pub reset-acts : code ≡ 0x0C →
        Does {A = Unit {0}} (gives tt) (λ u. done mem (machine_in cells returns frames levels aside (moved_to g 0 0 0 0 next g.flag)) (cycles_of code))
    unfolding carried row_of entry_at table bar_of
    reset-acts key =
        let none : 0 ≤ g.p = omega arith in
        record { on = λ h. omega (arith, key); is = rw (key, le-ltb g.p 0 none) }

    -- THROW of 0, and of a code to the top exception level
    abbrev pub thrown_by : Option ℕ → Stepped
    thrown_by None = done mem (machine_in cells returns frames levels aside (moved_to g (g.p - 1) g.r g.s g.e next g.flag)) 1
    thrown_by (Some n) =
        let level = get_or levels g.e no_level in
        done mem
        (machine_in (set cells level.p n) returns frames levels (aside_of (record { address = g.counter; code = n }) aside.lines)
        (moved_to g (level.p + 1) (get_or frames (level.s + 1) no_frame).r level.s (g.e - 1) level.address g.flag))
        (cycles_of code)

    pub throw-acts : code ≡ 0x0D → Does (throwable cells g.p g.e) thrown_by
    unfolding carried row_of throwable bar_of
    throw-acts key = record { on = λ h. omega (arith, key); is = go (ltb g.p 1) (eqb (get_or cells (g.p - 1) 0) 0) (eqb g.e 0) refl refl refl }
      where
        e : Spells code (LINK THROW) 1
        e = throw-spelled code key

        go : (a b z : Bool) → ltb g.p 1 ≡ a → eqb (get_or cells (g.p - 1) 0) 0 ≡ b → eqb g.e 0 ≡ z →
            carried (in_reach reach code operand next) mem here ≡ step_by (throwable cells g.p g.e) thrown_by
        go true true z few zero none = rw (e.names, zero, e.known, e.asks, few)
        go true false z few zero none = rw (e.names, zero, e.known, e.asks, few)
        go false true z few zero none =
            let depth : g.p - 1 + 0 ≡ g.p - 1 = omega arith in
            rw (e.names, zero, e.known, e.asks, few, room (g.p - 1) (omega arith), depth, eq-eqb code 0x0D key)
        go false false true few zero none = rw (e.names, zero, e.known, e.asks, few, none)
        go false false false few zero none =
            let held = (found.round.catcher (positive g.e (eqb-false g.e 0 none))).0 in
            let top : copy_of_p levels g.e + 1 ≤ cells_depth = omega arith in
            rw (e.names, zero, e.known, e.asks, few, none, le-ltb cells_depth (copy_of_p levels g.e + 1) top, eq-eqb code 0x0D key, add-one (copy_of_s levels g.e))

    -- what it read of the level is where it goes
    pub thrown-there : (n : ℕ) {p s r address : ℕ} → p ≡ copy_of_p levels g.e → s ≡ copy_of_s levels g.e → r ≡ copy_of_r frames (s + 1) → address ≡ (get_or levels g.e no_level).address →
        thrown_by (Some n) ≡ done mem (machine_in (set cells p n) returns frames levels (aside_of (record { address = g.counter; code = n }) aside.lines) (moved_to g (p + 1) r s (g.e - 1) address g.flag)) (cycles_of code)
    thrown-there n ep es er ea = rw (ea, er, es, ep)

    -- EXIT
    pub exit-acts : code ≡ 0x3D → {left r address : ℕ} → left ≡ e_after_drop_of (g.s - 1) g.e (copy_of_s levels g.e) → r ≡ copy_of_r frames g.s →
        address ≡ (get_or frames g.s no_frame).address →
        Does (exitable g.s) (λ u. done mem (machine_in cells returns frames levels aside (moved_to g g.p r (g.s - 1) left address g.flag)) (cycles_of code))
    unfolding carried row_of entry_at table exitable bar_of
    exit-acts key ee er ea =
        let none : 0 ≤ g.p = omega arith in
        let depth : g.p - 0 + 0 ≡ g.p = omega arith in
        let same : g.p - 0 ≤ g.p = omega arith in
        record { on = λ h. omega (arith, key); is = rw (key, le-ltb g.p 0 none, room (g.p - 0) same, depth, ee, er, ea, drop-same (g.s - 1) g.e levels) (one-check (eqb g.s 0) 0 _) }

    -- RTI
    pub rti-acts : code ≡ 0x3C → {left r address : ℕ} → left ≡ e_after_drop_of (g.s - 1) g.e (copy_of_s levels g.e) → r ≡ copy_of_r frames g.s →
        address ≡ (get_or frames g.s no_frame).address →
        Does (returnable aside.lines.block g.s)
        (λ u. done mem (machine_in cells returns frames levels (aside_of aside.thrown (released aside.lines)) (moved_to g g.p r (g.s - 1) left address g.flag)) (cycles_of code))
    unfolding carried row_of entry_at table returnable bar_of
    rti-acts key {left} {r} {address} ee er ea = record { on = λ h. omega (arith, key); is = go (eqb aside.lines.block 0) (eqb g.s 0) refl refl }
      where
        none : 0 ≤ g.p
        none = omega arith

        depth : g.p - 0 + 0 ≡ g.p
        depth = omega arith

        same : g.p - 0 ≤ g.p
        same = omega arith

        go : (a b : Bool) → eqb aside.lines.block 0 ≡ a → eqb g.s 0 ≡ b →
            carried (in_reach reach code operand next) mem here ≡
            step_by (returnable aside.lines.block g.s)
            (λ u. done mem (machine_in cells returns frames levels (aside_of aside.thrown (released aside.lines)) (moved_to g g.p r (g.s - 1) left address g.flag)) (cycles_of code))
        go true b free out = rw (key, free)
        go false true free out = rw (key, free, out)
        go false false free out = rw (key, free, out, le-ltb g.p 0 none, room (g.p - 0) same, depth, ee, er, ea, drop-same (g.s - 1) g.e levels)

    -- JSL and JSR
    abbrev pub called_to : ℕ → ℕ → Stepped
    called_to p to =
        done mem (machine_in cells (set returns g.r next) (set frames (g.s + 1) (called_frame g.r next)) levels aside (moved_to g p (g.r + 1) (g.s + 1) g.e to g.flag)) (cycles_of code)

    pub call-acts : code ≡ 0x38 → Does (callable 0 g.p g.r g.s) (λ u. called_to g.p operand)
    unfolding carried row_of entry_at table callable bar_of
    call-acts key =
        let none : 0 ≤ g.p = omega arith in
        let depth : g.p - 0 + 0 ≡ g.p = omega arith in
        record {
          on = λ h. omega (arith, key);
          is =
              rw (key, le-ltb g.p 0 none, room (g.p - 0) (omega arith), depth, add-one g.r, add-one g.s)
              (two-checks (leb returns_depth g.r) (leb subroutines_depth g.s) 9 10 _);
        }

    pub call-top-acts : code ≡ 0x39 → Does (callable 1 g.p g.r g.s) (λ u. called_to (g.p - 1) (get_or cells (g.p - 1) 0))
    unfolding carried row_of entry_at table callable bar_of
    call-top-acts key =
        let depth : g.p - 1 + 0 ≡ g.p - 1 = omega arith in
        record {
          on = λ h. omega (arith, key);
          is =
              rw (key, room (g.p - 1) (omega arith), depth, add-one g.r, add-one g.s)
              (three-checks (ltb g.p 1) (leb returns_depth g.r) (leb subroutines_depth g.s) 5 9 10 _);
        }

    -- only THROW's cost is not the table's
    cost : (code ≡ 0x0D → ⊥) → cost_of (in_reach reach code operand next) here ≡ cycles_of code
    cost other = by_code (in_reach reach code operand next) here (λ h z. other h)

    -- FETCH: the top cell becomes what is found
    abbrev pub fetched_as : ℕ → Stepped
    fetched_as value =
        done mem (machine_in (set cells (g.p - 1) value) returns frames levels aside (moved_to g g.p g.r g.s g.e next g.flag)) (cycles_of code)

    abbrev pub fetched_by : Width → Place → Stepped
    fetched_by w (Memory a) = fetched_as (number_at (size w) mem a)
    fetched_by w (View a) = fetched_as (number_at (size w) (bytes_of_cells (seen frames levels g.s g.e)) a)
    fetched_by w Nowhere = refused 12

    -- the whole of a cell is four bytes
    pub fetched-whole : (w : Width) (a : ℕ) → size w ≡ 4 → {value : ℕ} → value ≡ number_at 4 (bytes_of_cells (seen frames levels g.s g.e)) a →
        fetched_by w (View a) ≡ fetched_as value
    fetched-whole w a long is = ap (λ (n : ℕ). fetched_as (number_at n (bytes_of_cells (seen frames levels g.s g.e)) a)) long ∙ ap fetched_as (sym is)

    -- where there is a cell, one put in its place leaves the depth
    depth : ltb g.p 1 ≡ false → g.p - 1 + 1 ≡ g.p
    depth few = omega (arith, ltb-false g.p 1 few)

    full : ltb g.p 1 ≡ false → ltb cells_depth (g.p - 1 + 1) ≡ false
    full few =
        let top = found.round.p-within in
        le-ltb cells_depth (g.p - 1 + 1) (omega (arith, depth few))

    pub fetch-acts : OneOf 0x2D 0x2F 0x31 code → Does (reach_of reach 1 (width_of code) cells g.p) (fetched_by (width_of code))
    unfolding carried row_of reach_of spot_of bar_of
    fetch-acts key = record { on = none_is key (λ h. omega arith) (λ h. omega arith) (λ h. omega arith); is = go (ltb g.p 1) refl (place_of (width_of code) (get_or cells (g.p - 1) 0)) refl }
      where
        e : Spells code (FETCH (width_of code)) 1
        e = fetch-spelled code key

        paid : cost_of (in_reach reach code operand next) here ≡ cycles_of code
        paid = cost (none_is key (λ h. omega arith) (λ h. omega arith) (λ h. omega arith))

        go : (a : Bool) → ltb g.p 1 ≡ a → (place : Place) → place_of (width_of code) (get_or cells (g.p - 1) 0) ≡ place →
            carried (in_reach reach code operand next) mem here ≡ step_by (reach_of reach 1 (width_of code) cells g.p) (fetched_by (width_of code))
        go true few (Memory a) at = rw (e.names, at, e.known, e.asks, few)
        go true few (View a) at = rw (e.names, at, e.known, e.asks, few)
        go true few Nowhere at = rw (e.names, at, e.known, e.asks, few)
        go false few (Memory a) at =
            rw (e.names, at, e.known, e.asks, few, full few, depth few, paid)
            (last-check (is_foreign (bar_of reach a (size (width_of code)))) 17 (Memory a) (fetched_by (width_of code)))
        go false few (View a) at = rw (e.names, at, e.known, e.asks, few, full few, depth few, paid)
        go false few Nowhere at = rw (e.names, at, e.known, e.asks, few, room (g.p - 1) (omega arith))

    -- STORE: the value under the address goes to memory or to the cells in view
    abbrev pub lowered : Registers
    lowered = moved_to g (g.p - 2) g.r g.s g.e next g.flag

    abbrev pub stored_by : Width → Place → Stepped
    stored_by w (Memory a) = done (sets mem a (bytes_of (size w) (get_or cells (g.p - 2) 0))) (machine_in cells returns frames levels aside lowered) (cycles_of code)
    stored_by w (View a) =
        let after = overwritten (seen frames levels g.s g.e) a (bytes_of (size w) (get_or cells (g.p - 2) 0)) in
        done mem
        (machine_in cells returns (set frames g.s (with_locals (take locals_count after) (get_or frames g.s no_frame)))
        (set levels g.e (with_cells (drop locals_count after) (get_or levels g.e no_level))) aside lowered)
        (cycles_of code)
    stored_by w Nowhere = refused 12

    pub written-there : (w : Width) (a : ℕ) {mem' : List ℕ} → mem' ≡ sets mem a (bytes_of (size w) (get_or cells (g.p - 2) 0)) →
        stored_by w (Memory a) ≡ done mem' (machine_in cells returns frames levels aside lowered) (cycles_of code)
    written-there w a e = ap (λ (l : List ℕ). done l (machine_in cells returns frames levels aside lowered) (cycles_of code)) (sym e)

    pub kept_whole : (w : Width) (a value : ℕ) → size w ≡ 4 → {rows : List (List ℕ)} {copies : List ℕ} {note : Note} →
        HoldSeen rows copies frames levels note g.s g.e (overwritten (seen frames levels g.s g.e) a (bytes_of 4 value)) →
        HoldSeen rows copies frames levels note g.s g.e (overwritten (seen frames levels g.s g.e) a (bytes_of (size w) value))
    kept_whole w a value long {rows} {copies} {note} held =
        subst⁻¹ (λ (n : ℕ). HoldSeen rows copies frames levels note g.s g.e (overwritten (seen frames levels g.s g.e) a (bytes_of n value))) long held

    pub store-acts : IsStore code → Does (reach_of reach 2 (width_of code) cells g.p) (stored_by (width_of code))
    unfolding carried row_of reach_of spot_of bar_of
    store-acts key = record { on = none_is key (λ h. omega arith) (λ h. omega arith) (λ h. omega arith); is = go (ltb g.p 2) refl (place_of (width_of code) (get_or cells (g.p - 1) 0)) refl }
      where
        e : Spells code (STORE (width_of code)) 2
        e = store-spelled code key

        paid : cost_of (in_reach reach code operand next) here ≡ cycles_of code
        paid = cost (none_is key (λ h. omega arith) (λ h. omega arith) (λ h. omega arith))

        full-two : ltb cells_depth (g.p - 2 + 0) ≡ false
        full-two = room (g.p - 2) (omega arith)

        depth-two : g.p - 2 + 0 ≡ g.p - 2
        depth-two = omega arith

        go : (a : Bool) → ltb g.p 2 ≡ a → (place : Place) → place_of (width_of code) (get_or cells (g.p - 1) 0) ≡ place →
            carried (in_reach reach code operand next) mem here ≡ step_by (reach_of reach 2 (width_of code) cells g.p) (stored_by (width_of code))
        go true few (Memory a) at = rw (e.names, at, e.known, e.asks, few)
        go true few (View a) at = rw (e.names, at, e.known, e.asks, few)
        go true few Nowhere at = rw (e.names, at, e.known, e.asks, few)
        go false few (Memory a) at =
            rw (e.names, at, e.known, e.asks, few, full-two, depth-two, paid)
            (last-check (is_foreign (bar_of reach a (size (width_of code)))) 17 (Memory a) (stored_by (width_of code)))
        go false few (View a) at = rw (e.names, at, e.known, e.asks, few, full-two, depth-two, paid)
        go false few Nowhere at = rw (e.names, at, e.known, e.asks, few, full-two)

    -- every other instruction, by what it promises
    abbrev went_to : List ℕ → ℕ → Stack → Stepped
    went_to cells' price at =
        done mem (machine_in cells' returns frames levels aside (moved_to g at.p g.r g.s g.e at.counter at.flag)) price

    pub cells-acts : (code ≡ 0x0D → ⊥) → (code ≡ code_pause → ⊥) → {cells' : List ℕ} {said : Answer Stack} → CarriesOut code operand next cells g.p g.flag cells' said →
        Does said (went_to cells' (cycles_of code))
    cells-acts other on {cells'} {said} carries =
        record { on = on; is = (carries reach mem here).0 ∙ ap (λ (price : ℕ). step_by said (went_to cells' price)) (cost other) }

    -- a refusal leaves the cells as they were
    pub cells-end : (code ≡ 0x0D → ⊥) → (code ≡ code_pause → ⊥) → {cells' : List ℕ} {said : Answer Stack} → CarriesOut code operand next cells g.p g.flag cells' said →
        {number : ℕ} → said ≡ refuses number → {g' : Registers} → g' ≡ halted_by said g → Round reach in_turns mem₀ m₀ budget heeds₀ mem cells' returns frames levels aside g'
    cells-end other on {cells'} {said} carries e {g'} eg =
        let same : cells' ≡ cells = subst (Unaltered cells cells') e (carries reach mem here).1 in
        subst⁻¹ (λ (l : List ℕ). Round reach in_turns mem₀ m₀ budget heeds₀ mem l returns frames levels aside g') same (ends found (cells-acts other on carries) e refl eg)

    -- PAUSE
    pub pause-is : code ≡ code_pause →
        carried (in_reach reach code operand next) mem here ≡
        done mem (machine_in cells returns frames levels aside (moved_to g g.p g.r g.s g.e next g.flag)) (cycles_of code)
    unfolding carried row_of entry_at table bar_of
    pause-is key =
        let none : 0 ≤ g.p = omega arith in
        let depth : g.p - 0 + 0 ≡ g.p = omega arith in
        rw (key, le-ltb g.p 0 none, room (g.p - 0) (omega arith), depth)
