-- The loop of turns over arrays of four.
use Rattle.std.specs.Prelude.{◌≡◌, refl, Bool, true, false, List, [], ◌⊎◌, ◌≢◌, ℕ, ◌+◌, ◌-◌, ◌*◌, ◌%◌, ◌≤◌, ◌<◌, T, eqb, length, get_or, set, replicate}
use Rattle.std.proofs.Math.Path.{ap, subst⁻¹}
use Rattle.std.proofs.Common.{sym, ◌∙◌, subst, inl, inr, arith, ne_eqb, length-set, set-set, get_or-set_same}
use Rattle.std.proofs.Math.Logic.{dite}
use Rattle.std.proofs.Math.Decide.{ℕ_discrete}
use Rattle.std.proofs.lemmas.List.{set-get_or}
use Rattle.plain.specs.Choice.{pick}
use Rattle.machine.specs.Limits.{most_budget, tasks_count}
use Rattle.machine.specs.Lines.{lowest_due, let_in}
use Rattle.machine.specs.Reach.{task}
use Rattle.machine.specs.Run.{After, manner_of, after_of, run_from}
use Rattle.machine.specs.State.{Whole}
use Rattle.machine.specs.Sum.{sum_of}
use Rattle.machine.specs.Tasks.{Task, paired, no_machine, ready, Whose, nobodys, of_task, in_order, following, Between, turn_length, as_task, start_of, TurnsFrom, tasks_after_of, can_keep, AllWhole, tasks_acceptable}
use Rattle.machine.proofs.Laws.Accepted.{accept}
use Rattle.machine.proofs.Laws.Costs.{run-bounded}
use Rattle.machine.proofs.Laws.Counted.{entered-before}
use Rattle.machine.proofs.Laws.Kept.{Formed, Good, let-in-good}
use Rattle.machine.proofs.Laws.Pairs.{paired_at}
use Rattle.machine.proofs.Laws.Steps.{run-spent}
use Rattle.machine.proofs.Laws.Turns.{turn-keeps, turn-good, turn-moves, to_go}
use Rattle.machine.specs.declared.Machine.{Machine}
use Rattle.machine.specs.declared.Ran.{Ran}
use Rattle.machine.specs.declared.RanTasks.{RanTasks}
use Rattle.machine.specs.declared.Reach.{Reach}
use Rattle.order.specs.Order.{first_kept}
use Rattle.run_words.specs.Calm.{lines_enter, manner_in, run_in, Quiet, Calm, quiet}
use Rattle.run_words.specs.Clocks.{turned_to, idled_to, passed_to, rest_or, between, Closes}
use Rattle.run_words.specs.Entries.{LetsIn}
use Rattle.run_words.specs.Machines.{ran_of}
use Rattle.run_words.specs.Promises.{Bounded}
use Rattle.run_words.specs.Rounds.{Starts, Ends}
use Rattle.run_words.specs.Levels.{note_in, pointers_in, no_pointers, in_rows, task_in, machines_in, losses_in, Laid, Seats}
use Rattle.run_words.specs.declared.Clock.{Clock}
use Rattle.run_words.specs.declared.Pointers.{Pointers}
use Rattle.run_words.specs.declared.Registers.{Registers}
use Rattle.run_words.specs.Laws.Closings.{still-ready}
use Rattle.run_words.specs.Laws.Lining.{Lining, lines-of-task, lined-first, lining-set, whole-most, rest-most}
use Rattle.run_words.specs.Laws.Losses.{losses-kept}
use Rattle.run_words.specs.Laws.Serving.{Attended}
use Rattle.run_words.specs.Laws.Tasked.{machines-long, machine-there, rows-there, seats-set, machine-set}
use Rattle.run_words.specs.Laws.Turning.{Turning, most_of, turn_for, begins, idles, idles-less, one-of-four, good-here, is-ready, others-whole, length_most, length_some, steps-left, cycles-within, turned_on, turned-less, stays_on}

-- between two turns: the machines in their arrays, whose turn it is, and what is left of one that goes on
pub record Seated (quantum budget lined : ℕ) (start : Between) (mem kept rests : List ℕ) (cells returns : List (List ℕ)) (rows : List (List (List ℕ))) (copies : List (List ℕ)) (saved : List Pointers)
    (c : Clock) (whose : Whose) : Type 0 where
  pub turning : Turning quantum (get_or rests 0 0) budget start mem (machines_in cells returns rows copies saved) kept c
  pub seats : Seats cells returns rows copies saved
  pub asked : whose ≡ first_kept kept (in_order tasks_count (c.from % tasks_count))
  pub lining : Lining lined rows
  pub rests-long : length rests ≡ tasks_count
  pub unlined-whole : (lined ≡ 0 → ⊥) → get_or rests 0 0 ≡ 0

-- other arrays beside the parameter cells of one machine
module _ {cells returns : List (List ℕ)} {rows : List (List (List ℕ))} {copies : List (List ℕ)} {saved : List Pointers} (seats : Seats cells returns rows copies saved) {t : ℕ} (h : t < tasks_count)
    (ret : List ℕ) (row : List (List ℕ)) (copy : List ℕ) (to : Pointers)
  where
    abbrev m₁ : Machine
    m₁ = in_rows (get_or cells t []) ret row copy to

    moved-machines : machines_in cells (set returns t ret) (set rows t row) (set copies t copy) (set saved t to) ≡ set (machines_in cells returns rows copies saved) t m₁
    moved-machines =
        subst (λ (l : List (List ℕ)). machines_in l (set returns t ret) (set rows t row) (set copies t copy) (set saved t to) ≡ set (machines_in cells returns rows copies saved) t m₁)
        (set-get_or cells t []) (machine-set seats t h (get_or cells t []) ret row copy to)

    moved-seats : Laid row copy → Seats cells (set returns t ret) (set rows t row) (set copies t copy) (set saved t to)
    moved-seats laid =
        subst (λ (l : List (List ℕ)). Seats l (set returns t ret) (set rows t row) (set copies t copy) (set saved t to)) (set-get_or cells t [])
        (seats-set seats t h (get_or cells t []) ret row copy to laid)

    moved-there : task_in cells (set returns t ret) (set rows t row) (set copies t copy) (set saved t to) t ≡ m₁
    moved-there =
        sym (machine-there cells (set returns t ret) (set rows t row) (set copies t copy) (set saved t to) t h) ∙
        (ap (λ (l : List Machine). get_or l t no_machine) moved-machines ∙
        get_or-set_same (machines_in cells returns rows copies saved) t m₁ no_machine (omega (arith, machines-long cells returns rows copies saved)))

-- one row anew that holds the same machine
module _ {cells returns : List (List ℕ)} {rows : List (List (List ℕ))} {copies : List (List ℕ)} {saved : List Pointers} (seats : Seats cells returns rows copies saved)
    {row : List (List ℕ)} (noted : Attended (get_or cells 0 []) (get_or returns 0 []) (get_or rows 0 []) (get_or copies 0 []) (get_or saved 0 no_pointers) row)
  where
    zeroth : 0 < tasks_count
    zeroth = omega arith

    unmoved : (P : List (List ℕ) → List (List (List ℕ)) → List (List ℕ) → List Pointers → Type 0) →
        P (set returns 0 (get_or returns 0 [])) (set rows 0 row) (set copies 0 (get_or copies 0 [])) (set saved 0 (get_or saved 0 no_pointers)) → P returns (set rows 0 row) copies saved
    unmoved P p =
        subst (λ (l : List (List ℕ)). P l (set rows 0 row) copies saved) (set-get_or returns 0 [])
        (subst (λ (l : List (List ℕ)). P (set returns 0 (get_or returns 0 [])) (set rows 0 row) l saved) (set-get_or copies 0 [])
        (subst (λ (l : List Pointers). P (set returns 0 (get_or returns 0 [])) (set rows 0 row) (set copies 0 (get_or copies 0 [])) l) (set-get_or saved 0 no_pointers) p))

    pub noted-seats : Seats cells returns (set rows 0 row) copies saved
    noted-seats =
        unmoved (λ r w k s. Seats cells r w k s)
        (moved-seats seats zeroth (get_or returns 0 []) row (get_or copies 0 []) (get_or saved 0 no_pointers) noted.still-laid)

    pub noted-machines : machines_in cells returns (set rows 0 row) copies saved ≡ machines_in cells returns rows copies saved
    noted-machines =
        unmoved (λ r w k s. machines_in cells r w k s ≡ machines_in cells returns rows copies saved)
        (moved-machines seats zeroth (get_or returns 0 []) row (get_or copies 0 []) (get_or saved 0 no_pointers) ∙
        (ap (set (machines_in cells returns rows copies saved) 0) (noted.same ∙ sym (machine-there cells returns rows copies saved 0 zeroth)) ∙
        set-get_or (machines_in cells returns rows copies saved) 0 no_machine))

    pub noted-there : get_or (set rows 0 row) 0 [] ≡ row
    noted-there = rows-there seats 0 zeroth [] [] row [] no_pointers

    pub noted-losses : sum_of (losses_in (set rows 0 row)) ≡ sum_of (losses_in rows)
    noted-losses = losses-kept rows 0 row zeroth noted-there noted.lost-same

pub seated-first : (mem : List ℕ) (machines : List Machine) (kept : List ℕ) (quantum budget : ℕ) → length machines ≡ tasks_count → length kept ≡ tasks_count →
    tasks_acceptable mem (paired machines kept) quantum budget ≡ true → AllWhole (paired machines kept) →
    {cells returns : List (List ℕ)} {rows : List (List (List ℕ))} {copies : List (List ℕ)} {saved : List Pointers} → Seats cells returns rows copies saved →
    machines_in cells returns rows copies saved ≡ machines →
    {row : List (List ℕ)} → Attended (get_or cells 0 []) (get_or returns 0 []) (get_or rows 0 []) (get_or copies 0 []) (get_or saved 0 no_pointers) row →
    {lined : ℕ} → Lining lined (set rows 0 row) →
    {c : Clock} → c.from ≡ 0 → c.left.0 ≡ budget → c.unspent.0 ≡ 0 → c.cycles.0 ≡ 0 → c.answer ≡ 1 →
    {whose : Whose} → whose ≡ first_kept kept (in_order tasks_count (c.from % tasks_count)) →
    Seated quantum budget lined (start_of mem (paired (machines_in cells returns (set rows 0 row) copies saved) kept) budget) mem kept (replicate tasks_count 0) cells returns (set rows 0 row) copies saved c whose
seated-first mem machines kept quantum budget fm fk ok whole seats same noted lining {c} from left unspent cycles answer asked =
    record {
      turning =
          subst⁻¹ (λ (ms : List Machine). Turning quantum 0 budget (start_of mem (paired ms kept) budget) mem ms kept c) (noted-machines seats noted ∙ same)
          (begins mem machines kept quantum budget fm fk ok whole from left unspent cycles answer);
      seats = noted-seats seats noted;
      asked = asked;
      lining = lining;
      rests-long = refl;
      unlined-whole = λ h. refl;
    }

-- what is handed back at the end, from the machines that were handed in
pub from-first-to-last : (quantum budget : ℕ) (mem kept mem' : List ℕ) {ms ms' : List Machine} → ms ≡ ms' → {r r' : RanTasks} → r ≡ r' →
    TurnsFrom quantum (start_of mem (paired ms kept) budget) (tasks_after_of mem' r') → TurnsFrom quantum (start_of mem (paired ms' kept) budget) (tasks_after_of mem' r)
from-first-to-last quantum budget mem kept mem' {ms} {ms'} same {r} handed d =
    subst (λ (l : List Machine). TurnsFrom quantum (start_of mem (paired l kept) budget) (tasks_after_of mem' r)) same
    (subst⁻¹ (λ (x : RanTasks). TurnsFrom quantum (start_of mem (paired ms kept) budget) (tasks_after_of mem' x)) handed d)

-- how a turn, or what is left of one, starts: so long, in these arrays
pub record Opened (quantum rest lined : ℕ) (mem : List ℕ) (machines : List Machine) (left t : ℕ) (cells : List (List ℕ)) (rows : List (List (List ℕ)))
    (turn : ℕ) (rests₁ : List ℕ) (returns₁ : List (List ℕ)) (rows₁ : List (List (List ℕ))) (copies₁ : List (List ℕ)) (saved₁ : List Pointers) : Type 0 where
  pub long : turn ≡ turn_length (most_of t rest quantum) left
  pub seats₁ : Seats cells returns₁ rows₁ copies₁ saved₁
  pub machines₁ : (m : Machine) → set (machines_in cells returns₁ rows₁ copies₁ saved₁) t m ≡ set machines t m
  pub whole₁ : Whole (task_in cells returns₁ rows₁ copies₁ saved₁ t)
  pub formed₁ : Formed (task_in cells returns₁ rows₁ copies₁ saved₁ t)
  pub run-same : run_from (task t) (as_task t) turn mem (task_in cells returns₁ rows₁ copies₁ saved₁ t) 0 0 ≡ run_from (task t) (as_task t) turn mem (get_or machines t no_machine) 0 0
  pub calm₁ : let m = task_in cells returns₁ rows₁ copies₁ saved₁ t in Calm (eqb t 0) m.lines m.links.r m.links.s
  pub unheeded₁ : (note_in (get_or rows₁ t [])).heeds ≡ 0 → Quiet (eqb t 0) (task_in cells returns₁ rows₁ copies₁ saved₁ t).lines
  pub lining₁ : Lining lined rows₁
  pub lost₁ : sum_of (losses_in rows₁) ≡ sum_of (losses_in rows)
  pub rests₁-long : length rests₁ ≡ tasks_count
  pub rest₁ : get_or rests₁ 0 0 ≡ 0
  pub marked₁ : ((note_in (get_or rows₁ t [])).heeds ≡ 0) ⊎ ((t ≡ 0) × (lined ≡ 0))

module _ {quantum budget lined : ℕ} {start : Between} {mem kept rests : List ℕ} {cells returns : List (List ℕ)} {rows : List (List (List ℕ))} {copies : List (List ℕ)} {saved : List Pointers} {c : Clock} {whose : Whose}
    (now : Seated quantum budget lined start mem kept rests cells returns rows copies saved c whose) (less : 0 < c.left.0)
  where
    abbrev machines : List Machine
    machines = machines_in cells returns rows copies saved

    abbrev rest : ℕ
    rest = get_or rests 0 0

    pub seated-idle : whose ≡ nobodys → {c' : Clock} → c' ≡ idled_to c → Seated quantum budget lined start mem kept rests cells returns rows copies saved c' whose
    seated-idle nobody ec =
        record {
          turning = idles now.turning less now.asked nobody ec;
          seats = now.seats;
          asked = subst⁻¹ (λ (x : Clock). whose ≡ first_kept kept (in_order tasks_count (x.from % tasks_count))) ec now.asked;
          lining = now.lining;
          rests-long = now.rests-long;
          unlined-whole = now.unlined-whole;
        }

    pub idle-less : {c' : Clock} → c' ≡ idled_to c → to_go (between budget mem machines kept c') < to_go (between budget mem machines kept c)
    idle-less ec = idles-less now.turning less ec

    module _ {t : ℕ} (is : whose ≡ of_task t) where
      pub seat-within : t < tasks_count
      seat-within = one-of-four now.turning less now.asked is

      pub seat-ready : get_or kept t 0 ≡ ready
      seat-ready = is-ready now.turning less now.asked is

      pub some_left : 1 ≤ c.left.0
      some_left = less

      there : get_or machines t no_machine ≡ task_in cells returns rows copies saved t
      there = machine-there cells returns rows copies saved t seat-within

      good : Whole (get_or machines t no_machine) × Formed (get_or machines t no_machine)
      good = let g = good-here now.turning less now.asked is in (g.whole, g.formed)

      abbrev OpenedTo : ℕ → List ℕ → List (List ℕ) → List (List (List ℕ)) → List (List ℕ) → List Pointers → Type 0
      OpenedTo turn rests₁ returns₁ rows₁ copies₁ saved₁ = Opened quantum rest lined mem machines c.left.0 t cells rows turn rests₁ returns₁ rows₁ copies₁ saved₁

      -- any other than the one that lines might enter
      pub opened-plain : {turn most : ℕ} → turn ≡ turn_length most c.left.0 → most ≡ quantum → (t ≡ lined → ⊥) → OpenedTo turn rests returns rows copies saved
      opened-plain {turn} et em other =
          record {
            long = et ∙ ap (λ (k : ℕ). turn_length k c.left.0) (em ∙ sym (whole-most t rest quantum lined now.unlined-whole other));
            seats₁ = now.seats;
            machines₁ = λ m. refl;
            whole₁ = subst Whole there good.0;
            formed₁ = subst Formed there good.1;
            run-same = ap (λ (m : Machine). run_from (task t) (as_task t) turn mem m 0 0) (sym there);
            calm₁ = quiet quiet-here;
            unheeded₁ = λ h. quiet-here;
            lining₁ = now.lining;
            lost₁ = refl;
            rests₁-long = now.rests-long;
            rest₁ =
                dite (ℕ_discrete lined 0) (λ (z : lined ≡ 0). others-whole now.turning less now.asked is (λ e. other (e ∙ sym z)))
                (λ (ne : lined ≢ 0). now.unlined-whole ne);
            marked₁ = inl (now.lining.unheeded t seat-within other);
          }
        where
          quiet-here : Quiet (eqb t 0) (task_in cells returns rows copies saved t).lines
          quiet-here =
              dite (ℕ_discrete t 0)
              (λ (e : t ≡ 0). inr (ap (λ (j : ℕ). lowest_due (note_in (get_or rows j [])).aside.lines) e ∙ now.lining.quiet (λ z. other (e ∙ sym z))))
              (λ (ne : t ≢ 0). inl (ne_eqb t 0 ne))

      -- task 0, where lines might enter
      module _ (tl : t ≡ lined) where
        tz : t ≡ 0
        tz = lined-first now.lining seat-within tl

        pub opened-lined : {turn most : ℕ} → turn ≡ turn_length (rest_or (get_or rests t 0) most) c.left.0 → most ≡ quantum →
            {ret : List ℕ} {row : List (List ℕ)} {copy : List ℕ} {to : Pointers} →
            LetsIn (get_or returns t []) (get_or rows t []) (get_or copies t []) (get_or saved t no_pointers) ret row copy to →
            OpenedTo turn (set rests t 0) (set returns t ret) (set rows t row) (set copies t copy) (set saved t to)
        opened-lined {turn} {most} et em {ret} {row} {copy} {to} lets =
            let m = get_or machines t no_machine in
            let first = moved-there now.seats seat-within ret row copy to in
            let entered : in_rows (get_or cells t []) ret row copy to ≡ let_in true m = lets.entered (get_or cells t []) ∙ ap (let_in true) (sym there) in
            let is-first : eqb t 0 ≡ true = ap (λ (x : ℕ). eqb x 0) tz in
            let lets-in : let_in true m ≡ let_in (as_task t).lined m = ap (λ (b : Bool). let_in b m) (sym is-first) in
            let g = let-in-good true mem m good.0 good.1 in
            let row-there = rows-there now.seats t seat-within [] [] row [] to in
            let size : turn ≡ turn_length (most_of t rest quantum) c.left.0 =
            et ∙ (ap (λ (k : ℕ). turn_length (rest_or (get_or rests t 0) k) c.left.0) em ∙
            (ap (λ (j : ℕ). turn_length (rest_or (get_or rests j 0) quantum) c.left.0) tz ∙ ap (λ (k : ℕ). turn_length k c.left.0) (sym (rest-most t rest quantum tz)))) in
            record {
              long = size;
              seats₁ = moved-seats now.seats seat-within ret row copy to lets.laid;
              machines₁ = λ x. ap (λ (l : List Machine). set l t x) (moved-machines now.seats seat-within ret row copy to) ∙ set-set machines t _ x;
              whole₁ = subst⁻¹ Whole (first ∙ entered) g.whole;
              formed₁ = subst⁻¹ Formed (first ∙ entered) g.formed;
              run-same =
                  ap (λ (x : Machine). run_from (task t) (as_task t) turn mem x 0 0) (first ∙ (entered ∙ lets-in)) ∙
                  entered-before (task t) (as_task t) turn mem m 0 0 (length_some now.turning less now.asked is size);
              calm₁ =
                  subst⁻¹ (λ (x : Machine). Calm (eqb t 0) x.lines x.links.r x.links.s) first
                  (subst⁻¹ (λ (b : Bool). Calm b (note_in row).aside.lines to.r to.s) is-first lets.calm);
              unheeded₁ = λ h. absurd (heeded-here lets row-there h);
              lining₁ = lining-set now.lining t row row-there lets.heeds-same lets.quiet-kept;
              lost₁ = losses-kept rows t row seat-within row-there lets.lost-same;
              rests₁-long = length-set rests t 0 ∙ now.rests-long;
              rest₁ = subst (λ (j : ℕ). get_or (set rests t 0) j 0 ≡ 0) tz (get_or-set_same rests t 0 0 (omega (arith, now.rests-long, seat-within)));
              marked₁ = inr (tz, sym tl ∙ tz);
            }
          where
            heeded-here : {ret : List ℕ} {row : List (List ℕ)} {copy : List ℕ} {to : Pointers} →
                LetsIn (get_or returns t []) (get_or rows t []) (get_or copies t []) (get_or saved t no_pointers) ret row copy to → get_or (set rows t row) t [] ≡ row →
                (note_in (get_or (set rows t row) t [])).heeds ≡ 0 → ⊥
            heeded-here {ret} {row} lets row-there h =
                let one : (note_in (get_or rows 0 [])).heeds ≡ 1 = now.lining.heeded (sym tl ∙ tz) in
                let same : (note_in (get_or rows t [])).heeds ≡ (note_in (get_or rows 0 [])).heeds = ap (λ (j : ℕ). (note_in (get_or rows j [])).heeds) tz in
                let new : (note_in (get_or (set rows t row) t [])).heeds ≡ (note_in row).heeds = ap (λ (r : List (List ℕ)). (note_in r).heeds) row-there in
                let kept-note = lets.heeds-same in
                omega arith

      -- by whatever names its arrays go
      pub opened-as : {turn turn' : ℕ} {rests₁ rests' : List ℕ} {returns₁ returns' : List (List ℕ)} {rows₁ rows' : List (List (List ℕ))} {copies₁ copies' : List (List ℕ)} {saved₁ saved' : List Pointers} →
          OpenedTo turn rests₁ returns₁ rows₁ copies₁ saved₁ → returns' ≡ returns₁ → rows' ≡ rows₁ → copies' ≡ copies₁ → saved' ≡ saved₁ → rests' ≡ rests₁ → turn' ≡ turn →
          OpenedTo turn' rests' returns' rows' copies' saved'
      opened-as {turn} {turn'} {rests₁} {rests'} {returns₁} {returns'} {rows₁} {rows'} {copies₁} {copies'} {saved₁} {saved'} o er ew ek es et el =
          subst⁻¹ (λ (x : List (List ℕ)). OpenedTo turn' rests' x rows' copies' saved') er
          (subst⁻¹ (λ (x : List (List (List ℕ))). OpenedTo turn' rests' returns₁ x copies' saved') ew
          (subst⁻¹ (λ (x : List (List ℕ)). OpenedTo turn' rests' returns₁ rows₁ x saved') ek
          (subst⁻¹ (λ (x : List Pointers). OpenedTo turn' rests' returns₁ rows₁ copies₁ x) es
          (subst⁻¹ (λ (x : List ℕ). OpenedTo turn' x returns₁ rows₁ copies₁ saved₁) et
          (subst⁻¹ (λ (x : ℕ). OpenedTo x rests₁ returns₁ rows₁ copies₁ saved₁) el o)))))

      module _ {turn : ℕ} {rests₁ : List ℕ} {returns₁ : List (List ℕ)} {rows₁ : List (List (List ℕ))} {copies₁ : List (List ℕ)} {saved₁ : List Pointers}
          (o : OpenedTo turn rests₁ returns₁ rows₁ copies₁ saved₁)
        where
          abbrev m₀ : Machine
          m₀ = get_or machines t no_machine

          abbrev from-here : Machine
          from-here = task_in cells returns₁ rows₁ copies₁ saved₁ t

          module _ {reach : Reach} (er : reach ≡ task t) where
            lines-here : lines_enter reach ≡ eqb t 0
            lines-here = ap lines_enter er ∙ lines-of-task t

            pub seat-starts : Bounded reach →
                Starts reach mem from-here (get_or rows₁ t []) (get_or copies₁ t []) turn true
            seat-starts bounded =
                record {
                  accepted =
                      accept mem from-here turn
                      (record { long = now.turning.long; budget-within = length_most now.turning less now.asked is o.long; formed = o.formed₁ });
                  whole = o.whole₁;
                  laid = o.seats₁.laid t seat-within;
                  bounded = bounded;
                  calm = subst⁻¹ (λ (b : Bool). Calm b from-here.lines from-here.links.r from-here.links.s) lines-here o.calm₁;
                  unheeded = λ h. subst⁻¹ (λ (b : Bool). Quiet b from-here.lines) lines-here (o.unheeded₁ h);
                  unasked = λ off. absurd (subst T off tt);
                }

            -- the loop's run is the definition's turn
            is-run : (k : ℕ) (mem' : List ℕ) (m : Machine) (n x : ℕ) → run_in reach true k mem' m n x ≡ run_from (task t) (as_task t) k mem' m n x
            is-run k mem' m n x =
                ap (λ (r : Reach). run_from r (manner_in reach true) k mem' m n x) er ∙ ap (λ (b : Bool). run_from (task t) (manner_of true b) k mem' m n x) lines-here

            module _ {mem' cells' returns' : List ℕ} {row : List (List ℕ)} {copy : List ℕ} {g : Registers}
                (ends : Ends reach true mem from-here turn (note_in (get_or rows₁ t [])) mem' cells' returns' row copy g)
              where
                abbrev m' : Machine
                m' = in_rows cells' returns' row copy (pointers_in g)

                abbrev n : ℕ
                n = turn - g.unspent.0

                -- what the turn answers, or that it can go on
                abbrev answer_of : Bool → ℕ
                answer_of b = pick b ready g.answer

                abbrev ran_by : Bool → Ran
                ran_by b = ran_of (answer_of b) (record { 0 = n }) g.cycles m'

                pub again-answers : g.again ≡ true → g.answer ≡ 0
                again-answers = ends.answered

                -- the whole turn, where it is over
                whole_run : g.again ≡ false → after_of mem' (ran_by false) ≡ run_from (task t) (as_task t) turn mem m₀ 0 0
                whole_run not = ends.same not ∙ (is-run turn mem from-here 0 0 ∙ o.run-same)

                -- what is left of it, where it goes on
                rest-run : g.again ≡ true → run_from (task t) (as_task t) turn mem m₀ 0 0 ≡ run_from (task t) (as_task t) g.unspent.0 mem' m' n g.cycles.0
                rest-run goes = sym o.run-same ∙ (sym (is-run turn mem from-here 0 0) ∙ ((ends.goes goes).rest ∙ is-run g.unspent.0 mem' m' n g.cycles.0))

                turn_is : run_from (task t) (as_task t) turn mem m₀ 0 0 ≡ turn_for (most_of t rest quantum) (between budget mem machines kept c) t
                turn_is =
                    ap (λ (k : ℕ). run_from (task t) (as_task t) k mem m₀ 0 0) o.long ∙
                    ap (λ (x : Task). run_from (task t) (as_task t) (turn_length (most_of t rest quantum) c.left.0) mem x.machine 0 0)
                    (sym (paired_at machines kept t (now.turning.four-machines ∙ sym now.turning.four-kept)))

                -- nothing is left of it
                spent-run : g.unspent.0 ≡ 0 → run_from (task t) (as_task t) g.unspent.0 mem' m' n g.cycles.0 ≡ after_of mem' (ran_by true)
                spent-run z =
                    ap (λ (k : ℕ). run_from (task t) (as_task t) k mem' m' n g.cycles.0) z ∙
                    run-spent (task t) (as_task t) mem' m' n g.cycles.0

                record Facts (b : Bool) : Type 0 where
                  short : n ≤ turn
                  priced : g.cycles.0 ≤ 42 * n
                  good-then : Good mem mem' m'
                  keeps : T (can_keep (answer_of b))
                  moves : answer_of b ≡ ready → 1 ≤ n

                of-run : g.again ≡ false → (P : After → Type 0) → P (run_from (task t) (as_task t) turn mem m₀ 0 0) → P (after_of mem' (ran_by false))
                of-run not P p = subst⁻¹ P (whole_run not) p

                facts : (b : Bool) → g.again ≡ b → Facts b
                facts false not =
                    record {
                      short = omega arith;
                      priced =
                          of-run not (λ (x : After). x.ran.cycles.0 ≤ 42 * x.ran.steps.0)
                          (run-bounded (task t) (as_task t) turn mem m₀ 0 0 (omega arith) (omega arith)).most;
                      good-then = of-run not (λ (x : After). Good mem x.memory x.ran.machine) (turn-good (task t) (eqb t 0) turn mem m₀ good.0 good.1);
                      keeps = of-run not (λ (x : After). T (can_keep x.ran.answer)) (turn-keeps (task t) (eqb t 0) turn mem m₀);
                      moves =
                          of-run not (λ (x : After). x.ran.answer ≡ ready → 1 ≤ x.ran.steps.0)
                          (turn-moves (task t) (eqb t 0) turn mem m₀ (length_some now.turning less now.asked is o.long));
                    }
                facts true goes =
                    let g' = ends.goes goes in
                    let fewer = g'.less in
                    record {
                      short = omega arith;
                      priced = g'.priced;
                      good-then = record { whole = g'.whole; formed = g'.formed; same_length = g'.long ∙ sym now.turning.long };
                      keeps = tt;
                      moves = λ e. omega arith;
                    }

                abbrev f : Facts g.again
                f = facts g.again refl

                pub seat-steps : n ≤ c.left.0
                seat-steps = steps-left now.turning less now.asked is o.long {ran = ran_by g.again} f.short f.priced f.good-then f.keeps f.moves

                pub seat-cycles : c.cycles.0 + g.cycles.0 ≤ 42 * most_budget
                seat-cycles = cycles-within now.turning less now.asked is o.long {ran = ran_by g.again} f.short f.priced f.good-then f.keeps f.moves

                pub seat-unspent : g.unspent.0 ≤ turn
                seat-unspent = ends.leaves.unspent-within

                -- what follows, in its arrays
                module _ {at : Pointers} (ea : at ≡ pointers_in g) {kept' rests' : List ℕ} {from : ℕ} (closes : Closes kept rests₁ t g.answer g.again g.unspent.0 kept' rests' from)
                    {c' : Clock} (ec : c' ≡ turned_to c from n g.cycles.0)
                  where
                    abbrev machines' : List Machine
                    machines' = machines_in (set cells t cells') (set returns₁ t returns') (set rows₁ t row) (set copies₁ t copy) (set saved₁ t at)

                    machines-now : machines' ≡ set machines t m'
                    machines-now =
                        machine-set o.seats₁ t seat-within cells' returns' row copy at ∙
                        (ap (λ (x : Pointers). set (machines_in cells returns₁ rows₁ copies₁ saved₁) t (in_rows cells' returns' row copy x)) ea ∙ o.machines₁ m')

                    row_now : get_or (set rows₁ t row) t [] ≡ row
                    row_now = rows-there o.seats₁ t seat-within [] [] row [] at

                    lining-now : Lining lined (set rows₁ t row)
                    lining-now = lining-set o.lining₁ t row row_now ends.heeds-same (λ e. ends.due-same ∙ e)

                    -- what is kept, and what is left of a turn
                    record Then (b : Bool) : Type 0 where
                      kept-is : kept' ≡ set kept t (answer_of b)
                      turns-on : Turning quantum (get_or rests' 0 0) budget start mem' (set machines t m') (set kept t (answer_of b)) c'
                      rests-are : length rests' ≡ tasks_count
                      whole-rest : (lined ≡ 0 → ⊥) → get_or rests' 0 0 ≡ 0

                    -- where the turn is over, nothing is left of it
                    over-then : (b : Bool) → (h : Facts b) → after_of mem' (ran_by b) ≡ run_from (task t) (as_task t) turn mem m₀ 0 0 → kept' ≡ set kept t (answer_of b) → get_or rests' 0 0 ≡ 0 → length rests' ≡ tasks_count →
                        from ≡ following t → Then b
                    over-then b h run kept-is none_left rests-are ef =
                        record {
                          kept-is = kept-is;
                          turns-on =
                              subst⁻¹ (λ (r : ℕ). Turning quantum r budget start mem' (set machines t m') (set kept t (answer_of b)) c') none_left
                              (turned_on now.turning less now.asked is o.long {ran = ran_by b} h.short h.priced h.good-then h.keeps h.moves
                              (run ∙ turn_is) (ec ∙ ap (λ (k : ℕ). turned_to c k n g.cycles.0) ef));
                          rests-are = rests-are;
                          whole-rest = λ h. none_left;
                        }

                    ready-kept : kept' ≡ kept → kept' ≡ set kept t ready
                    ready-kept e = e ∙ still-ready kept t seat-ready refl

                    -- it goes on
                    on_then : g.again ≡ true → (t ≡ 0) × (lined ≡ 0) → (h : Facts true) → Then true
                    on_then goes (tz, lz) h =
                        let k = closes.stays goes in
                        let new : get_or rests' 0 0 ≡ g.unspent.0 =
                        ap (λ (l : List ℕ). get_or l 0 0) k.1.0 ∙
                        subst (λ (j : ℕ). get_or (set rests₁ t g.unspent.0) j 0 ≡ g.unspent.0) tz
                        (get_or-set_same rests₁ t g.unspent.0 0 (omega (arith, o.rests₁-long, seat-within))) in
                        let all : length rests' ≡ tasks_count = ap (λ (l : List ℕ). length l) k.1.0 ∙ (length-set rests₁ t g.unspent.0 ∙ o.rests₁-long) in
                        dite (ℕ_discrete g.unspent.0 0)
                        (λ (z : g.unspent.0 ≡ 0).
                        over-then true h (sym (rest-run goes ∙ spent-run z)) (ready-kept k.0) (new ∙ z) all (k.1.1 ∙ ap (λ (u : ℕ). passed_to t u) z))
                        (λ (ne : g.unspent.0 ≢ 0).
                        let some : 1 ≤ g.unspent.0 = omega arith in
                        let within = ends.leaves.unspent-within in
                        let size : turn ≡ n + g.unspent.0 = omega arith in
                        let stay : from ≡ t = k.1.1 ∙ ap (λ (b : Bool). pick b (following t) t) (ne_eqb g.unspent.0 0 ne) in
                        record {
                          kept-is = ready-kept k.0;
                          turns-on =
                              subst⁻¹ (λ (r : ℕ). Turning quantum r budget start mem' (set machines t m') (set kept t ready) c') new
                              (stays_on now.turning less now.asked is o.long {ran = ran_by true} h.short h.priced h.good-then h.keeps h.moves
                              tz some size refl (sym turn_is ∙ rest-run goes) (ec ∙ ap (λ (k : ℕ). turned_to c k n g.cycles.0) stay));
                          rests-are = all;
                          whole-rest = λ h. absurd (h lz);
                        })

                    then : (b : Bool) → g.again ≡ b → (h : Facts b) → Then b
                    then false not h =
                        let k = closes.over not in
                        over-then false h (whole_run not) k.0 (ap (λ (l : List ℕ). get_or l 0 0) k.1.0 ∙ o.rest₁)
                        (ap (λ (l : List ℕ). length l) k.1.0 ∙ o.rests₁-long) k.1.1
                    then true goes h = on_then goes (marked o.marked₁) h
                      where
                        marked : ((note_in (get_or rows₁ t [])).heeds ≡ 0) ⊎ ((t ≡ 0) × (lined ≡ 0)) → (t ≡ 0) × (lined ≡ 0)
                        marked (inl e) = absurd (subst T (sym goes ∙ ends.unmarked e) tt)
                        marked (inr e) = e

                    pub seated-on : {whose' : Whose} → whose' ≡ first_kept kept' (in_order tasks_count (c'.from % tasks_count)) →
                        Seated quantum budget lined start mem' kept' rests' (set cells t cells') (set returns₁ t returns') (set rows₁ t row) (set copies₁ t copy) (set saved₁ t at) c' whose'
                    seated-on asked =
                        let k = then g.again refl f in
                        record {
                          turning =
                              subst⁻¹ (λ (ms : List Machine). Turning quantum (get_or rests' 0 0) budget start mem' ms kept' c') machines-now
                              (subst⁻¹ (λ (l : List ℕ). Turning quantum (get_or rests' 0 0) budget start mem' (set machines t m') l c') k.kept-is k.turns-on);
                          seats = seats-set o.seats₁ t seat-within cells' returns' row copy at ends.leaves.laid;
                          asked = asked;
                          lining = lining-now;
                          rests-long = k.rests-are;
                          unlined-whole = k.whole-rest;
                        }

                    pub seated-less : to_go (between budget mem' machines' kept' c') < to_go (between budget mem machines kept c)
                    seated-less =
                        let k = then g.again refl f in
                        subst⁻¹ (λ (ms : List Machine). to_go (between budget mem' ms kept' c') < to_go (between budget mem machines kept c)) machines-now
                        (subst⁻¹ (λ (l : List ℕ). to_go (between budget mem' (set machines t m') l c') < to_go (between budget mem machines kept c)) k.kept-is
                        (turned-less now.turning less now.asked is o.long {ran = ran_by g.again} f.short f.priced f.good-then f.keeps f.moves from ec))

                    pub rows_then : get_or (set rows₁ t row) t [] ≡ row
                    rows_then = row_now
