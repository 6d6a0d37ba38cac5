-- The loop is the definition's run: each round is one step of `step_of`, and what ends it is the definition's own.
use mathlib.Core.Path.{◌≡◌, refl, ap, sym, ◌∙◌}
use mathlib.Core.Bool.{false}
use mathlib.Core.Logic.{inl, inr}
use Prim.Native.Nat.{ℕ, ◌+◌, ◌-◌, ◌*◌, ◌%◌, ◌^◌, ◌<◌}
use native.Mathlib.Omega.{arith}
use Rattle.plain.specs.Answer.{refuses, gives}
use Rattle.machine.specs.Reach.{alone, is_foreign}
use Rattle.machine.specs.Codes.{code_pause, cycle_table, cycles_of}
use Rattle.machine.specs.Fetch.{instruction_at}
use Rattle.machine.specs.Refusals.{says}
use Rattle.machine.specs.declared.refusal.Refusal.{Refusal}
use Rattle.run_words.specs.Answers.{says_fetched, says_exit}
use Rattle.run_words.specs.Registers.{machine_in, halted_by}
use Rattle.run_words.specs.Levels.{frames_in, levels_in, note_in, in_rows}
use Rattle.run_words.specs.Machines.{in_reach}
use Rattle.run_words.specs.Notes.{Note}
use Rattle.machine.specs.Lines.{lowest_due}
use Rattle.machine.proofs.Laws.Releases.{freed, due-kept}
use Rattle.run_words.specs.Verdicts.{returnable, e_after_drop_of}
use Rattle.run_words.specs.Laws.Answered.{told}
use Rattle.run_words.specs.Laws.Arms.{push-acts, copy-acts, reset-acts, exit-acts, rti-acts, call-acts, call-top-acts, held-there, cells-acts, cells-end, pause-is}
use Rattle.run_words.specs.Laws.Calms.{unmarked-then}
use Rattle.run_words.specs.Laws.Loop.{starts}
use Rattle.run_words.specs.Laws.Losses.{nothing-lost}
use Rattle.run_words.specs.Laws.Rooms.{push-room, read-room, call-room, exit-room, return-room}
use Rattle.run_instructions.specs.Arms.{Stood}
use Rattle.run_instructions.specs.Standing.{stays, holds, unheeded-here}
use Rattle.run_words.specs.Laws.Rounds.{Round, begins, Found, ends, goes, goes_in, paused, fetch-ends, foreign-ends, halted-less}
use borrow.Author.Rules.{rules}
use Rattle.run_words.specs.Promises.{Fetches}
use Rattle.run_words.specs.declared.Fetched.{Fetched}
use Rattle.run_words.specs.declared.Registers.{Registers}
use Rattle.machine.specs.declared.Reach.{Reach}
use Rattle.machine.specs.declared.Machine.{Machine}
use Rattle.links.specs.declared.Frame.{Frame}
use Rattle.links.specs.declared.Level.{Level}
use Rattle.run_words.specs.Notes.{Aside}
use Rattle.std.specs.Prelude.{Result, Ok, Bool, List}
use Rattle.run_loop.proofs.round.rounds.Goals as goal

-- an instruction is fetched, and none of its bytes is in another's part
found : {reach : Reach} {in_turns : Bool} {mem₀ : List ℕ} {m₀ : Machine} {budget heeds₀ : ℕ} {mem cells returns : List ℕ} {frames : List Frame} {levels : List Level} {aside : Aside} {g : Registers}
    {fetched : Result Fetched Refusal} {i : Fetched} {foreign : Bool} → Round reach in_turns mem₀ m₀ budget heeds₀ mem cells returns frames levels aside g → 0 < g.left.0
    → Fetches mem g.counter (says_fetched fetched) → foreign ≡ is_foreign (instruction_at reach mem g.counter).bar → foreign ≡ false → fetched ≡ Ok i
    → Found reach in_turns mem₀ m₀ budget heeds₀ mem cells returns frames levels aside g i.code i.operand i.next
found {reach = reach} round less fetches foreign own is =
    record { round = round; less = less; fetched = told (λ f. says_fetched f reach) (fetches reach (sym foreign ∙ own)) is }

-- a branch is no THROW
branches-on : {code : ℕ} → 0x7F < code → code ≡ 0x0D → ⊥
branches-on above h = omega arith

no-pause : {code : ℕ} → 0x7F < code → code ≡ code_pause → ⊥
no-pause above h = omega arith

pub loop-reach-init : goal.loop-reach-init
loop-reach-init c = record { round = begins refl refl refl refl refl c.requires.calm (starts c.args.reach c.args.turns c.args.mem.now _ c.args.left c.requires.accepted c.requires.whole); laid = c.requires.laid; loses = nothing-lost (note_in c.args.rows.now).lost c.args.mem.now; heeds-same = refl; due-same = refl; unasked = c.requires.unasked; unheeded = c.requires.unheeded }

pub foreign-requires : goal.foreign-requires
foreign-requires c = (c.loop-reach.invariant.round.long, c.requires.bounded.shared-within)

pub loop-reach-smaller-then-foreign : goal.loop-reach-smaller-then-foreign
loop-reach-smaller-then-foreign c = halted-less {A = Unit {0}} c.loop-reach.regs {said = refuses 17} c.halted-regs.ensures refl (c.some_left.ensures.0 c.loop-reach-test.true)

pub loop-reach-preserved-then-foreign : goal.loop-reach-preserved-then-foreign
loop-reach-preserved-then-foreign c = stays c.loop-reach.invariant (foreign-ends c.loop-reach.invariant.round (c.some_left.ensures.0 c.loop-reach-test.true) c.foreign.ensures c.if-foreign.true c.halted-regs.ensures)

pub loop-reach-smaller-in_default : goal.loop-reach-smaller-in_default
loop-reach-smaller-in_default c = halted-less c.loop-reach.regs c.by-regs.ensures (ap says c.in_default.is) (c.some_left.ensures.0 c.loop-reach-test.true)

pub loop-reach-preserved-in_default : goal.loop-reach-preserved-in_default
loop-reach-preserved-in_default c = stays c.loop-reach.invariant (fetch-ends c.loop-reach.invariant.round (c.some_left.ensures.0 c.loop-reach-test.true) c.fetch-fetched.ensures c.foreign.ensures c.if-foreign.false (ap (λ f. says_fetched f c.args.reach) c.in_default.is) (c.by-regs.ensures ∙ ap (λ a. halted_by a c.loop-reach.regs) (ap says c.in_default.is)))

pub loop-reach-smaller-in_default-done : goal.loop-reach-smaller-in_default-done
loop-reach-smaller-in_default-done c = halted-less c.loop-reach.regs c.by-regs-in_default-done.ensures (ap says c.in_default-done.is) (found c.loop-reach.invariant.round (c.some_left.ensures.0 c.loop-reach-test.true) c.fetch-fetched.ensures c.foreign.ensures c.if-foreign.false c.in-Ok.is).less

pub loop-reach-preserved-in_default-done : goal.loop-reach-preserved-in_default-done
loop-reach-preserved-in_default-done c = stays c.loop-reach.invariant (cells-end (found c.loop-reach.invariant.round (c.some_left.ensures.0 c.loop-reach-test.true) c.fetch-fetched.ensures c.foreign.ensures c.if-foreign.false c.in-Ok.is) (branches-on c.if-code-gt127.true) (no-pause c.if-code-gt127.true) c.branches-done.ensures (ap says c.in_default-done.is) c.by-regs-in_default-done.ensures)

pub counted-regs-requires : goal.counted-regs-requires
counted-regs-requires c = ((found c.loop-reach.invariant.round (c.some_left.ensures.0 c.loop-reach-test.true) c.fetch-fetched.ensures c.foreign.ensures c.if-foreign.false c.in-Ok.is).less, ((omega (arith, c.loop-reach.invariant.round.priced, c.loop-reach.invariant.round.limit, c.loop-reach.invariant.round.left-within, (found c.loop-reach.invariant.round (c.some_left.ensures.0 c.loop-reach-test.true) c.fetch-fetched.ensures c.foreign.ensures c.if-foreign.false c.in-Ok.is).less)), c.price.ensures.1))

pub loop-reach-smaller-then-code-gt127 : goal.loop-reach-smaller-then-code-gt127
loop-reach-smaller-then-code-gt127 c = omega (arith, c.counted-regs.ensures.1)

pub loop-reach-preserved-then-code-gt127 : goal.loop-reach-preserved-then-code-gt127
loop-reach-preserved-then-code-gt127 c = stays c.loop-reach.invariant (goes (found c.loop-reach.invariant.round (c.some_left.ensures.0 c.loop-reach-test.true) c.fetch-fetched.ensures c.foreign.ensures c.if-foreign.false c.in-Ok.is) (cells-acts (found c.loop-reach.invariant.round (c.some_left.ensures.0 c.loop-reach-test.true) c.fetch-fetched.ensures c.foreign.ensures c.if-foreign.false c.in-Ok.is) (branches-on c.if-code-gt127.true) (no-pause c.if-code-gt127.true) c.branches-done.ensures) (ap says c.in-Ok-done.is) refl refl (record { lines_same = refl; r-rises = omega arith; s-rises = omega arith }) c.price.ensures.0 c.counted-regs.ensures.0)

pub loop-reach-smaller-in_default-checked : goal.loop-reach-smaller-in_default-checked
loop-reach-smaller-in_default-checked c = halted-less c.loop-reach.regs c.by-regs-in_default-checked.ensures (ap says c.in_default-checked.is) (found c.loop-reach.invariant.round (c.some_left.ensures.0 c.loop-reach-test.true) c.fetch-fetched.ensures c.foreign.ensures c.if-foreign.false c.in-Ok.is).less

pub loop-reach-preserved-in_default-checked : goal.loop-reach-preserved-in_default-checked
loop-reach-preserved-in_default-checked c = stays c.loop-reach.invariant (ends (found c.loop-reach.invariant.round (c.some_left.ensures.0 c.loop-reach-test.true) c.fetch-fetched.ensures c.foreign.ensures c.if-foreign.false c.in-Ok.is) (push-acts (found c.loop-reach.invariant.round (c.some_left.ensures.0 c.loop-reach-test.true) c.fetch-fetched.ensures c.foreign.ensures c.if-foreign.false c.in-Ok.is) c.in-7.is) (told says c.can_push-checked.ensures c.in_default-checked.is) c.can_push-checked.ensures c.by-regs-in_default-checked.ensures)

pub overflow_sub-returns : goal.overflow_sub-returns
overflow_sub-returns c = omega (arith, push-room (told says c.can_push-checked.ensures c.in-Ok-checked.is))

pub offset_bounds-cells-p : goal.offset_bounds-cells-p
offset_bounds-cells-p c = omega (arith, push-room (told says c.can_push-checked.ensures c.in-Ok-checked.is))

pub bounds-cells-p : goal.bounds-cells-p
bounds-cells-p c = omega (arith, push-room (told says c.can_push-checked.ensures c.in-Ok-checked.is))

pub offset_bounds-returns-r : goal.offset_bounds-returns-r
offset_bounds-returns-r c = omega (arith, push-room (told says c.can_push-checked.ensures c.in-Ok-checked.is))

pub bounds-returns-r : goal.bounds-returns-r
bounds-returns-r c = omega (arith, push-room (told says c.can_push-checked.ensures c.in-Ok-checked.is))

pub overflow_sub-regs : goal.overflow_sub-regs
overflow_sub-regs c = omega (arith, push-room (told says c.can_push-checked.ensures c.in-Ok-checked.is))

pub overflow_add-regs : goal.overflow_add-regs
overflow_add-regs c = omega (arith, push-room (told says c.can_push-checked.ensures c.in-Ok-checked.is))

pub counted-regs-requires-in-7 : goal.counted-regs-requires-in-7
counted-regs-requires-in-7 c = ((found c.loop-reach.invariant.round (c.some_left.ensures.0 c.loop-reach-test.true) c.fetch-fetched.ensures c.foreign.ensures c.if-foreign.false c.in-Ok.is).less, ((omega (arith, c.loop-reach.invariant.round.priced, c.loop-reach.invariant.round.limit, c.loop-reach.invariant.round.left-within, (found c.loop-reach.invariant.round (c.some_left.ensures.0 c.loop-reach-test.true) c.fetch-fetched.ensures c.foreign.ensures c.if-foreign.false c.in-Ok.is).less)), c.price-in-7.ensures.1))

pub loop-reach-smaller-in-7 : goal.loop-reach-smaller-in-7
loop-reach-smaller-in-7 c = omega (arith, c.counted-regs-in-7.ensures.1)

pub loop-reach-preserved-in-7 : goal.loop-reach-preserved-in-7
loop-reach-preserved-in-7 c = stays c.loop-reach.invariant (goes (found c.loop-reach.invariant.round (c.some_left.ensures.0 c.loop-reach-test.true) c.fetch-fetched.ensures c.foreign.ensures c.if-foreign.false c.in-Ok.is) (push-acts (found c.loop-reach.invariant.round (c.some_left.ensures.0 c.loop-reach-test.true) c.fetch-fetched.ensures c.foreign.ensures c.if-foreign.false c.in-Ok.is) c.in-7.is) (told says c.can_push-checked.ensures c.in-Ok-checked.is) refl refl (record { lines_same = refl; r-rises = omega arith; s-rises = omega arith }) c.price-in-7.ensures.0 c.counted-regs-in-7.ensures.0)

pub loop-reach-smaller-in_default-checked-2 : goal.loop-reach-smaller-in_default-checked-2
loop-reach-smaller-in_default-checked-2 c = halted-less c.loop-reach.regs c.by-regs-in_default-checked-2.ensures (ap says c.in_default-checked-2.is) (found c.loop-reach.invariant.round (c.some_left.ensures.0 c.loop-reach-test.true) c.fetch-fetched.ensures c.foreign.ensures c.if-foreign.false c.in-Ok.is).less

pub loop-reach-preserved-in_default-checked-2 : goal.loop-reach-preserved-in_default-checked-2
loop-reach-preserved-in_default-checked-2 c = stays c.loop-reach.invariant (ends (found c.loop-reach.invariant.round (c.some_left.ensures.0 c.loop-reach-test.true) c.fetch-fetched.ensures c.foreign.ensures c.if-foreign.false c.in-Ok.is) (copy-acts (found c.loop-reach.invariant.round (c.some_left.ensures.0 c.loop-reach-test.true) c.fetch-fetched.ensures c.foreign.ensures c.if-foreign.false c.in-Ok.is) c.in-8.is) (told says c.can_read-checked.ensures c.in_default-checked-2.is) c.can_read-checked.ensures c.by-regs-in_default-checked-2.ensures)

pub overflow_sub-cells : goal.overflow_sub-cells
overflow_sub-cells c = omega (arith, read-room (told says c.can_read-checked.ensures c.in-Ok-checked-2.is))

pub offset_bounds-returns-r-in-8 : goal.offset_bounds-returns-r-in-8
offset_bounds-returns-r-in-8 c = omega (arith, read-room (told says c.can_read-checked.ensures c.in-Ok-checked-2.is))

pub bounds-returns-r-in-8 : goal.bounds-returns-r-in-8
bounds-returns-r-in-8 c = omega (arith, read-room (told says c.can_read-checked.ensures c.in-Ok-checked-2.is))

pub offset_bounds-cells-p-in-8 : goal.offset_bounds-cells-p-in-8
offset_bounds-cells-p-in-8 c = omega (arith, read-room (told says c.can_read-checked.ensures c.in-Ok-checked-2.is))

pub bounds-cells-p-in-8 : goal.bounds-cells-p-in-8
bounds-cells-p-in-8 c = omega (arith, read-room (told says c.can_read-checked.ensures c.in-Ok-checked-2.is))

pub overflow_add-regs-in-8 : goal.overflow_add-regs-in-8
overflow_add-regs-in-8 c = omega (arith, read-room (told says c.can_read-checked.ensures c.in-Ok-checked-2.is))

pub counted-regs-requires-in-8 : goal.counted-regs-requires-in-8
counted-regs-requires-in-8 c = ((found c.loop-reach.invariant.round (c.some_left.ensures.0 c.loop-reach-test.true) c.fetch-fetched.ensures c.foreign.ensures c.if-foreign.false c.in-Ok.is).less, ((omega (arith, c.loop-reach.invariant.round.priced, c.loop-reach.invariant.round.limit, c.loop-reach.invariant.round.left-within, (found c.loop-reach.invariant.round (c.some_left.ensures.0 c.loop-reach-test.true) c.fetch-fetched.ensures c.foreign.ensures c.if-foreign.false c.in-Ok.is).less)), c.price-in-8.ensures.1))

pub loop-reach-smaller-in-8 : goal.loop-reach-smaller-in-8
loop-reach-smaller-in-8 c = omega (arith, c.counted-regs-in-8.ensures.1)

pub loop-reach-preserved-in-8 : goal.loop-reach-preserved-in-8
loop-reach-preserved-in-8 c = stays c.loop-reach.invariant (goes (found c.loop-reach.invariant.round (c.some_left.ensures.0 c.loop-reach-test.true) c.fetch-fetched.ensures c.foreign.ensures c.if-foreign.false c.in-Ok.is) (copy-acts (found c.loop-reach.invariant.round (c.some_left.ensures.0 c.loop-reach-test.true) c.fetch-fetched.ensures c.foreign.ensures c.if-foreign.false c.in-Ok.is) c.in-8.is) (told says c.can_read-checked.ensures c.in-Ok-checked-2.is) refl refl (record { lines_same = refl; r-rises = omega arith; s-rises = omega arith }) c.price-in-8.ensures.0 c.counted-regs-in-8.ensures.0)

pub pop-regs-requires : goal.pop-regs-requires
pop-regs-requires c = record { p-within = c.loop-reach.invariant.round.p-within; r-within = c.loop-reach.invariant.round.r-within; s-within = c.loop-reach.invariant.round.s-within; e-within = c.loop-reach.invariant.round.e-within; less = (found c.loop-reach.invariant.round (c.some_left.ensures.0 c.loop-reach-test.true) c.fetch-fetched.ensures c.foreign.ensures c.if-foreign.false c.in-Ok.is).less; paid = (omega (arith, c.loop-reach.invariant.round.priced, c.loop-reach.invariant.round.limit, c.loop-reach.invariant.round.left-within, (found c.loop-reach.invariant.round (c.some_left.ensures.0 c.loop-reach-test.true) c.fetch-fetched.ensures c.foreign.ensures c.if-foreign.false c.in-Ok.is).less)) }

pub loop-reach-smaller-in-9 : goal.loop-reach-smaller-in-9
loop-reach-smaller-in-9 c = c.pop-regs.ensures.0

pub loop-reach-preserved-in-9 : goal.loop-reach-preserved-in-9
loop-reach-preserved-in-9 c = c.pop-regs.ensures.1 c.args.reach _ c.loop-reach.mem c.in-Ok.instruction.operand c.loop-reach.invariant ((found c.loop-reach.invariant.round (c.some_left.ensures.0 c.loop-reach-test.true) c.fetch-fetched.ensures c.foreign.ensures c.if-foreign.false c.in-Ok.is).fetched ∙ ap (λ n. gives (in_reach c.args.reach n c.in-Ok.instruction.operand c.in-Ok.instruction.next)) c.in-9.is)

pub catch-regs-requires : goal.catch-regs-requires
catch-regs-requires c = record { p-within = c.loop-reach.invariant.round.p-within; r-within = c.loop-reach.invariant.round.r-within; s-within = c.loop-reach.invariant.round.s-within; e-within = c.loop-reach.invariant.round.e-within; less = (found c.loop-reach.invariant.round (c.some_left.ensures.0 c.loop-reach-test.true) c.fetch-fetched.ensures c.foreign.ensures c.if-foreign.false c.in-Ok.is).less; paid = (omega (arith, c.loop-reach.invariant.round.priced, c.loop-reach.invariant.round.limit, c.loop-reach.invariant.round.left-within, (found c.loop-reach.invariant.round (c.some_left.ensures.0 c.loop-reach-test.true) c.fetch-fetched.ensures c.foreign.ensures c.if-foreign.false c.in-Ok.is).less)) }

pub loop-reach-smaller-in-11 : goal.loop-reach-smaller-in-11
loop-reach-smaller-in-11 c = c.catch-regs.ensures.0

pub loop-reach-preserved-in-11 : goal.loop-reach-preserved-in-11
loop-reach-preserved-in-11 c = c.catch-regs.ensures.1 c.args.reach _ _ c.loop-reach.mem c.in-Ok.instruction.operand c.loop-reach.invariant ((found c.loop-reach.invariant.round (c.some_left.ensures.0 c.loop-reach-test.true) c.fetch-fetched.ensures c.foreign.ensures c.if-foreign.false c.in-Ok.is).fetched ∙ ap (λ n. gives (in_reach c.args.reach n c.in-Ok.instruction.operand c.in-Ok.instruction.next)) c.in-11.is)

pub counted-regs-requires-in-12 : goal.counted-regs-requires-in-12
counted-regs-requires-in-12 c = ((found c.loop-reach.invariant.round (c.some_left.ensures.0 c.loop-reach-test.true) c.fetch-fetched.ensures c.foreign.ensures c.if-foreign.false c.in-Ok.is).less, ((omega (arith, c.loop-reach.invariant.round.priced, c.loop-reach.invariant.round.limit, c.loop-reach.invariant.round.left-within, (found c.loop-reach.invariant.round (c.some_left.ensures.0 c.loop-reach-test.true) c.fetch-fetched.ensures c.foreign.ensures c.if-foreign.false c.in-Ok.is).less)), c.price-in-12.ensures.1))

pub loop-reach-smaller-in-12 : goal.loop-reach-smaller-in-12
loop-reach-smaller-in-12 c = omega (arith, c.counted-regs-in-12.ensures.1, c.parted-regs.ensures.1)

pub loop-reach-preserved-in-12 : goal.loop-reach-preserved-in-12
loop-reach-preserved-in-12 c = stays c.loop-reach.invariant (goes_in (found c.loop-reach.invariant.round (c.some_left.ensures.0 c.loop-reach-test.true) c.fetch-fetched.ensures c.foreign.ensures c.if-foreign.false c.in-Ok.is) (reset-acts (found c.loop-reach.invariant.round (c.some_left.ensures.0 c.loop-reach-test.true) c.fetch-fetched.ensures c.foreign.ensures c.if-foreign.false c.in-Ok.is) c.in-12.is) refl refl refl c.price-in-12.ensures.0 c.counted-regs-in-12.ensures.0 c.loop-reach.invariant.heeds-same c.loop-reach.invariant.unasked c.held.ensures c.parted-regs.ensures.0 (unheeded-here c.loop-reach.invariant c.loop-reach.rows refl refl))

pub throw-regs-requires : goal.throw-regs-requires
throw-regs-requires c = (record { p-within = c.loop-reach.invariant.round.p-within; r-within = c.loop-reach.invariant.round.r-within; s-within = c.loop-reach.invariant.round.s-within; e-within = c.loop-reach.invariant.round.e-within; less = (found c.loop-reach.invariant.round (c.some_left.ensures.0 c.loop-reach-test.true) c.fetch-fetched.ensures c.foreign.ensures c.if-foreign.false c.in-Ok.is).less; paid = (omega (arith, c.loop-reach.invariant.round.priced, c.loop-reach.invariant.round.limit, c.loop-reach.invariant.round.left-within, (found c.loop-reach.invariant.round (c.some_left.ensures.0 c.loop-reach-test.true) c.fetch-fetched.ensures c.foreign.ensures c.if-foreign.false c.in-Ok.is).less)) }, c.loop-reach.invariant.round.catcher)

pub loop-reach-smaller-in-13 : goal.loop-reach-smaller-in-13
loop-reach-smaller-in-13 c = c.throw-regs.ensures.0

pub loop-reach-preserved-in-13 : goal.loop-reach-preserved-in-13
loop-reach-preserved-in-13 c = c.throw-regs.ensures.1 c.args.reach _ c.loop-reach.mem c.loop-reach.returns c.in-Ok.instruction.operand c.loop-reach.invariant ((found c.loop-reach.invariant.round (c.some_left.ensures.0 c.loop-reach-test.true) c.fetch-fetched.ensures c.foreign.ensures c.if-foreign.false c.in-Ok.is).fetched ∙ ap (λ n. gives (in_reach c.args.reach n c.in-Ok.instruction.operand c.in-Ok.instruction.next)) c.in-13.is)

pub load-regs-requires : goal.load-regs-requires
load-regs-requires c = (record { p-within = c.loop-reach.invariant.round.p-within; r-within = c.loop-reach.invariant.round.r-within; s-within = c.loop-reach.invariant.round.s-within; e-within = c.loop-reach.invariant.round.e-within; less = (found c.loop-reach.invariant.round (c.some_left.ensures.0 c.loop-reach-test.true) c.fetch-fetched.ensures c.foreign.ensures c.if-foreign.false c.in-Ok.is).less; paid = (omega (arith, c.loop-reach.invariant.round.priced, c.loop-reach.invariant.round.limit, c.loop-reach.invariant.round.left-within, (found c.loop-reach.invariant.round (c.some_left.ensures.0 c.loop-reach-test.true) c.fetch-fetched.ensures c.foreign.ensures c.if-foreign.false c.in-Ok.is).less)) }, (c.in-45.is, (c.loop-reach.invariant.round.long, c.requires.bounded)))

pub loop-reach-smaller-in-45 : goal.loop-reach-smaller-in-45
loop-reach-smaller-in-45 c = c.load-regs.ensures.0

pub loop-reach-preserved-in-45 : goal.loop-reach-preserved-in-45
loop-reach-preserved-in-45 c = c.load-regs.ensures.1 _ _ c.loop-reach.returns c.loop-reach.copies c.in-Ok.instruction.operand c.loop-reach.invariant (found c.loop-reach.invariant.round (c.some_left.ensures.0 c.loop-reach-test.true) c.fetch-fetched.ensures c.foreign.ensures c.if-foreign.false c.in-Ok.is).fetched

pub store_long-regs-requires : goal.store_long-regs-requires
store_long-regs-requires c = (record { p-within = c.loop-reach.invariant.round.p-within; r-within = c.loop-reach.invariant.round.r-within; s-within = c.loop-reach.invariant.round.s-within; e-within = c.loop-reach.invariant.round.e-within; less = (found c.loop-reach.invariant.round (c.some_left.ensures.0 c.loop-reach-test.true) c.fetch-fetched.ensures c.foreign.ensures c.if-foreign.false c.in-Ok.is).less; paid = (omega (arith, c.loop-reach.invariant.round.priced, c.loop-reach.invariant.round.limit, c.loop-reach.invariant.round.left-within, (found c.loop-reach.invariant.round (c.some_left.ensures.0 c.loop-reach-test.true) c.fetch-fetched.ensures c.foreign.ensures c.if-foreign.false c.in-Ok.is).less)) }, (inl c.in-46.is, (c.loop-reach.invariant.round.long, c.requires.bounded)))

pub loop-reach-smaller-in-46 : goal.loop-reach-smaller-in-46
loop-reach-smaller-in-46 c = c.store_long-regs.ensures.0

pub loop-reach-preserved-in-46 : goal.loop-reach-preserved-in-46
loop-reach-preserved-in-46 c = c.store_long-regs.ensures.1 _ _ c.loop-reach.returns c.loop-reach.copies c.in-Ok.instruction.operand c.loop-reach.invariant (found c.loop-reach.invariant.round (c.some_left.ensures.0 c.loop-reach-test.true) c.fetch-fetched.ensures c.foreign.ensures c.if-foreign.false c.in-Ok.is).fetched

pub store_short-regs-requires : goal.store_short-regs-requires
store_short-regs-requires c = (record { p-within = c.loop-reach.invariant.round.p-within; r-within = c.loop-reach.invariant.round.r-within; s-within = c.loop-reach.invariant.round.s-within; e-within = c.loop-reach.invariant.round.e-within; less = (found c.loop-reach.invariant.round (c.some_left.ensures.0 c.loop-reach-test.true) c.fetch-fetched.ensures c.foreign.ensures c.if-foreign.false c.in-Ok.is).less; paid = (omega (arith, c.loop-reach.invariant.round.priced, c.loop-reach.invariant.round.limit, c.loop-reach.invariant.round.left-within, (found c.loop-reach.invariant.round (c.some_left.ensures.0 c.loop-reach-test.true) c.fetch-fetched.ensures c.foreign.ensures c.if-foreign.false c.in-Ok.is).less)) }, (inr c.in-48.is, (c.loop-reach.invariant.round.long, c.requires.bounded)))

pub loop-reach-smaller-in-48 : goal.loop-reach-smaller-in-48
loop-reach-smaller-in-48 c = c.store_short-regs.ensures.0

pub loop-reach-preserved-in-48 : goal.loop-reach-preserved-in-48
loop-reach-preserved-in-48 c = c.store_short-regs.ensures.1 _ _ c.loop-reach.returns c.loop-reach.copies c.in-Ok.instruction.operand c.loop-reach.invariant (found c.loop-reach.invariant.round (c.some_left.ensures.0 c.loop-reach-test.true) c.fetch-fetched.ensures c.foreign.ensures c.if-foreign.false c.in-Ok.is).fetched

pub loop-reach-smaller-in_default-checked-3 : goal.loop-reach-smaller-in_default-checked-3
loop-reach-smaller-in_default-checked-3 c = halted-less c.loop-reach.regs c.by-regs-in_default-checked-3.ensures (ap says c.in_default-checked-3.is) (found c.loop-reach.invariant.round (c.some_left.ensures.0 c.loop-reach-test.true) c.fetch-fetched.ensures c.foreign.ensures c.if-foreign.false c.in-Ok.is).less

pub loop-reach-preserved-in_default-checked-3 : goal.loop-reach-preserved-in_default-checked-3
loop-reach-preserved-in_default-checked-3 c = stays c.loop-reach.invariant (ends (found c.loop-reach.invariant.round (c.some_left.ensures.0 c.loop-reach-test.true) c.fetch-fetched.ensures c.foreign.ensures c.if-foreign.false c.in-Ok.is) (call-acts (found c.loop-reach.invariant.round (c.some_left.ensures.0 c.loop-reach-test.true) c.fetch-fetched.ensures c.foreign.ensures c.if-foreign.false c.in-Ok.is) c.in-56.is) (told says c.can_call-checked.ensures c.in_default-checked-3.is) c.can_call-checked.ensures c.by-regs-in_default-checked-3.ensures)

pub offset_bounds-returns-r-in-56 : goal.offset_bounds-returns-r-in-56
offset_bounds-returns-r-in-56 c = omega (arith, call-room (told says c.can_call-checked.ensures c.in-Ok-checked-3.is))

pub bounds-returns-r-in-56 : goal.bounds-returns-r-in-56
bounds-returns-r-in-56 c = omega (arith, call-room (told says c.can_call-checked.ensures c.in-Ok-checked-3.is))

pub called-requires : goal.called-requires
called-requires c = omega (arith, call-room (told says c.can_call-checked.ensures c.in-Ok-checked-3.is))

pub overflow_add-regs-in-56 : goal.overflow_add-regs-in-56
overflow_add-regs-in-56 c = omega (arith, call-room (told says c.can_call-checked.ensures c.in-Ok-checked-3.is))

pub overflow_add-regs-in-56-2 : goal.overflow_add-regs-in-56-2
overflow_add-regs-in-56-2 c = omega (arith, call-room (told says c.can_call-checked.ensures c.in-Ok-checked-3.is))

pub counted-regs-requires-in-56 : goal.counted-regs-requires-in-56
counted-regs-requires-in-56 c = ((found c.loop-reach.invariant.round (c.some_left.ensures.0 c.loop-reach-test.true) c.fetch-fetched.ensures c.foreign.ensures c.if-foreign.false c.in-Ok.is).less, ((omega (arith, c.loop-reach.invariant.round.priced, c.loop-reach.invariant.round.limit, c.loop-reach.invariant.round.left-within, (found c.loop-reach.invariant.round (c.some_left.ensures.0 c.loop-reach-test.true) c.fetch-fetched.ensures c.foreign.ensures c.if-foreign.false c.in-Ok.is).less)), c.price-in-56.ensures.1))

pub loop-reach-smaller-in-56 : goal.loop-reach-smaller-in-56
loop-reach-smaller-in-56 c = omega (arith, c.counted-regs-in-56.ensures.1)

pub loop-reach-preserved-in-56 : goal.loop-reach-preserved-in-56
loop-reach-preserved-in-56 c = holds c.loop-reach.invariant (c.called.ensures c.loop-reach.invariant.laid) refl refl refl (goes (found c.loop-reach.invariant.round (c.some_left.ensures.0 c.loop-reach-test.true) c.fetch-fetched.ensures c.foreign.ensures c.if-foreign.false c.in-Ok.is) (call-acts (found c.loop-reach.invariant.round (c.some_left.ensures.0 c.loop-reach-test.true) c.fetch-fetched.ensures c.foreign.ensures c.if-foreign.false c.in-Ok.is) c.in-56.is) (told says c.can_call-checked.ensures c.in-Ok-checked-3.is) (held-there (c.called.ensures c.loop-reach.invariant.laid)) refl (record { lines_same = ap (λ (n : Note). n.aside.lines) (c.called.ensures c.loop-reach.invariant.laid).note-is; r-rises = omega arith; s-rises = omega arith }) c.price-in-56.ensures.0 c.counted-regs-in-56.ensures.0)

pub loop-reach-smaller-in_default-checked-4 : goal.loop-reach-smaller-in_default-checked-4
loop-reach-smaller-in_default-checked-4 c = halted-less c.loop-reach.regs c.by-regs-in_default-checked-4.ensures (ap says c.in_default-checked-4.is) (found c.loop-reach.invariant.round (c.some_left.ensures.0 c.loop-reach-test.true) c.fetch-fetched.ensures c.foreign.ensures c.if-foreign.false c.in-Ok.is).less

pub loop-reach-preserved-in_default-checked-4 : goal.loop-reach-preserved-in_default-checked-4
loop-reach-preserved-in_default-checked-4 c = stays c.loop-reach.invariant (ends (found c.loop-reach.invariant.round (c.some_left.ensures.0 c.loop-reach-test.true) c.fetch-fetched.ensures c.foreign.ensures c.if-foreign.false c.in-Ok.is) (call-top-acts (found c.loop-reach.invariant.round (c.some_left.ensures.0 c.loop-reach-test.true) c.fetch-fetched.ensures c.foreign.ensures c.if-foreign.false c.in-Ok.is) c.in-57.is) (told says c.can_call-checked-in-57.ensures c.in_default-checked-4.is) c.can_call-checked-in-57.ensures c.by-regs-in_default-checked-4.ensures)

pub overflow_sub-to : goal.overflow_sub-to
overflow_sub-to c = omega (arith, call-room (told says c.can_call-checked-in-57.ensures c.in-Ok-checked-4.is))

pub offset_bounds-cells-p-in-57 : goal.offset_bounds-cells-p-in-57
offset_bounds-cells-p-in-57 c = omega (arith, call-room (told says c.can_call-checked-in-57.ensures c.in-Ok-checked-4.is))

pub bounds-cells-p-in-57 : goal.bounds-cells-p-in-57
bounds-cells-p-in-57 c = omega (arith, call-room (told says c.can_call-checked-in-57.ensures c.in-Ok-checked-4.is))

pub offset_bounds-returns-r-in-57 : goal.offset_bounds-returns-r-in-57
offset_bounds-returns-r-in-57 c = omega (arith, call-room (told says c.can_call-checked-in-57.ensures c.in-Ok-checked-4.is))

pub bounds-returns-r-in-57 : goal.bounds-returns-r-in-57
bounds-returns-r-in-57 c = omega (arith, call-room (told says c.can_call-checked-in-57.ensures c.in-Ok-checked-4.is))

pub called-requires-in-57 : goal.called-requires-in-57
called-requires-in-57 c = omega (arith, call-room (told says c.can_call-checked-in-57.ensures c.in-Ok-checked-4.is))

pub overflow_sub-regs-in-57 : goal.overflow_sub-regs-in-57
overflow_sub-regs-in-57 c = omega (arith, call-room (told says c.can_call-checked-in-57.ensures c.in-Ok-checked-4.is))

pub overflow_add-regs-in-57 : goal.overflow_add-regs-in-57
overflow_add-regs-in-57 c = omega (arith, call-room (told says c.can_call-checked-in-57.ensures c.in-Ok-checked-4.is))

pub overflow_add-regs-in-57-2 : goal.overflow_add-regs-in-57-2
overflow_add-regs-in-57-2 c = omega (arith, call-room (told says c.can_call-checked-in-57.ensures c.in-Ok-checked-4.is))

pub counted-regs-requires-in-57 : goal.counted-regs-requires-in-57
counted-regs-requires-in-57 c = ((found c.loop-reach.invariant.round (c.some_left.ensures.0 c.loop-reach-test.true) c.fetch-fetched.ensures c.foreign.ensures c.if-foreign.false c.in-Ok.is).less, ((omega (arith, c.loop-reach.invariant.round.priced, c.loop-reach.invariant.round.limit, c.loop-reach.invariant.round.left-within, (found c.loop-reach.invariant.round (c.some_left.ensures.0 c.loop-reach-test.true) c.fetch-fetched.ensures c.foreign.ensures c.if-foreign.false c.in-Ok.is).less)), c.price-in-57.ensures.1))

pub loop-reach-smaller-in-57 : goal.loop-reach-smaller-in-57
loop-reach-smaller-in-57 c = omega (arith, c.counted-regs-in-57.ensures.1)

pub loop-reach-preserved-in-57 : goal.loop-reach-preserved-in-57
loop-reach-preserved-in-57 c = holds c.loop-reach.invariant (c.called-in-57.ensures c.loop-reach.invariant.laid) refl refl refl (goes (found c.loop-reach.invariant.round (c.some_left.ensures.0 c.loop-reach-test.true) c.fetch-fetched.ensures c.foreign.ensures c.if-foreign.false c.in-Ok.is) (call-top-acts (found c.loop-reach.invariant.round (c.some_left.ensures.0 c.loop-reach-test.true) c.fetch-fetched.ensures c.foreign.ensures c.if-foreign.false c.in-Ok.is) c.in-57.is) (told says c.can_call-checked-in-57.ensures c.in-Ok-checked-4.is) (held-there (c.called-in-57.ensures c.loop-reach.invariant.laid)) refl (record { lines_same = ap (λ (n : Note). n.aside.lines) (c.called-in-57.ensures c.loop-reach.invariant.laid).note-is; r-rises = omega arith; s-rises = omega arith }) c.price-in-57.ensures.0 c.counted-regs-in-57.ensures.0)

pub loop-reach-smaller-in_default-checked-5 : goal.loop-reach-smaller-in_default-checked-5
loop-reach-smaller-in_default-checked-5 c = halted-less c.loop-reach.regs c.by-regs-in_default-checked-5.ensures (ap says c.in_default-checked-5.is) (found c.loop-reach.invariant.round (c.some_left.ensures.0 c.loop-reach-test.true) c.fetch-fetched.ensures c.foreign.ensures c.if-foreign.false c.in-Ok.is).less

pub loop-reach-preserved-in_default-checked-5 : goal.loop-reach-preserved-in_default-checked-5
loop-reach-preserved-in_default-checked-5 c = stays c.loop-reach.invariant (ends (found c.loop-reach.invariant.round (c.some_left.ensures.0 c.loop-reach-test.true) c.fetch-fetched.ensures c.foreign.ensures c.if-foreign.false c.in-Ok.is) (rti-acts (found c.loop-reach.invariant.round (c.some_left.ensures.0 c.loop-reach-test.true) c.fetch-fetched.ensures c.foreign.ensures c.if-foreign.false c.in-Ok.is) c.in-60.is refl refl refl) (told says (c.can_return-checked.ensures ∙ ap (λ b. returnable b c.loop-reach.regs.s) c.block.ensures) c.in_default-checked-5.is) (c.can_return-checked.ensures ∙ ap (λ b. returnable b c.loop-reach.regs.s) c.block.ensures) c.by-regs-in_default-checked-5.ensures)

pub overflow_sub-regs-in-60 : goal.overflow_sub-regs-in-60
overflow_sub-regs-in-60 c = omega (arith, return-room (note_in c.loop-reach.rows).aside.lines.block (told says (c.can_return-checked.ensures ∙ ap (λ b. returnable b c.loop-reach.regs.s) c.block.ensures) c.in-Ok-checked-5.is))

pub overflow_sub-s : goal.overflow_sub-s
overflow_sub-s c = omega (arith, return-room (note_in c.loop-reach.rows).aside.lines.block (told says (c.can_return-checked.ensures ∙ ap (λ b. returnable b c.loop-reach.regs.s) c.block.ensures) c.in-Ok-checked-5.is))

pub copy_of_s-requires : goal.copy_of_s-requires
copy_of_s-requires c = omega (arith, c.loop-reach.invariant.round.e-within)

pub copy_of_r-requires : goal.copy_of_r-requires
copy_of_r-requires c = omega (arith, c.loop-reach.invariant.round.s-within)

pub return_address-requires : goal.return_address-requires
return_address-requires c = omega (arith, c.loop-reach.invariant.round.s-within)

pub counted-regs-requires-in-60 : goal.counted-regs-requires-in-60
counted-regs-requires-in-60 c = ((found c.loop-reach.invariant.round (c.some_left.ensures.0 c.loop-reach-test.true) c.fetch-fetched.ensures c.foreign.ensures c.if-foreign.false c.in-Ok.is).less, ((omega (arith, c.loop-reach.invariant.round.priced, c.loop-reach.invariant.round.limit, c.loop-reach.invariant.round.left-within, (found c.loop-reach.invariant.round (c.some_left.ensures.0 c.loop-reach-test.true) c.fetch-fetched.ensures c.foreign.ensures c.if-foreign.false c.in-Ok.is).less)), c.price-in-60.ensures.1))

pub loop-reach-smaller-in-60 : goal.loop-reach-smaller-in-60
loop-reach-smaller-in-60 c = omega (arith, c.counted-regs-in-60.ensures.1, c.parted-regs-in-60.ensures.1)

pub loop-reach-preserved-in-60 : goal.loop-reach-preserved-in-60
loop-reach-preserved-in-60 c = holds c.loop-reach.invariant (c.release.ensures c.loop-reach.copies c.loop-reach.invariant.laid) refl refl (due-kept (note_in c.loop-reach.rows).aside.lines freed) (goes_in (found c.loop-reach.invariant.round (c.some_left.ensures.0 c.loop-reach-test.true) c.fetch-fetched.ensures c.foreign.ensures c.if-foreign.false c.in-Ok.is) (rti-acts (found c.loop-reach.invariant.round (c.some_left.ensures.0 c.loop-reach-test.true) c.fetch-fetched.ensures c.foreign.ensures c.if-foreign.false c.in-Ok.is) c.in-60.is (c.e_after_drop.ensures ∙ ap (e_after_drop_of (c.loop-reach.regs.s - 1) c.loop-reach.regs.e) (c.copy_of_s.ensures c.loop-reach.rows)) (c.copy_of_r.ensures c.loop-reach.rows) (c.return_address.ensures c.loop-reach.copies)) (told says (c.can_return-checked.ensures ∙ ap (λ b. returnable b c.loop-reach.regs.s) c.block.ensures) c.in-Ok-checked-5.is) (held-there (c.release.ensures c.loop-reach.copies c.loop-reach.invariant.laid)) refl c.price-in-60.ensures.0 c.counted-regs-in-60.ensures.0 ((ap (λ (n : Note). n.heeds) (c.release.ensures c.loop-reach.copies c.loop-reach.invariant.laid).note-is) ∙ c.loop-reach.invariant.heeds-same) c.loop-reach.invariant.unasked c.held-in-60.ensures c.parted-regs-in-60.ensures.0 (unheeded-here c.loop-reach.invariant c.release.new.rows (ap (λ (n : Note). n.heeds) (c.release.ensures c.loop-reach.copies c.loop-reach.invariant.laid).note-is) (ap (λ (n : Note). lowest_due n.aside.lines) (c.release.ensures c.loop-reach.copies c.loop-reach.invariant.laid).note-is ∙ (due-kept (note_in c.loop-reach.rows).aside.lines freed))))

pub loop-reach-smaller-in_default-exit : goal.loop-reach-smaller-in_default-exit
loop-reach-smaller-in_default-exit c = halted-less c.loop-reach.regs c.by_exit-regs.ensures (ap says_exit c.in_default-exit.is) (found c.loop-reach.invariant.round (c.some_left.ensures.0 c.loop-reach-test.true) c.fetch-fetched.ensures c.foreign.ensures c.if-foreign.false c.in-Ok.is).less

pub loop-reach-preserved-in_default-exit : goal.loop-reach-preserved-in_default-exit
loop-reach-preserved-in_default-exit c = stays c.loop-reach.invariant (ends (found c.loop-reach.invariant.round (c.some_left.ensures.0 c.loop-reach-test.true) c.fetch-fetched.ensures c.foreign.ensures c.if-foreign.false c.in-Ok.is) (exit-acts (found c.loop-reach.invariant.round (c.some_left.ensures.0 c.loop-reach-test.true) c.fetch-fetched.ensures c.foreign.ensures c.if-foreign.false c.in-Ok.is) c.in-61.is refl refl refl) (told says_exit c.can_exit-exit.ensures c.in_default-exit.is) c.can_exit-exit.ensures c.by_exit-regs.ensures)

pub overflow_sub-regs-in-61 : goal.overflow_sub-regs-in-61
overflow_sub-regs-in-61 c = omega (arith, exit-room (told says_exit c.can_exit-exit.ensures c.in-Frame.is))

pub overflow_sub-s-in-61 : goal.overflow_sub-s-in-61
overflow_sub-s-in-61 c = omega (arith, exit-room (told says_exit c.can_exit-exit.ensures c.in-Frame.is))

pub copy_of_s-requires-in-61 : goal.copy_of_s-requires-in-61
copy_of_s-requires-in-61 c = omega (arith, c.loop-reach.invariant.round.e-within)

pub copy_of_r-requires-in-61 : goal.copy_of_r-requires-in-61
copy_of_r-requires-in-61 c = omega (arith, c.loop-reach.invariant.round.s-within)

pub return_address-requires-in-61 : goal.return_address-requires-in-61
return_address-requires-in-61 c = omega (arith, c.loop-reach.invariant.round.s-within)

pub counted-regs-requires-in-61 : goal.counted-regs-requires-in-61
counted-regs-requires-in-61 c = ((found c.loop-reach.invariant.round (c.some_left.ensures.0 c.loop-reach-test.true) c.fetch-fetched.ensures c.foreign.ensures c.if-foreign.false c.in-Ok.is).less, ((omega (arith, c.loop-reach.invariant.round.priced, c.loop-reach.invariant.round.limit, c.loop-reach.invariant.round.left-within, (found c.loop-reach.invariant.round (c.some_left.ensures.0 c.loop-reach-test.true) c.fetch-fetched.ensures c.foreign.ensures c.if-foreign.false c.in-Ok.is).less)), c.price-in-61.ensures.1))

pub loop-reach-smaller-in-61 : goal.loop-reach-smaller-in-61
loop-reach-smaller-in-61 c = omega (arith, c.counted-regs-in-61.ensures.1, c.parted-regs-in-61.ensures.1)

pub loop-reach-preserved-in-61 : goal.loop-reach-preserved-in-61
loop-reach-preserved-in-61 c = stays c.loop-reach.invariant (goes_in (found c.loop-reach.invariant.round (c.some_left.ensures.0 c.loop-reach-test.true) c.fetch-fetched.ensures c.foreign.ensures c.if-foreign.false c.in-Ok.is) (exit-acts (found c.loop-reach.invariant.round (c.some_left.ensures.0 c.loop-reach-test.true) c.fetch-fetched.ensures c.foreign.ensures c.if-foreign.false c.in-Ok.is) c.in-61.is (c.e_after_drop-in-61.ensures ∙ ap (e_after_drop_of (c.loop-reach.regs.s - 1) c.loop-reach.regs.e) (c.copy_of_s-in-61.ensures c.loop-reach.rows)) (c.copy_of_r-in-61.ensures c.loop-reach.rows) (c.return_address-in-61.ensures c.loop-reach.copies)) (told says_exit c.can_exit-exit.ensures c.in-Frame.is) refl refl c.price-in-61.ensures.0 c.counted-regs-in-61.ensures.0 c.loop-reach.invariant.heeds-same c.loop-reach.invariant.unasked c.held-in-61.ensures c.parted-regs-in-61.ensures.0 (unheeded-here c.loop-reach.invariant c.loop-reach.rows refl refl))

pub counted-regs-requires-in-62 : goal.counted-regs-requires-in-62
counted-regs-requires-in-62 c = ((found c.loop-reach.invariant.round (c.some_left.ensures.0 c.loop-reach-test.true) c.fetch-fetched.ensures c.foreign.ensures c.if-foreign.false c.in-Ok.is).less, ((omega (arith, c.loop-reach.invariant.round.priced, c.loop-reach.invariant.round.limit, c.loop-reach.invariant.round.left-within, (found c.loop-reach.invariant.round (c.some_left.ensures.0 c.loop-reach-test.true) c.fetch-fetched.ensures c.foreign.ensures c.if-foreign.false c.in-Ok.is).less)), c.price-in-62.ensures.1))

pub loop-reach-smaller-in-62 : goal.loop-reach-smaller-in-62
loop-reach-smaller-in-62 c = omega (arith, c.counted-regs-in-62.ensures.1, c.paused-regs.ensures.1)

pub loop-reach-preserved-in-62 : goal.loop-reach-preserved-in-62
loop-reach-preserved-in-62 c = stays c.loop-reach.invariant (paused (found c.loop-reach.invariant.round (c.some_left.ensures.0 c.loop-reach-test.true) c.fetch-fetched.ensures c.foreign.ensures c.if-foreign.false c.in-Ok.is) (pause-is (found c.loop-reach.invariant.round (c.some_left.ensures.0 c.loop-reach-test.true) c.fetch-fetched.ensures c.foreign.ensures c.if-foreign.false c.in-Ok.is) c.in-62.is) refl c.price-in-62.ensures.0 (record { lines_same = refl; r-rises = omega arith; s-rises = omega arith }) c.in-62.is c.counted-regs-in-62.ensures.0 c.paused-regs.ensures.0)

pub on_cells-done-requires : goal.on_cells-done-requires
on_cells-done-requires c = (c.loop-reach.invariant.round.p-within, (omega (arith, c.if-code-gt127.false), (record { not07 = (search rules); not08 = (search rules); not09 = (search rules); not_0b = (search rules); not_0c = (search rules); not_0d = (search rules); not_2d = (search rules); not_2e = (search rules); not_2f = (search rules); not30 = (search rules); not31 = (search rules); not32 = (search rules); not38 = (search rules); not39 = (search rules); not_3c = (search rules); not_3d = (search rules); not_3e = (search rules) })))

pub loop-reach-smaller-in_default-done-2 : goal.loop-reach-smaller-in_default-done-2
loop-reach-smaller-in_default-done-2 c = halted-less c.loop-reach.regs c.by-regs-in_default-done-2.ensures (ap says c.in_default-done-2.is) (found c.loop-reach.invariant.round (c.some_left.ensures.0 c.loop-reach-test.true) c.fetch-fetched.ensures c.foreign.ensures c.if-foreign.false c.in-Ok.is).less

pub loop-reach-preserved-in_default-done-2 : goal.loop-reach-preserved-in_default-done-2
loop-reach-preserved-in_default-done-2 c = stays c.loop-reach.invariant (cells-end (found c.loop-reach.invariant.round (c.some_left.ensures.0 c.loop-reach-test.true) c.fetch-fetched.ensures c.foreign.ensures c.if-foreign.false c.in-Ok.is) (search rules) (search rules) c.on_cells-done.ensures (ap says c.in_default-done-2.is) c.by-regs-in_default-done-2.ensures)

pub counted-regs-requires-in_default-code : goal.counted-regs-requires-in_default-code
counted-regs-requires-in_default-code c = ((found c.loop-reach.invariant.round (c.some_left.ensures.0 c.loop-reach-test.true) c.fetch-fetched.ensures c.foreign.ensures c.if-foreign.false c.in-Ok.is).less, ((omega (arith, c.loop-reach.invariant.round.priced, c.loop-reach.invariant.round.limit, c.loop-reach.invariant.round.left-within, (found c.loop-reach.invariant.round (c.some_left.ensures.0 c.loop-reach-test.true) c.fetch-fetched.ensures c.foreign.ensures c.if-foreign.false c.in-Ok.is).less)), c.price-in_default-code.ensures.1))

pub loop-reach-smaller : goal.loop-reach-smaller
loop-reach-smaller c = omega (arith, c.counted-regs-in_default-code.ensures.1)

pub loop-reach-preserved : goal.loop-reach-preserved
loop-reach-preserved c = stays c.loop-reach.invariant (goes (found c.loop-reach.invariant.round (c.some_left.ensures.0 c.loop-reach-test.true) c.fetch-fetched.ensures c.foreign.ensures c.if-foreign.false c.in-Ok.is) (cells-acts (found c.loop-reach.invariant.round (c.some_left.ensures.0 c.loop-reach-test.true) c.fetch-fetched.ensures c.foreign.ensures c.if-foreign.false c.in-Ok.is) (search rules) (search rules) c.on_cells-done.ensures) (ap says c.in-Ok-done-2.is) refl refl (record { lines_same = refl; r-rises = omega arith; s-rises = omega arith }) c.price-in_default-code.ensures.0 c.counted-regs-in_default-code.ensures.0)

pub returns : goal.returns
returns c = record { leaves = record { nothing_left = omega (arith, (c.some_left.ensures.1 c.loop-reach-test.false)); unspent-within = c.loop-reach.invariant.round.unspent-within; priced = omega (arith, c.loop-reach.invariant.round.priced); long = c.loop-reach.invariant.round.long; laid = c.loop-reach.invariant.laid; loses = c.loop-reach.invariant.loses }; heeds-same = c.loop-reach.invariant.heeds-same; due-same = c.loop-reach.invariant.due-same; unmarked = λ h. unmarked-then c.loop-reach.regs.again (λ is. c.loop-reach.invariant.round.marks is h); same = c.loop-reach.invariant.round.over (c.some_left.ensures.1 c.loop-reach-test.false); answered = c.loop-reach.invariant.round.answered; goes = c.loop-reach.invariant.round.more }
