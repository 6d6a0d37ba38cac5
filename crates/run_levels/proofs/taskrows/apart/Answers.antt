-- Before pass t the first t machines are written, and what was lost before is what it was.
use Rattle.std.proofs.Common.{◌<◌, [], refl, ap, ◌∙◌, arith, rules, get_or}
use Rattle.std.proofs.lemmas.List.{set-get_or}
use Rattle.machine.specs.Limits.{tasks_count}
use Rattle.machine.specs.Tasks.{no_machine}
use Rattle.run_words.specs.Levels.{no_pointers, pointers_of}
use Rattle.run_words.specs.Notes.{Note}
use Rattle.run_words.specs.Laws.Filled.{length-mapped}
use Rattle.run_words.specs.Laws.Losses.{losses-kept}
use Rattle.run_words.specs.Laws.Tasked.{apart_none, apart_next, rows-there, heeds-kept}
use Rattle.run_levels.proofs.Made.{made-at}
use Rattle.run_levels.proofs.taskrows.apart.Goals as goal

pub loop-t-init : goal.loop-t-init
loop-t-init c = (apart_none c.args.machines c.args.cells.now c.args.returns.now c.args.rows.now c.args.copies.now _ (search (rules, length-mapped)) (record { cells-long = c.requires.0.0; returns-long = c.requires.0.1; saved-long = c.from_fn-saved.ensures.items.long; laid = c.requires.1 }), (refl, λ t h. refl))

pub loop-t-preserved : goal.loop-t-preserved
loop-t-preserved c =
    let t = c.loop-t.t in
    let less : t < tasks_count = omega arith in
    let now = c.loop-t.invariant.0 in
    let saved = c.from_fn-saved.result in
    let at = get_or saved t no_pointers in
    let is = made-at _ _ saved tasks_count no_pointers (λ i. pointers_of (get_or c.args.machines i no_machine)) (λ i y q h k. search rules) c.from_fn-saved.ensures.items t less in
    let row = rows-there now.seats t less [] [] c.apart.new.rows [] at in
    let next = apart_next c.args.machines c.loop-t.cells c.loop-t.returns c.loop-t.rows c.loop-t.copies saved t now less c.apart.new.rows c.apart.new.copies at c.apart.ensures is in
    let kept = rw (set-get_or saved t no_pointers) at next in
    (kept, (losses-kept c.loop-t.rows t c.apart.new.rows less row (ap (λ (n : Note). n.lost) c.apart.ensures.note-is) ∙ c.loop-t.invariant.1.0, heeds-kept c.args.rows.now c.loop-t.rows t c.apart.new.rows row (ap (λ (n : Note). n.heeds) c.apart.ensures.note-is) c.loop-t.invariant.1.1))
