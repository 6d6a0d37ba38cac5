-- What a call does, with the counter as return address.
use mathlib.Core.Path.{◌≡◌, refl, ap, ◌∙◌}
use native.Mathlib.Omega.{arith}
use Rattle.requests.specs.Requests.{says_due}
use Rattle.run_words.specs.Laws.Entering.{nobody-in, finds, line-in}
use borrow.Author.Rules.{rules}
use Rattle.run_entry.proofs.served.let_in.Goals as goal

pub returns-in_default : goal.returns-in_default
returns-in_default c = nobody-in c.args.returns.now c.args.rows.now c.args.copies.now c.args.at c.lines-lines.ensures c.entering.ensures (ap says_due c.in_default.is) c.requires

pub called-requires : goal.called-requires
called-requires c = (finds c.args.returns.now c.args.rows.now c.args.copies.now c.args.at c.lines-lines.ensures c.entering.ensures (ap says_due c.in-Some.is)).s-room

pub offset_bounds-returns-r : goal.offset_bounds-returns-r
offset_bounds-returns-r c = omega (arith, (finds c.args.returns.now c.args.rows.now c.args.copies.now c.args.at c.lines-lines.ensures c.entering.ensures (ap says_due c.in-Some.is)).r-room)

pub bounds-returns-r : goal.bounds-returns-r
bounds-returns-r c = omega (arith, (finds c.args.returns.now c.args.rows.now c.args.copies.now c.args.at c.lines-lines.ensures c.entering.ensures (ap says_due c.in-Some.is)).r-room)

pub overflow_add-to : goal.overflow_add-to
overflow_add-to c = omega (arith, (finds c.args.returns.now c.args.rows.now c.args.copies.now c.args.at c.lines-lines.ensures c.entering.ensures (ap says_due c.in-Some.is)).r-room, (finds c.args.returns.now c.args.rows.now c.args.copies.now c.args.at c.lines-lines.ensures c.entering.ensures (ap says_due c.in-Some.is)).s-room, (finds c.args.returns.now c.args.rows.now c.args.copies.now c.args.at c.lines-lines.ensures c.entering.ensures (ap says_due c.in-Some.is)).within)

pub overflow_add-to-2 : goal.overflow_add-to-2
overflow_add-to-2 c = omega (arith, (finds c.args.returns.now c.args.rows.now c.args.copies.now c.args.at c.lines-lines.ensures c.entering.ensures (ap says_due c.in-Some.is)).r-room, (finds c.args.returns.now c.args.rows.now c.args.copies.now c.args.at c.lines-lines.ensures c.entering.ensures (ap says_due c.in-Some.is)).s-room, (finds c.args.returns.now c.args.rows.now c.args.copies.now c.args.at c.lines-lines.ensures c.entering.ensures (ap says_due c.in-Some.is)).within)

pub overflow_mul-to : goal.overflow_mul-to
overflow_mul-to c = omega (arith, (finds c.args.returns.now c.args.rows.now c.args.copies.now c.args.at c.lines-lines.ensures c.entering.ensures (ap says_due c.in-Some.is)).r-room, (finds c.args.returns.now c.args.rows.now c.args.copies.now c.args.at c.lines-lines.ensures c.entering.ensures (ap says_due c.in-Some.is)).s-room, (finds c.args.returns.now c.args.rows.now c.args.copies.now c.args.at c.lines-lines.ensures c.entering.ensures (ap says_due c.in-Some.is)).within)

pub returns : goal.returns
returns c = line-in c.args.returns.now c.args.rows.now c.args.copies.now c.args.at c.lines-lines.ensures c.entering.ensures (ap says_due c.in-Some.is) c.serving.ensures (c.called.ensures c.requires).frames-are (c.called.ensures c.requires).levels-are (c.called.ensures c.requires).note-is (c.set_lines.ensures c.called.new.copies (c.called.ensures c.requires).laid) refl
