-- The state first, then the number; the lists are as long as the arrays.
use mathlib.Core.Path.{sym, ◌∙◌}
use Rattle.run_words.specs.Laws.Filled.{length-mapped}
use borrow.Author.Rules.{rules}
use Rattle.run_entry.proofs.formed.task.Goals as goal

pub returns-then-well_formed : goal.returns-then-well_formed
returns-then-well_formed c = (rw (sym c.well_formed-2.ensures ∙ c.if-well_formed.true) c.can_keep.ensures, record { cells-long = search rules; shaped = record { returns-long = search rules; frames-long = search (rules, length-mapped); levels-long = search (rules, length-mapped) } })

pub returns : goal.returns
returns c = (rw (sym c.well_formed-2.ensures ∙ c.if-well_formed.false), record { cells-long = search rules; shaped = record { returns-long = search rules; frames-long = search (rules, length-mapped); levels-long = search (rules, length-mapped) } })
