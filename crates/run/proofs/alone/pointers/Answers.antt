-- The lists are as long as the arrays.
use Rattle.run_words.specs.Laws.Filled.{length-mapped}
use borrow.Author.Rules.{rules}
use Rattle.run.proofs.alone.pointers.Goals as goal

pub returns : goal.returns
returns c = (search rules, record { cells-long = search rules; shaped = record { returns-long = search rules; frames-long = search (rules, length-mapped); levels-long = search (rules, length-mapped) } })
