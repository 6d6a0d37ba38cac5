-- The lists are as long as the arrays.
use Rattle.run_words.specs.Laws.Filled.{length-mapped}
use borrow.Author.Rules.{rules}
use Rattle.turns.proofs.turns.acceptable_four.Goals as goal

pub returns : goal.returns
returns c = (c.tasks_acceptable.ensures, (search (rules, length-mapped), search rules))
