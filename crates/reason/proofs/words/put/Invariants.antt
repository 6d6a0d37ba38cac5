-- Before each pass so many words and numbers are put; a pass puts one more.
use Rattle.reason.proofs.Filling.{Filling}
use Rattle.reason.proofs.words.put.Given as goal

abbrev pub invariant-loop-letter : goal.invariant-loop-letter
invariant-loop-letter l = Filling l.words l.numbers l.initial.text l.from l.text l.at l.left l.letter-index
