-- Before each pass so many words and numbers are put; a pass puts one more.
use Rattle.std.proofs.Common.{rules}
use Rattle.reason.proofs.Filling.{filling_number, filling_other, filling_rest, filling_short, filling_ends}
use Rattle.reason.proofs.words.put.Goals.{else-letter-eq-MARK-via-else-letter-eq-MARK, else-letter-eq-MARK-via-then-letter-eq-MARK+then-left-lt1}
use Rattle.reason.proofs.words.put.Goals as goal

pub loop-letter-preserved-in-loop-letter : goal.loop-letter-preserved-in-loop-letter
loop-letter-preserved-in-loop-letter c = search (rules, filling_number)

pub loop-letter-preserved : goal.loop-letter-preserved
loop-letter-preserved c =
    elim c.else-letter-eq-MARK.branch [
      | else-letter-eq-MARK-via-else-letter-eq-MARK w ↦ search (rules, filling_other)
      | else-letter-eq-MARK-via-then-letter-eq-MARK+then-left-lt1 w ↦ search (rules, filling_rest)
    ]

pub returns : goal.returns
returns c = search (rules, filling_short, filling_ends)
