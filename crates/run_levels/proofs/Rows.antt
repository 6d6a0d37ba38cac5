-- What is read in the rows and in the copies, and what a store to a level in view or a call makes of them.
use Rattle.run_words.specs.Laws.Levels.{read-r, read-s, read-p, read-return, read-throw, called-made}
use Rattle.run_words.specs.Laws.Seen.{local-read, cell-read, local-kept, cell-kept}

pub ruleset rows = (read-r, read-s, read-p, read-return, read-throw, called-made, local-read, cell-read, local-kept, cell-kept)
