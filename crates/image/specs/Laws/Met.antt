-- What the answer about one section says: the reader's own, which no promise to others speaks of.
use Rattle.std.specs.Prelude.{Result, Ok, Err}
use Rattle.image.specs.Judging.{bad_file, Finding, fails, finds}
use Rattle.image.specs.declared.Fault.{Fault}
use Rattle.image.specs.declared.Span.{Span}

abbrev pub says_met : Result Span Fault → Finding Span
says_met (Err fault) = fails bad_file fault
says_met (Ok span) = finds span
