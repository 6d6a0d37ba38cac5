-- Before a pass the levels below its number are written. The first loop leaves the exception levels and the note as they were, and the
-- second the subroutine levels and the note.
use Rattle.std.proofs.Common.{◌≡◌}
use Rattle.links.specs.Depths.{frames_count, levels_count}
use Rattle.run_words.specs.Levels.{frames_in, levels_in, note_in, Laid}
use Rattle.run_words.specs.Laws.Filled.{Filled}
use Rattle.run_levels.proofs.parts.apart.Given as goal

abbrev pub invariant-loop-s : goal.invariant-loop-s
invariant-loop-s l = record {
  laid : Laid l.rows l.copies;
  levels-are : levels_in l.rows l.copies ≡ levels_in l.initial.rows l.initial.copies;
  note-is : note_in l.rows ≡ note_in l.initial.rows;
  filled : Filled frames_count l.frames (frames_in l.rows l.copies) l.s;
}

abbrev pub invariant-loop-e : goal.invariant-loop-e
invariant-loop-e l = record {
  laid : Laid l.rows l.copies;
  frames-are : frames_in l.rows l.copies ≡ frames_in l.initial.rows l.initial.copies;
  note-is : note_in l.rows ≡ note_in l.initial.rows;
  filled : Filled levels_count l.levels (levels_in l.rows l.copies) l.e;
}
