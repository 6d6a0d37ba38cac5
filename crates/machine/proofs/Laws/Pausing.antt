-- Code 3E is PAUSE: it is known, has one byte, takes and puts no cell, and costs one cycle.
use Rattle.std.specs.Prelude.{◌≡◌, refl}
use Rattle.machine.specs.Codes.{none, SHUFFLE, PAUSE, entry, table, entry_at, code_pause}

pub pause-listed : entry_at code_pause ≡ entry (SHUFFLE PAUSE) none 0 0 1
unfolding entry_at table
pause-listed = refl
