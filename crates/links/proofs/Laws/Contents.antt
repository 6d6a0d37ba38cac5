-- Dropping a level moves only its pointer: what the levels and the cells above the pointers held stays there.
use Rattle.std.specs.Prelude.{refl}
use Rattle.links.specs.Actions.{Act, act}
use Rattle.links.specs.Restored.{SameContents, Drops, exit-drops, pop-drops, throw-drops, reset-drops}
use Rattle.links.specs.declared.Links.{Links}

pub dropping_keeps : (a : Act) (l : Links) → Drops a → SameContents l (act a l)
dropping_keeps a l exit-drops = record { returns-kept = refl; frames-kept = refl; levels-kept = refl }
dropping_keeps a l pop-drops = record { returns-kept = refl; frames-kept = refl; levels-kept = refl }
dropping_keeps a l throw-drops = record { returns-kept = refl; frames-kept = refl; levels-kept = refl }
dropping_keeps a l reset-drops = record { returns-kept = refl; frames-kept = refl; levels-kept = refl }
