-- Fresh linked stacks: every number zero.
use Rattle.std.specs.Prelude.{replicate}
use Rattle.links.specs.Depths.{returns_depth, frames_count, levels_count, level_cells}
use Rattle.links.specs.Actions.{no_locals}
use Rattle.links.specs.declared.Frame.{Frame}
use Rattle.links.specs.declared.Level.{Level}
use Rattle.links.specs.declared.Links.{Links}

unfoldable pub fresh_frame : Frame
fresh_frame = record { locals = no_locals; r = 0; address = 0 }

unfoldable pub fresh_level : Level
fresh_level = record { cells = replicate level_cells 0; s = 0; p = 0; address = 0 }

unfoldable pub fresh_links : Links
fresh_links =
    record {
      returns = replicate returns_depth 0;
      r = 0;
      frames = replicate frames_count fresh_frame;
      s = 0;
      levels = replicate levels_count fresh_level;
      e = 0;
    }
