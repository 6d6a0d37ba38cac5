-- Each part of a state is sound, and the whole is: no two machines that fit have the same bytes, nor do any two lists of tasks.
use Rattle.links.specs.Depths.{cells_depth, returns_depth, frames_count, levels_count, locals_count, level_cells}
use Rattle.machine.specs.Limits.{tasks_count}
use Rattle.state.specs.Layout.{cell, pointer, frame_fields, frame, level_fields, level, links_fields, links, state_fields, state, task_fields, task, tasks}
use Rattle.state.specs.Laws.Sound.{◌and◌, Sound, number-sound, array-sound, fields-sound}

pub cell-sound : Sound cell
cell-sound = number-sound 4

pub pointer-sound : Sound pointer
pointer-sound = number-sound 8

pub frame-sound : Sound frame
frame-sound =
    fields-sound frame_fields (array-sound cell cell-sound locals_count and pointer-sound and cell-sound and tt)
    (λ f g e i. record { locals = e.0 i; r = e.1.0 i; address = e.1.1.0 i })

pub level-sound : Sound level
level-sound =
    fields-sound level_fields (array-sound cell cell-sound level_cells and pointer-sound and pointer-sound and cell-sound and tt)
    (λ l m e i. record { cells = e.0 i; s = e.1.0 i; p = e.1.1.0 i; address = e.1.1.1.0 i })

pub links-sound : Sound links
links-sound =
    fields-sound links_fields
    (array-sound cell cell-sound returns_depth and pointer-sound and array-sound frame frame-sound frames_count and pointer-sound and array-sound level level-sound levels_count and pointer-sound and tt)
    (λ l m e i.
    record {
      returns = e.0 i;
      r = e.1.0 i;
      frames = e.1.1.0 i;
      s = e.1.1.1.0 i;
      levels = e.1.1.1.1.0 i;
      e = e.1.1.1.1.1.0 i;
    })

pub state-sound : Sound state
state-sound =
    fields-sound state_fields
    (array-sound cell cell-sound cells_depth and pointer-sound and links-sound and cell-sound and cell-sound and cell-sound and cell-sound and cell-sound and cell-sound and cell-sound and tt)
    (λ m n e i.
    record {
      cells = e.0 i;
      p = e.1.0 i;
      links = e.1.1.0 i;
      counter = e.1.1.1.0 i;
      flag = e.1.1.1.1.0 i;
      thrown = record { address = e.1.1.1.1.1.0 i; code = e.1.1.1.1.1.1.0 i };
      lines =
          record {
            mask = e.1.1.1.1.1.1.1.0 i;
            waiting = e.1.1.1.1.1.1.1.1.0 i;
            block = e.1.1.1.1.1.1.1.1.1.0 i;
          };
    })

pub task-sound : Sound task
task-sound = fields-sound task_fields (state-sound and pointer-sound and tt) (λ t u e i. record { machine = e.0 i; kept = e.1.0 i })

pub tasks-sound : Sound tasks
tasks-sound = array-sound task task-sound tasks_count
