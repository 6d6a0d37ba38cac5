-- A whole machine as bytes, and what its run counted: a cell takes 4 bytes, a stack pointer or a copy of one takes 8, the highest byte first.
-- What joins the machine later joins the end of its list, so that every place before it stays.
use Rattle.std.specs.Prelude.{List, [], ◌∷◌, ℕ}
use Rattle.links.specs.Depths.{cells_depth, returns_depth, frames_count, levels_count, locals_count, level_cells}
use Rattle.links.specs.declared.Frame.{Frame}
use Rattle.links.specs.declared.Level.{Level}
use Rattle.links.specs.declared.Links.{Links}
use Rattle.machine.specs.Limits.{tasks_count}
use Rattle.machine.specs.Tasks.{Task}
use Rattle.machine.specs.declared.Machine.{Machine}
use Rattle.machine.specs.declared.Steps.{Steps}
use Rattle.machine.specs.declared.Cycles.{Cycles}
use Rattle.state.specs.Parts.{Part, Field, ◌of◌, number, array, fields}

abbrev pub cell : Part ℕ
cell = number 4

abbrev pub pointer : Part ℕ
pointer = number 8

-- a subroutine level: its locals, the copy of R, the return address
abbrev pub frame_fields : List (Field Frame)
frame_fields = array locals_count cell of (λ f. f.locals) ∷ pointer of (λ f. f.r) ∷ cell of (λ f. f.address) ∷ []

abbrev pub frame : Part Frame
frame = fields frame_fields

-- an exception level: its cells, the copies of S and of P, the throw address
abbrev pub level_fields : List (Field Level)
level_fields = array level_cells cell of (λ l. l.cells) ∷ pointer of (λ l. l.s) ∷ pointer of (λ l. l.p) ∷ cell of (λ l. l.address) ∷ []

abbrev pub level : Part Level
level = fields level_fields

-- the return cells and R, the subroutine levels and S, the exception levels and E
abbrev pub links_fields : List (Field Links)
links_fields =
    array returns_depth cell of (λ l. l.returns)
    ∷ pointer of (λ l. l.r)
    ∷ array frames_count frame of (λ l. l.frames)
    ∷ pointer of (λ l. l.s)
    ∷ array levels_count level of (λ l. l.levels)
    ∷ pointer of (λ l. l.e)
    ∷ []

abbrev pub links : Part Links
links = fields links_fields

-- the parameter cells and P, the linked stacks, the program counter, the extend flag; with request P6 the address and the code of the
-- last THROW of non-zero; with request P4 the mask, the waiting requests and the block of the interrupt lines
abbrev pub state_fields : List (Field Machine)
state_fields =
    array cells_depth cell of (λ m. m.cells)
    ∷ pointer of (λ m. m.p)
    ∷ links of (λ m. m.links)
    ∷ cell of (λ m. m.counter)
    ∷ cell of (λ m. m.flag)
    ∷ cell of (λ m. m.thrown.address)
    ∷ cell of (λ m. m.thrown.code)
    ∷ cell of (λ m. m.lines.mask)
    ∷ cell of (λ m. m.lines.waiting)
    ∷ cell of (λ m. m.lines.block)
    ∷ []

abbrev pub state : Part Machine
state = fields state_fields

-- a task: its machine, the number that it keeps
abbrev pub task_fields : List (Field Task)
task_fields = state of (λ t. t.machine) ∷ pointer of (λ t. t.kept) ∷ []

abbrev pub task : Part Task
task = fields task_fields

-- four tasks, one after the other
abbrev pub tasks : Part (List Task)
tasks = array tasks_count task

-- what a run counted, and with request P9 the memory sum that it hands back, each number as wide as a pointer
pub record Counted : Type 0 where
  pub answer : ℕ
  pub steps : Steps
  pub cycles : Cycles
  pub sum : ℕ

abbrev pub result_fields : List (Field Counted)
result_fields = pointer of (λ c. c.answer) ∷ pointer of (λ c. c.steps.0) ∷ pointer of (λ c. c.cycles.0) ∷ pointer of (λ c. c.sum) ∷ []

abbrev pub result : Part Counted
result = fields result_fields
