-- The image file: which bytes spell an image. Document 01, "Image file".
use Rattle.std.specs.Prelude.{List, [], ◌∷◌, ◌++◌, ℕ, ◌+◌, ◌*◌, ◌^◌, ◌≤◌, length}
use Rattle.links.specs.Depths.{cells_depth}
use Rattle.machine.specs.Limits.{memory_length, most_budget}
use Rattle.numbers.specs.Bytes.{bytes_of}
use Rattle.numbers.specs.Lists.{bytes_of_list, AllBelow}
use Rattle.image.specs.declared.Section.{Section}
use Rattle.image.specs.declared.Section.TheVariants.{Memory, Cells, Budget}
use Rattle.image.specs.declared.Limits.{Limits}

-- the budget of a file that gives none, which is request P10's in the place of document 01's
abbrev pub default_budget : ℕ
default_budget = 250000

-- how many bytes a count has, and a cell
abbrev pub count_width : ℕ
count_width = 4

abbrev pub cell_width : ℕ
cell_width = 4

-- the sections in their order: how many bytes an element has, the fewest elements and the most
abbrev pub limits : Section → Limits
limits Memory = record { width = 1; fewest = 1; most = memory_length }
limits Cells = record { width = cell_width; fewest = 0; most = cells_depth }
limits Budget = record { width = cell_width; fewest = 0; most = 1 }

-- the most bytes that a section has, and the longest file
abbrev pub longest_section : Section → ℕ
longest_section s = count_width + (limits s).width * (limits s).most

abbrev pub longest_file : ℕ
longest_file = longest_section Memory + longest_section Cells + longest_section Budget

-- a section stands after its count
unfoldable pub section_of : Section → List ℕ → List ℕ
section_of s values = bytes_of count_width (length values) ++ bytes_of_list (limits s).width values

-- values that a section may hold
pub record Within (s : Section) (values : List ℕ) : Type 0 where
  pub enough : (limits s).fewest ≤ length values
  pub fit : length values ≤ (limits s).most
  pub in-width : AllBelow (2 ^ (8 * (limits s).width)) values

-- what a file spells: the memory bytes from address 0; the parameter cells, deepest first; a budget, or none
pub record Image : Type 0 where
  pub memory : List ℕ
  pub cells : List ℕ
  pub budget : List ℕ

-- the budget that it comes to
abbrev pub budget_of : List ℕ → ℕ
budget_of [] = default_budget
budget_of (budget ∷ _) = budget

-- an image that a file may spell
pub record Spellable (i : Image) : Type 0 where
  pub memory-within : Within Memory i.memory
  pub cells-within : Within Cells i.cells
  pub budget-within : Within Budget i.budget
  pub budget-low : budget_of i.budget ≤ most_budget

-- the file that spells an image: its sections and nothing after them
unfoldable pub spelled : Image → List ℕ
spelled i = section_of Memory i.memory ++ (section_of Cells i.cells ++ section_of Budget i.budget)
