-- The cells in view are bytes, as memory's are: request P5.
use Rattle.std.specs.Prelude.{List, ℕ, length}
use Rattle.std.proofs.lemmas.List.Edits.{sets}
use Rattle.numbers.specs.Lists.{list_at, bytes_of_list}

-- each cell's four bytes, the highest first
abbrev pub bytes_of_cells : List ℕ → List ℕ
bytes_of_cells cells = bytes_of_list 4 cells

-- the cells that the bytes spell once some were written from a place on
abbrev pub overwritten : List ℕ → ℕ → List ℕ → List ℕ
overwritten cells a bytes = list_at 4 (length cells) (sets (bytes_of_cells cells) a bytes) 0
