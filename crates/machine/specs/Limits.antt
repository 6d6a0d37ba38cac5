-- The memory's length, the budget's limit and the greatest memory sum: document 01, "The machine" and "Steps and clock cycles".
use Rattle.std.specs.Prelude.{ℕ}

abbrev pub memory_length : ℕ
memory_length = 32768

-- request P1: the shared bytes, and each task's part above them
abbrev pub shared_length : ℕ
shared_length = 16384

abbrev pub part_length : ℕ
part_length = 4096

abbrev pub tasks_count : ℕ
tasks_count = 4

-- the most steps of a turn
abbrev pub most_quantum : ℕ
most_quantum = 1000

abbrev pub most_budget : ℕ
most_budget = 1000000

-- request P9: the greatest sum of a memory, all of whose bytes are FF
abbrev pub most_sum : ℕ
most_sum = 8355840
