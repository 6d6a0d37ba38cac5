-- What the functions below the run promise, in the definition's own terms.
use Rattle.std.specs.Prelude.{◌≡◌, true, false, List, ℕ, ◌+◌, ◌≤◌, leb, set}
use Rattle.plain.specs.Answer.{Answer, refuses, gives}
use Rattle.plain.specs.Choice.{pick}
use Rattle.links.specs.Depths.{cells_depth}
use Rattle.machine.specs.Limits.{memory_length}
use Rattle.machine.specs.Reach.{is_outside, is_foreign}
use Rattle.machine.specs.Codes.{Op, entry_at}
use Rattle.machine.specs.Fetch.{Instruction, instruction_at}
use Rattle.numbers.specs.Bytes.{byte_at}
use Rattle.machine.specs.Step.{done, cost_of, carried}
use Rattle.machine.specs.declared.Machine.{Machine}
use Rattle.machine.specs.declared.Reach.{Reach}
use Rattle.run_words.specs.Answers.{step_by}
use Rattle.run_words.specs.Machines.{with_stack, in_reach}
use Rattle.run_words.specs.declared.Stack.{Stack}

-- a fetched instruction, or 3 where a byte of it is outside memory
abbrev pub fetched_of : Instruction → Answer Instruction
fetched_of i = pick (is_outside i.bar) (refuses 3) (gives i)

-- what is fetched here by anybody to whom no byte of it is foreign
abbrev pub Fetches : List ℕ → ℕ → (Reach → Answer Instruction) → Type 0
Fetches mem at said =
    (reach : Reach) → is_foreign (instruction_at reach mem at).bar ≡ false → said reach ≡ fetched_of (instruction_at reach mem at)

-- the same where this code stands
abbrev pub FetchedAt : ℕ → List ℕ → ℕ → (Reach → Answer Instruction) → Type 0
FetchedAt code mem at said = byte_at mem at ≡ code → Fetches mem at said

-- a code that is no literal and not JSL
pub record OneByte (code : ℕ) : Type 0 where
  pub not34 : code ≡ 0x34 → ⊥
  pub not35 : code ≡ 0x35 → ⊥
  pub not36 : code ≡ 0x36 → ⊥
  pub not38 : code ≡ 0x38 → ⊥

-- a refusal leaves the cells as they were
abbrev pub Unaltered : List ℕ → List ℕ → Answer Stack → Type 0
Unaltered cells cells' (refuses number) = cells' ≡ cells
Unaltered cells cells' (gives at) = Unit {0}

-- an instruction on the parameter cells is carried out as defined, whoever carries it out, whatever the memory and the rest of the machine hold
abbrev pub CarriesOut : ℕ → ℕ → ℕ → List ℕ → ℕ → ℕ → List ℕ → Answer Stack → Type 0
CarriesOut code operand next cells p flag cells' said =
    (reach : Reach) (mem : List ℕ) (rest : Machine) →
    let i = in_reach reach code operand next in
    let m = with_stack cells p rest.counter flag rest in
    (carried i mem m ≡ step_by said (λ at. done mem (with_stack cells' at.p at.counter at.flag rest) (cost_of i m))) ×
    Unaltered cells cells' said

-- a code of this instruction, which takes so many cells
pub record Spells (code : ℕ) (op : Op) (takes : ℕ) : Type 0 where
  pub known : (entry_at code).known ≡ true
  pub names : (entry_at code).op ≡ op
  pub asks : (entry_at code).takes ≡ takes

-- the same for every code of one instruction
abbrev pub Meets : Op → ℕ → ℕ → ℕ → List ℕ → ℕ → ℕ → List ℕ → Answer Stack → Type 0
Meets op takes operand next cells p flag cells' said =
    (code : ℕ) → Spells code op takes → CarriesOut code operand next cells p flag cells' said

-- a cell is pushed, unless P would pass 64
abbrev pub cell_pushed : ℕ → ℕ → ℕ → Answer Stack
cell_pushed p flag next = pick (leb cells_depth p) (refuses 8) (gives (record { p = p + 1; flag = flag; counter = next }))

abbrev pub pushed_cells : List ℕ → ℕ → ℕ → List ℕ
pushed_cells cells p value = pick (leb cells_depth p) cells (set cells p value)

-- none of the codes that the run carries out on the linked stacks, the memory and the cells in view, and not PAUSE
pub record Unlinked (code : ℕ) : Type 0 where
  pub not07 : code ≡ 0x07 → ⊥
  pub not08 : code ≡ 0x08 → ⊥
  pub not09 : code ≡ 0x09 → ⊥
  pub not_0b : code ≡ 0x0B → ⊥
  pub not_0c : code ≡ 0x0C → ⊥
  pub not_0d : code ≡ 0x0D → ⊥
  pub not_2d : code ≡ 0x2D → ⊥
  pub not_2e : code ≡ 0x2E → ⊥
  pub not_2f : code ≡ 0x2F → ⊥
  pub not30 : code ≡ 0x30 → ⊥
  pub not31 : code ≡ 0x31 → ⊥
  pub not32 : code ≡ 0x32 → ⊥
  pub not38 : code ≡ 0x38 → ⊥
  pub not39 : code ≡ 0x39 → ⊥
  pub not_3c : code ≡ 0x3C → ⊥
  pub not_3d : code ≡ 0x3D → ⊥
  pub not_3e : code ≡ 0x3E → ⊥

-- a reach that ends with memory
pub record Bounded (reach : Reach) : Type 0 where
  pub shared-within : reach.shared ≤ memory_length
  pub end-within : reach.end ≤ memory_length
