-- the memory's length, the budget's limit and the greatest memory sum
pub mod Limits
-- the numbers of refusals, by name
pub mod Refusals
-- who may touch which byte
pub mod Reach
-- interrupt lines: when one enters, and what then
pub mod Lines
-- when a state is well formed, and the fresh machine
pub mod State
-- the codes: a table of what depends on a code alone
pub mod Codes
-- where an access lies
pub mod Memory
-- the cells in view as bytes
pub mod View
-- the instruction at the program counter
pub mod Fetch
-- what each instruction does, a row for each
pub mod Rows
-- the tests before an instruction, in the order of their numbers
pub mod Checks
-- one instruction: refused with a number, or carried out
pub mod Step
-- a run under a budget
pub mod Run
-- what a run leaves, counted on
pub mod Added
-- four tasks, in turns
pub mod Tasks
-- the memory sum beside a run
pub mod Sum
-- the starred lines of the bench sheet
pub mod Sheet
-- where a THROW of non-zero goes on, what S, R and P then are, and what it notes
pub mod AfterThrow
-- what a line that enters leaves
pub mod AfterEntry
-- what a machine and a memory that exist can hold
pub mod Fits
