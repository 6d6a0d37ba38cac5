-- the linked stacks, an instruction and a result of their parts
pub mod Machines
-- what the answers say
pub mod Answers
-- what the checks, the accesses and the operations on two cells answer
pub mod Verdicts
pub mod Accesses
pub mod Operations
-- what stands behind the levels
pub mod Notes
-- when no line can enter
pub mod Calm
-- what the registers become
pub mod Registers
-- a machine with a row of numbers for each level
pub mod Levels
-- what a line that enters makes of a machine
pub mod Entries
-- what the memory loses by a store
pub mod Losses
-- what a run of tasks counts
pub mod Clocks
-- what the functions on the parameter cells and the fetch promise
pub mod Promises
-- what the loop asks and promises
pub mod Rounds
pub mod Laws
