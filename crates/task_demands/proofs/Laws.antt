-- memories that are alike show the same instruction
pub mod Fetched
-- what a store leaves elsewhere
pub mod Stores
-- an instruction's row on memories that are alike
pub mod SameRow
-- steps and runs on memories that are alike
pub mod SameStep
-- the next ready task
pub mod Circular
-- the tasks that are asked before one that waits
pub mod Waiting
