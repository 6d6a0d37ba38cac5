-- every run of tasks ends
pub mod Ends
-- no second answer
pub mod Only
-- demand 1: what a run of any four tasks leaves, and that the next one takes it
pub mod One
-- demand 3 for each task
pub mod Three
-- each task notes its own throws
pub mod Thrown
-- lines enter task 0 only
pub mod Lines
-- the memory sum of four tasks
pub mod Summed
-- isolation: a turn leaves the other tasks alone, and takes no notice of them
pub mod Isolation
-- fairness: how long a ready task waits
pub mod Fairness
-- one ready task: its single run
pub mod Single
