-- that a run of tasks ends
pub mod Ends
-- what a run of any four tasks leaves
pub mod One
-- the single run of a task
pub mod Single
-- what a reach shuts out
pub mod Isolation
-- who has turns, and who waits for one
pub mod Fairness
-- a run of tasks as one task sees it
pub mod Histories
