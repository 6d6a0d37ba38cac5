-- what the answer about one section says
pub mod Met
-- one section: what is spelled is judged whole and read, and back
pub mod Section
-- the whole file, both ways
pub mod Sound
pub mod Complete
-- where a fault has its place
pub mod Faults
-- a small file for each clause
pub mod Cases
-- no second answer
pub mod Only
-- the memory sum that is handed out
pub mod Sum
-- document 01's sample, and the default budget
pub mod Sample
