-- a good image is told as good, any other file with a fault
pub mod Told
-- a small file for each line
pub mod Cases
-- no second answer
pub mod Only
