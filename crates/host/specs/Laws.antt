-- a budget that 32 bits do not hold
pub mod Budget
-- no second answer
pub mod Only
-- what was read is what the next run takes, with its sum
pub mod Taken
