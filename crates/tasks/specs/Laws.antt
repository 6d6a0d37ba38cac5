-- a quantum or a budget that 32 bits do not hold
pub mod Narrowed
-- no second answer
pub mod Only
