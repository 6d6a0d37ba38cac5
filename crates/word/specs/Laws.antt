-- order tests against each other
pub mod Tests
-- bounds of the parts that the definitions are made of
pub mod Bounds
-- two outcomes that say the same are the same
pub mod Outcomes
-- no second answer
pub mod Only
-- integers, and cells as a sign and a size
pub mod Integers
pub mod Magnitude
-- the order of integers, as the code finds it
pub mod Order
-- what the operations mean to a mathematician
pub mod Meaning
mod Samples
