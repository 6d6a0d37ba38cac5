-- the line that enters a machine
pub mod Entering
-- a number in which a bit is clear has room for it
pub mod Room
-- no second answer
pub mod Only
