-- every other byte stays
pub mod Elsewhere
-- the machine that the bytes spell afterwards
pub mod Machine
-- a well-formed machine stays so
pub mod Formed
-- no second answer
pub mod Only
