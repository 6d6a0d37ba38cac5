-- how a part of a state stands in bytes
pub mod Parts
-- the machine's parts, one after the other
pub mod Layout
-- what the public functions promise
pub mod Promise
-- what a host has after an exported call
pub mod Lent
-- the number that it is told
pub mod Answered
-- a number that it hands in and that 32 bits may not hold
pub mod Narrowed
-- what the private functions promise each other
pub mod Places
pub mod Laws
