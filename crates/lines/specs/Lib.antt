-- what a call answers, and what the state's bytes are then
pub mod Bytes
-- what that means for the machine that they spell
pub mod Meaning
-- nothing below has to be believed
pub mod Laws
