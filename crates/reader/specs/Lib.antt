-- an image handed in, and the machine that it spells handed out
pub mod Reads
-- nothing below has to be believed
pub mod Laws
