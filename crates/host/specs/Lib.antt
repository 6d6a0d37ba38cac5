-- a machine handed in, run and handed back
pub mod Handed
-- a run of what an image spells, by way of the reader's bytes
pub mod Read
-- nothing below has to be believed
pub mod Laws
