-- four tasks handed in, run and handed back
pub mod Handed
-- nothing below has to be believed
pub mod Laws
