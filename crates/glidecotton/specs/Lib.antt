-- the whole job: image, memory and text
pub mod Bench
-- the same for a host, its answer as one number
pub mod Host
-- nothing below has to be believed
pub mod Laws
