-- what bars some bytes, and where an access reaches
pub mod Bars
pub mod Spots
-- nothing below has to be believed
pub mod Laws
