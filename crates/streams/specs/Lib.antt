-- how much was read
pub mod Input
-- nothing below has to be believed
pub mod Laws
