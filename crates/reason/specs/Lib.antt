-- text with numbers in it
pub mod Words
-- the line about a file
pub mod Reason
-- nothing below has to be believed
pub mod Laws
